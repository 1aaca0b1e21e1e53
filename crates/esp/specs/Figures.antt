-- Figures worked out by hand, for the definitions to agree with.
use Rattle.esp.specs.Numbers.{may_pass}
use Rattle.esp.specs.Packet.{sealed_length}
use Rattle.std.specs.Prelude.{◌≡◌, true, false, [], ◌∷◌, Some, None}

-- a segment's length, and its packet's
abbrev pub PacketFigures : Type 0
PacketFigures =
    (sealed_length 7 ≡ None)
    × (sealed_length 8 ≡ Some 32)
    × (sealed_length 10 ≡ Some 32)
    × (sealed_length 11 ≡ Some 36)
    × (sealed_length 1400 ≡ Some 1424)
    × (sealed_length 1401 ≡ None)

-- with 100 the highest recorded, 37 may pass, 36 may not, and 0 never may
abbrev pub WindowFigures : Type 0
WindowFigures =
    (may_pass (100 ∷ []) 37 ≡ true)
    × (may_pass (100 ∷ []) 36 ≡ false)
    × (may_pass (100 ∷ []) 100 ≡ false)
    × (may_pass (100 ∷ []) 101 ≡ true)
    × (may_pass (100 ∷ []) 0 ≡ false)
    × (may_pass [] 0 ≡ false)
