-- Figures worked out by hand, for the definitions to agree with.
use Rattle.std.specs.Prelude.{◌≡◌, ◌+◌, Some, None}
use Rattle.association.specs.Expiry.{expiry_of, lasting}
use Rattle.association.specs.declared.set.Set.{Set}
use Rattle.esp.specs.Figures.{PacketFigures, WindowFigures}
use Rattle.registration.specs.Entering.{block_of, proxy_spi}
use Rattle.registration.specs.Keeping.{expiry_after}
use Rattle.registration.specs.Rows.{blank}
use Rattle.slots.specs.Slots.{latest_of, live}

pub record Figures : Type 0 where
  -- segments of 8, 10, 11 and 1400 bytes make packets of 32, 32, 36 and 1424; 7 and 1401 make none
  pub packets : PacketFigures
  -- with 100 the highest recorded, 37 may pass, 36 may not, and 0 never may
  pub window : WindowFigures
  -- subscriber 1 first gets 4112, and 4113 if he offers 4112 himself
  pub first : proxy_spi 1 300 blank ≡ 4112
  pub second : proxy_spi 1 4112 blank ≡ 4113
  -- the last of subscriber 4095's sixteen SPIs
  pub last : block_of 4095 + 15 ≡ 69631
  -- at 1000 a timer of 600 does not lower an expiry of 2000, and one of 1000 gives 2030
  pub kept : (x : Set) → latest_of expiry_of (expiry_after 1000 600) (Some (lasting 2000 x)) ≡ 2000
  pub later : (x : Set) → latest_of expiry_of (expiry_after 1000 1000) (Some (lasting 2000 x)) ≡ 2030
  -- a set with expiry 1240 stands at 1239 and is gone at 1240
  pub stands : (x : Set) → live expiry_of 1239 (Some (lasting 1240 x)) ≡ Some (lasting 1240 x)
  pub gone : (x : Set) → live expiry_of 1240 (Some (lasting 1240 x)) ≡ None
