-- The numbers of carriers, and the way of an answer.
use Rattle.std.specs.Prelude.{ℕ}
use Rattle.procedure.specs.declared.carrier.Carrier.{Carrier}
use Rattle.procedure.specs.declared.carrier.Carrier.TheVariants.{Clear, By, Nothing}
use Rattle.slots.specs.Numbers.{slot_number}
use Rattle.slots.specs.declared.cover.Cover.{Cover}
use Rattle.slots.specs.declared.cover.Cover.TheVariants as cover
use Rattle.slots.specs.declared.slot.Slot.TheVariants as slot

-- 0 clear, a slot's number, 4 where nothing is sent
abbrev pub carrier_number : Carrier → ℕ
carrier_number Clear = 0
carrier_number (By k) = slot_number k
carrier_number Nothing = 4

-- an answer to a REGISTER goes the way the REGISTER came
abbrev pub cover_carrier : Cover → Carrier
cover_carrier cover.Clear = Clear
cover_carrier cover.Old = By slot.Old
cover_carrier cover.Current = By slot.Current
