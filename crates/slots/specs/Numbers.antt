-- The numbers of slots and covers.
use Rattle.std.specs.Prelude.{ℕ, Some, None, Option}
use Rattle.slots.specs.declared.cover.Cover.{Cover}
use Rattle.slots.specs.declared.cover.Cover.TheVariants as cover
use Rattle.slots.specs.declared.slot.Slot.{Slot}
use Rattle.slots.specs.declared.slot.Slot.TheVariants as slot

-- 1 old, 2 current, 3 registration
abbrev pub slot_number : Slot → ℕ
slot_number slot.Old = 1
slot_number slot.Current = 2
slot_number slot.Registration = 3

-- 0 clear, else the number of the slot
abbrev pub cover_number : Cover → ℕ
cover_number cover.Clear = 0
cover_number cover.Old = 1
cover_number cover.Current = 2

-- the slot whose set protected the opening REGISTER
abbrev pub cover_slot : Cover → Option Slot
cover_slot cover.Clear = None
cover_slot cover.Old = Some slot.Old
cover_slot cover.Current = Some slot.Current

-- the cover of an opening REGISTER that came on a slot; the registration's slot carries no traffic
abbrev pub slot_cover : Slot → Option Cover
slot_cover slot.Old = Some cover.Old
slot_cover slot.Current = Some cover.Current
slot_cover slot.Registration = None
