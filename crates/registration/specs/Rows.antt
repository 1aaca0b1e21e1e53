-- A row, and the questions to it.
use Rattle.std.specs.Prelude.{◌≡◌, Bool, false, cond, ◌||◌, Some, None, Option}
use Rattle.association.specs.declared.address.Pair.{Pair}
use Rattle.association.specs.declared.set.Parameters.{Parameters}
use Rattle.association.specs.declared.set.Set.{Set}
use Rattle.registration.specs.declared.row.Row.{Row}
use Rattle.procedure.specs.Stages.{pair_of}
use Rattle.procedure.specs.declared.stage.Stage.{Stage}
use Rattle.procedure.specs.declared.stage.Stage.TheVariants as stage
use Rattle.slots.specs.Slots.{empty, put}
use Rattle.slots.specs.declared.slot.Slot.{Slot}
use Rattle.slots.specs.declared.slot.Slot.TheVariants.{Old, Current, Registration}
use Rattle.slots.specs.declared.three.Slots.{Slots}

-- a row with nothing in it
abbrev pub blank : Row
blank = record { slots = empty; mask = 0; stage = stage.None }

-- the row with other slots
abbrev pub with_slots : Slots Set → Row → Row
with_slots z r = record { slots = z; mask = r.mask; stage = r.stage }

-- to end a procedure is to set stage 0 and empty slot 3
abbrev pub ended : Row → Row
ended r = record { slots = put Registration None r.slots; mask = r.mask; stage = stage.None }

-- whether a slot has a set of which f is true
abbrev pub passes : (Parameters → Bool) → Option Set → Bool
passes f None = false
passes f (Some x) = f x.parameters

-- a test of sets, which may answer b of x where `gives x b`, answers of each set what f says of its parameters
abbrev pub Says : (Set → Bool → Type 0) → (Parameters → Bool) → Type 0
Says gives f = (x : Set) (b : Bool) → gives x b → b ≡ f x.parameters

abbrev pub in_slots : (Parameters → Bool) → Slots Set → Bool
in_slots f z = passes f z.old || (passes f z.current || passes f z.registration)

-- whether a set of the row is such
abbrev pub in_row : (Parameters → Bool) → Row → Bool
in_row f r = in_slots f r.slots

-- the same outside slot 3
abbrev pub in_traffic : (Parameters → Bool) → Row → Bool
in_traffic f r = in_row f (ended r)

-- the lowest slot with a set of which f is true
abbrev pub slot_for : (Parameters → Bool) → Row → Option Slot
slot_for f r =
    cond (passes f r.slots.old) (Some Old)
    (cond (passes f r.slots.current) (Some Current)
    (cond (passes f r.slots.registration) (Some Registration) None))

-- the address and port of an opening REGISTER that waits for its challenge
abbrev pub pending_pair : Stage → Option Pair
pending_pair stage.None = None
pending_pair (stage.Offered p d) = Some (pair_of p)
pending_pair (stage.Challenged p) = None
pending_pair (stage.Answered p) = None
