-- What the slots hold, and how their sets move. `end` is a set's expiry, `lasting e` the set with the expiry e.
use Rattle.std.specs.Prelude.{ℕ, max, cond, Some, None, Option, nat_lt}
use Rattle.slots.specs.declared.cover.Cover.{Cover}
use Rattle.slots.specs.declared.cover.Cover.TheVariants as cover
use Rattle.slots.specs.declared.slot.Slot.{Slot}
use Rattle.slots.specs.declared.slot.Slot.TheVariants as slot
use Rattle.slots.specs.declared.three.Slots.{Slots}
use Rattle.std.specs.Option.{option_map}

abbrev pub empty : {S : Type 0} → Slots S
empty = record { old = None; current = None; registration = None }

-- what a slot holds
abbrev pub at : {S : Type 0} → Slot → Slots S → Option S
at slot.Old z = z.old
at slot.Current z = z.current
at slot.Registration z = z.registration

-- the slots with another content of one
abbrev pub put : {S : Type 0} → Slot → Option S → Slots S → Slots S
put slot.Old o z = record { old = o; current = z.current; registration = z.registration }
put slot.Current o z = record { old = z.old; current = o; registration = z.registration }
put slot.Registration o z = record { old = z.old; current = z.current; registration = o }

-- A set stands until the second before its expiry: one with expiry 1240 stands at 1239 and is gone at 1240.
abbrev pub live : {S : Type 0} → (S → ℕ) → ℕ → Option S → Option S
live end t None = None
live end t (Some s) = cond (nat_lt t (end s)) (Some s) None

abbrev pub expired : {S : Type 0} → (S → ℕ) → ℕ → Slots S → Slots S
expired end t z =
    record { old = live end t z.old; current = live end t z.current; registration = live end t z.registration }

-- the later of an expiry and a slot's
abbrev pub latest_of : {S : Type 0} → (S → ℕ) → ℕ → Option S → ℕ
latest_of end e None = e
latest_of end e (Some s) = max e (end s)

-- the latest of an expiry and those in slots 1 and 2
abbrev pub latest : {S : Type 0} → (S → ℕ) → ℕ → Slots S → ℕ
latest end e z = latest_of end (latest_of end e z.old) z.current

-- what a success leaves in slot 1: the set under which the opening REGISTER came
abbrev pub kept : {S : Type 0} → Cover → Slots S → Option S
kept cover.Clear z = None
kept cover.Old z = z.old
kept cover.Current z = z.current

-- the moves of a success, with the new expiry e
abbrev pub succeeded : {S : Type 0} → (ℕ → S → S) → Cover → ℕ → Slots S → Slots S
succeeded lasting c e z =
    record { old = kept c z; current = option_map (lasting e) z.registration; registration = None }

-- slot 2's expiry raised to e if that is later, and its expiry then
abbrev pub raised_on : {S : Type 0} → (S → ℕ) → (ℕ → S → S) → ℕ → Slots S → Option S → Slots S × Option ℕ
raised_on end lasting e z None = (z, None)
raised_on end lasting e z (Some s) =
    cond (nat_lt (end s) e) (put slot.Current (Some (lasting e s)) z, Some e) (z, Some (end s))

abbrev pub raised : {S : Type 0} → (S → ℕ) → (ℕ → S → S) → ℕ → Slots S → Slots S × Option ℕ
raised end lasting e z = raised_on end lasting e z z.current
