-- What a reading answers.
use Rattle.script.specs.declared.refusal.Refusal.{Refusal}
use Rattle.script.specs.declared.refusal.Refusal.TheVariants.{BadLine, NoMemory}
use Rattle.std.specs.Prelude.{◌≡◌, Some, None, Ok, Err, Option, Result}

-- The answer r, seen through f, is what o says: a value where o has it, a bad line where o has none. For want of
-- memory it may be no answer.
abbrev pub Says : {X Y : Type 0} → (X → Y) → Result X Refusal → Option Y → Type 0
Says f (Ok x) o = o ≡ Some (f x)
Says f (Err BadLine) o = o ≡ None
Says f (Err NoMemory) o = Unit {0}
