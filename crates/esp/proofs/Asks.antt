-- The two ways through a question.
use Rattle.esp.specs.Asking.{asked}
use Rattle.std.proofs.Common.{◌≡◌, Bool, true, false, refl}

pub ask_both : {A : Type 0} (P : A → Type 0) (b : Bool) (refusal next : A) → P refusal → (b ≡ true → P next) → P (asked b refusal next)
unfolding asked
ask_both P true refusal next p f = f refl
ask_both P false refusal next p f = p

pub ask_yes : {A : Type 0} (b : Bool) (refusal next : A) → b ≡ true → asked b refusal next ≡ next
unfolding asked
ask_yes b refusal next e = rw e

pub ask_no : {A : Type 0} (b : Bool) (refusal next : A) → b ≡ false → asked b refusal next ≡ refusal
unfolding asked
ask_no b refusal next e = rw e
