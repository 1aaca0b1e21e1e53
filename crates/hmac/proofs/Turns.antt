-- A loop whose turn t makes step t of a recursion over the number of turns.
use Rattle.std.proofs.Common.{◌≡◌, ℕ, suc, ◌+◌, sym, ap, ◌∙◌, add-one}

-- `run t` is the state after t steps: where a state is that, one step from it is the state after one more
pub turn_more : {S : Type 0} (run : ℕ → S) (step : ℕ → S → S) → ((t : ℕ) → run (suc t) ≡ step t (run t)) → (t : ℕ) (s : S) → s ≡ run t → step t s ≡ run (t + 1)
turn_more run step more t s is = ap (step t) is ∙ sym (more t) ∙ sym (ap run (add-one t))
