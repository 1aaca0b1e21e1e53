-- The table as a list of rows: what a write to one row leaves, and which row has a set.
use Rattle.std.proofs.Common.{◌≡◌, ℕ, zero, suc, Bool, true, false, cond, ◌≢◌, List, [], ◌∷◌, length, get_or, set, refl, ap, ◌∙◌, arith}
use Rattle.association.specs.declared.set.Parameters.{Parameters}
use Rattle.proxy.specs.Machine.{owner}
use Rattle.registration.specs.Rows.{blank, in_row}
use Rattle.registration.specs.declared.row.Row.{Row}

-- a fact of each row survives a write to one
pub rows_set : (F : ℕ → Row → Type 0) (rows : List Row) (j : ℕ) (r : Row)
    → ((k : ℕ) → F k (get_or rows k blank)) → F j r → (k : ℕ) → F k (get_or (set rows j r) k blank)
rows_set F [] j r h q k = h k
rows_set F (x ∷ xs) zero r h q zero = q
rows_set F (x ∷ xs) zero r h q (suc k) = h (suc k)
rows_set F (x ∷ xs) (suc j) r h q zero = h 0
rows_set F (x ∷ xs) (suc j) r h q (suc k) = rows_set (λ i. F (suc i)) xs j r (λ i. h (suc i)) q k

pub owner_none : (f : Parameters → Bool) (rows : List Row) → ((k : ℕ) → in_row f (get_or rows k blank) ≡ false) → owner f rows ≡ length rows
owner_none f [] h = refl
owner_none f (r ∷ rs) h = rw (h 0) (ap suc (owner_none f rs (λ k. h (suc k))))

cond_suc : (b : Bool) (x y : ℕ) → suc (cond b x y) ≡ cond b (suc x) (suc y)
cond_suc true x y = refl
cond_suc false x y = refl

-- where no row but s can have such a set, row s has it or none
pub owner_one : (f : Parameters → Bool) (rows : List Row) (s : ℕ) → ((k : ℕ) → k ≢ s → in_row f (get_or rows k blank) ≡ false)
    → owner f rows ≡ cond (in_row f (get_or rows s blank)) s (length rows)
owner_one f [] s h = refl
owner_one f (r ∷ rs) zero h = rw (owner_none f rs (λ k. h (suc k) (omega arith)))
owner_one f (r ∷ rs) (suc s) h =
    rw (h 0 (omega arith)) (ap suc (owner_one f rs s (λ k ne. h (suc k) (omega arith))) ∙ cond_suc (in_row f (get_or rs s blank)) s (length rs))
