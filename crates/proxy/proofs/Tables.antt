-- The search of the table that leaves slot 3 of one row out.
use Rattle.std.specs.List.{enumerate_from, list_any}
use Rattle.std.proofs.lemmas.Bool.{eq-eqb, ne_eqb}
use Rattle.std.proofs.Common.{◌≡◌, ℕ, zero, suc, [], ◌∷◌, cond, eqb, refl, ◌+◌, ◌<◌, Bool, ◌||◌, List, get_or, set, ap, arith}
use Rattle.association.specs.declared.set.Parameters.{Parameters}
use Rattle.proxy.specs.State.{in_table}
use Rattle.registration.specs.Rows.{blank, ended, in_row, in_traffic}
use Rattle.registration.specs.declared.row.Row.{Row}

-- the test of the row at a number, which is asked outside its slot 3 at `place`
abbrev pub beside : (Parameters → Bool) → ℕ → ℕ × Row → Bool
beside f place w = cond (eqb w.0 place) (in_traffic f w.1) (in_row f w.1)

past : (f : Parameters → Bool) (place i : ℕ) (rows : List Row) → place < i → list_any (beside f place) (enumerate_from i rows) ≡ in_table f rows
past f place i [] lt = refl
past f place i (r ∷ rs) lt = rw (ne_eqb i place (omega (arith, lt)), past f place (i + 1) rs (omega (arith, lt))) refl

pub beside_any : (f : Parameters → Bool) (place i k : ℕ) (rows : List Row) → i + k ≡ place
    → list_any (beside f place) (enumerate_from i rows) ≡ in_table f (set rows k (ended (get_or rows k blank)))
beside_any f place i k [] e = refl
beside_any f place i zero (r ∷ rs) e = rw (eq-eqb i place (omega (arith, e)), past f place (i + 1) rs (omega (arith, e))) refl
beside_any f place i (suc k) (r ∷ rs) e =
    rw (ne_eqb i place (omega (arith, e))) (ap (λ b. in_row f r || b) (beside_any f place (i + 1) k rs (omega (arith, e))))
