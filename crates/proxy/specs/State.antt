-- The proxy's state: its rows, and what it was opened with.
use Rattle.std.specs.Prelude.{ℕ, min, Bool, false, cond, ◌||◌, List, [], ◌∷◌, length, slice_index_or, slice_set}
use Rattle.association.specs.declared.set.Parameters.{Parameters}
use Rattle.procedure.specs.Offers.{serves}
use Rattle.registration.specs.Rows.{blank, in_row}
use Rattle.registration.specs.declared.row.Row.{Row}
use Rattle.procedure.specs.declared.service.Service.{Service}

pub record State : Type 0 where
  -- row s is subscriber s's
  pub rows : List Row
  pub service : Service

-- n: how many subscribers there are. At most 4096 rows are used, and none where the proxy was opened with a port or a
-- list that it does not take.
abbrev pub count_of : State → ℕ
count_of σ = cond (serves σ.service.algorithms) (min (length σ.rows) 4096) 0

abbrev pub row_of : State → ℕ → Row
row_of σ s = slice_index_or σ.rows s blank

-- the state with another row s
abbrev pub put_row : State → ℕ → Row → State
put_row σ s r = record { rows = slice_set σ.rows s r; service = σ.service }

-- whether a set of the table is such
abbrev pub in_table : (Parameters → Bool) → List Row → Bool
in_table f [] = false
in_table f (r ∷ rs) = in_row f r || in_table f rs
