-- How results are counted, and the lines that are printed of them.
use Rattle.std.specs.Prelude.{ℕ, ◌+◌, min, Bool, cond, List, ◌++◌, codes, decimal}
use Rattle.std.specs.Str.{bytes_eq}
use Rattle.tally.specs.declared.Outcome.{Outcome}
use Rattle.tally.specs.declared.Tally.{Tally}

-- one more, but for the largest that a counter holds
abbrev pub one_more : ℕ → ℕ
one_more n = min (n + 1) 4294967295

-- the tally after a result that was right, or was not
abbrev pub counted : Bool → Tally → Tally
counted right t =
    cond right (record { right = one_more t.right; wrong = t.wrong }) (record { right = t.right; wrong = one_more t.wrong })

--   NAME NUMBER: ok
--   NAME NUMBER: found FOUND, not DUE
abbrev pub line_of : Outcome → List ℕ
line_of o =
    o.name.now ++ (codes " " ++ (decimal o.number ++
    cond (bytes_eq o.found.now o.due.now) (codes ": ok") (codes ": found " ++ (o.found.now ++ (codes ", not " ++ o.due.now)))))

--   RIGHT ok, WRONG differ
abbrev pub closing : Tally → List ℕ
closing t = decimal t.right ++ (codes " ok, " ++ (decimal t.wrong ++ codes " differ"))
