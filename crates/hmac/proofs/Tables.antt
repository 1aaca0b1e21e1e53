-- Facts about every entry of a table, each from one test that is computed over the whole table.
use Rattle.std.proofs.Common.{◌≡◌, ℕ, ◌<◌, Bool, true, List, map, length, get_or, filter, sym, ap, ◌∙◌, subst, zero-add}
use Rattle.std.specs.List.{range_with_len, AllByRecursion as All}
use Rattle.std.proofs.lemmas.List.FromFn.{get_or-map-range_with_len}
use Rattle.std.proofs.ByRecursion.{All-get_or, kept_by_passes}

-- where a test keeps the whole table, it passes at each place
pub passes_at : (test : ℕ → Bool) (table : List ℕ) → filter test table ≡ table → (k : ℕ) → k < length table → test (get_or table k 0) ≡ true
passes_at test table all k h =
    let Passes : List ℕ → Type 0 = All (λ x. test x ≡ true) in
    All-get_or (λ x. test x ≡ true) table k 0 h (subst Passes all (kept_by_passes test table))

-- where a reading of the places 0, 1, 2 and so on gives the whole table, it gives what stands at each place
pub reads_at : (read : ℕ → ℕ) (table : List ℕ) → map read (range_with_len 0 (length table)) ≡ table → (k : ℕ) → k < length table → read k ≡ get_or table k 0
reads_at read table all k h =
    sym (get_or-map-range_with_len read 0 (length table) k k 0 h (zero-add k)) ∙ ap (λ xs. get_or xs k 0) all
