-- The search for a free SPI, as the first number of a range that is free.
use Rattle.std.proofs.Common.{◌≡◌, ℕ, zero, suc, ◌+◌, ◌<◌, ◌≤◌, Bool, true, false, Some, None, Option, MatchOption, inl, inr, arith}
use Rattle.std.proofs.lemmas.Bool.{cases_Bool}
use Rattle.std.specs.Option.{unwrap_or}
use Rattle.registration.specs.Entering.{lowest_free}

-- what a search over the n numbers from q on finds: the first that is free, or that all are in use
abbrev pub Finds : (ℕ → Bool) → ℕ → ℕ → Option ℕ → Type 0
Finds used n q r =
    MatchOption r ((k : ℕ) → q ≤ k → k < q + n → used k ≡ true)
    (λ i. (q ≤ i) × (i < q + n) × (used i ≡ false) × ((k : ℕ) → q ≤ k → k < i → used k ≡ true))

free : (used : ℕ → Bool) (n q i : ℕ) → q ≤ i → i < q + n → used i ≡ false → ((k : ℕ) → q ≤ k → k < i → used k ≡ true)
    → i ≡ lowest_free used n q
unfolding lowest_free
free used zero q i low high here before = omega arith
free used (suc n) q i low high here before =
    elim (cases_Bool (used q)) [
      | inl taken ↦ grind (arith, taken, here, free used n (q + 1) i)
      | inr clear ↦ grind (arith, clear, here, before q)
    ]

none : (used : ℕ → Bool) (n q : ℕ) → ((k : ℕ) → q ≤ k → k < q + n → used k ≡ true) → q + n ≡ lowest_free used n q
unfolding lowest_free
none used zero q all = omega arith
none used (suc n) q all = grind (arith, all q, none used n (q + 1))

pub found : (used : ℕ → Bool) (n q : ℕ) (r : Option ℕ) → Finds used n q r → unwrap_or r (q + n) ≡ lowest_free used n q
found used n q None h = none used n q h
found used n q (Some i) h = free used n q i h.0 h.1 h.2 h.3
