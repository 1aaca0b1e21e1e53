-- The message schedule of SHA-1, as a loop writes it.
use Rattle.std.proofs.Common.{◌≡◌, ℕ, suc, ◌+◌, ◌-◌, ◌<◌, ◌≤◌, List, [], ◌∷◌, ◌++◌, length, take, set, sym, ap, ◌∙◌, arith}
use Rattle.std.proofs.lemmas.List.{take_more_set, get_or-take}
use Rattle.hmac.specs.Sha1.{next, extended}

-- the next word depends on those before it alone
next_take : (ws : List ℕ) (n : ℕ) → 16 ≤ n → next (take n ws) n ≡ next ws n
unfolding next
next_take ws n h =
    let a : n - 3 < n = omega arith in
    let b : n - 8 < n = omega arith in
    let c : n - 14 < n = omega arith in
    let d : n - 16 < n = omega arith in
    simp get_or-take

-- one word more
extended_more : (n : ℕ) (ws : List ℕ) → 16 ≤ n → extended (n + 1 - 16) ws ≡ extended (n - 16) ws ++ next (extended (n - 16) ws) n ∷ []
unfolding extended
extended_more n ws h =
    let e : n + 1 - 16 ≡ suc (n - 16) = omega arith in
    let p : 16 + (n - 16) ≡ n = omega arith in
    ap (λ k. extended k ws) e ∙ ap (λ k. extended (n - 16) ws ++ next (extended (n - 16) ws) k ∷ []) p

-- one turn of the loop that extends the schedule
pub extended_step : (ws bs : List ℕ) (n v : ℕ) → 16 ≤ n → n < length ws → take n ws ≡ extended (n - 16) bs → v ≡ next ws n → take (n + 1) (set ws n v) ≡ extended (n + 1 - 16) bs
extended_step ws bs n v h l e is =
    take_more_set ws n v l
    ∙ ap (λ x. take n ws ++ x ∷ []) (is ∙ sym (next_take ws n h))
    ∙ ap (λ t. t ++ next t n ∷ []) e
    ∙ sym (extended_more n bs h)
