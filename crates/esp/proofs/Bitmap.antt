-- The bits of a bitmap of 64, as shifts and joins leave them.
use Rattle.std.proofs.Common.{◌≡◌, ℕ, zero, suc, ◌+◌, ◌-◌, ◌*◌, ◌/◌, ◌%◌, ◌^◌, ◌<◌, ◌≤◌, not, eqb, sym, refl, ap, ◌∙◌, subst, ⊎_elim, mul_assoc, arith}
use Rattle.esp.specs.Window.{bit_at}
use Rattle.std.proofs.lemmas.Nat.{field_of, mod_below, or_mod, or_shr, pow-add, pow_below, shl-shr, shr-shr}
use Rattle.std.proofs.lemmas.Bool.{cases_lt}
use lib.Bits.{bit_or, shifted_even}
use lib.Pow.{mod-mod-pow}
use native.Mathlib.Nat.{div-eq_of_lt}

-- a bit is 0 or 1
pub bit_below : (x j : ℕ) → bit_at x j < 2
bit_below x j = mod_below (x / 2 ^ j) 2 (omega arith)

-- a bit that is 0 is one that is not 1
pub zero_or_one : (y : ℕ) → y < 2 → eqb y 0 ≡ not (eqb y 1)
zero_or_one zero h = refl
zero_or_one (suc zero) h = refl
zero_or_one (suc (suc n)) h = absurd (omega arith)

-- a bit joined with a set one is set
pub or_one : (y : ℕ) → y < 2 → bit_or y 1 ≡ 1
or_one zero h = refl
or_one (suc zero) h = refl
or_one (suc (suc n)) h = absurd (omega arith)

-- a bit of two joined bitmaps is the join of their bits
pub bit_of_or : (a b j : ℕ) → bit_at (bit_or a b) j ≡ bit_or (bit_at a j) (bit_at b j)
bit_of_or a b j = ap (λ (x : ℕ). x % 2) (or_shr a b j) ∙ or_mod (a / 2 ^ j) (b / 2 ^ j) 1

-- of the bitmap 1 only bit 0 is set
pub bit_one : (j : ℕ) → 0 < j → bit_at 1 j ≡ 0
bit_one j h = ap (λ (x : ℕ). x % 2) (div-eq_of_lt (pow_below 0 j h))

-- the bits of a bitmap moved up by d, from d on and below it
bit_high : (a d i : ℕ) → bit_at (a * 2 ^ d) (d + i) ≡ bit_at a i
bit_high a d i = ap (λ (x : ℕ). x % 2) (sym (shr-shr (a * 2 ^ d) d i) ∙ ap (λ (x : ℕ). x / 2 ^ i) (shl-shr a d))

bit_low : (a i j : ℕ) → bit_at (a * 2 ^ (suc i + j)) j ≡ 0
bit_low a i j = rw (pow-add 2 (suc i) j, ← mul_assoc a (2 ^ suc i) (2 ^ j), shl-shr (a * 2 ^ suc i) j) (shifted_even a i)

-- the same by the bit's place: bit j was bit j - d, and below d there is none
pub bit_above : (a d j : ℕ) → d ≤ j → bit_at (a * 2 ^ d) j ≡ bit_at a (j - d)
bit_above a d j h =
    let e : d + (j - d) ≡ j = omega arith in
    subst (λ (x : ℕ). bit_at (a * 2 ^ d) x ≡ bit_at a (j - d)) e (bit_high a d (j - d))

pub bit_under : (a d j : ℕ) → j < d → bit_at (a * 2 ^ d) j ≡ 0
bit_under a d j h =
    let e : suc (d - j - 1) + j ≡ d = omega arith in
    subst (λ (x : ℕ). bit_at (a * 2 ^ x) j ≡ 0) e (bit_low a (d - j - 1) j)

-- a bit below the place where the rest is cut off stays
bit_cut : (x i j : ℕ) → bit_at (x % 2 ^ ((i + 1) + j)) j ≡ bit_at x j
bit_cut x i j = ap (λ (y : ℕ). y % 2) (field_of x (i + 1) j) ∙ mod-mod-pow (x / 2 ^ j) i 1

-- so the 64 lowest stay
pub bit_64 : (x j : ℕ) → j < 64 → bit_at (x % 2 ^ 64) j ≡ bit_at x j
bit_64 x j h =
    let e : ((63 - j) + 1) + j ≡ 64 = omega arith in
    subst (λ (w : ℕ). bit_at (x % 2 ^ w) j ≡ bit_at x j) e (bit_cut x (63 - j) j)

-- of `1 << d` only bit d is set
pub flag_here : (d j : ℕ) → j < 64 → j ≡ d → bit_at ((1 * 2 ^ d) % 2 ^ 64) j ≡ 1
flag_here d j h e = let z : j - d ≡ 0 = omega arith in bit_64 (1 * 2 ^ d) j h ∙ bit_above 1 d j (omega arith) ∙ ap (bit_at 1) z

pub flag_off : (d j : ℕ) → j < 64 → (j ≡ d → ⊥) → bit_at ((1 * 2 ^ d) % 2 ^ 64) j ≡ 0
flag_off d j h n =
    bit_64 (1 * 2 ^ d) j h
    ∙ ⊎_elim (λ l. bit_under 1 d j l) (λ l. bit_above 1 d j l ∙ bit_one (j - d) (omega arith)) (cases_lt j d)
