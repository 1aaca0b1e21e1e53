-- What the differences of the bytes of two lists say, joined by `|`.
use Rattle.std.proofs.Common.{◌≡◌, ℕ, true, false, eqb, eq-eqb, eqb-true, List, [], ◌∷◌, length, fold, sym, refl, ap, ◌∙◌, Decides, arith, rules}
use Rattle.std.proofs.lemmas.Slice.Eq.{bytes_eq-Decides}
use Rattle.std.specs.List.{zip}
use Rattle.std.specs.Str.{bytes_eq}
use lib.Bits.{bit_or, bit_xor, or_add_and, xor_add_and, and_le_l, and_le_r, xor_self}

-- joined differences are 0 only where each is
or_none : (a b : ℕ) → bit_or a b ≡ 0 → (a ≡ 0) × (b ≡ 0)
or_none a b e = (omega (arith, or_add_and a b, and_le_r a b), omega (arith, or_add_and a b, and_le_l a b))

-- a difference is 0 only between equal bytes
xor_none : (a b : ℕ) → bit_xor a b ≡ 0 → a ≡ b
xor_none a b e = omega (arith, xor_add_and a b, and_le_l a b, and_le_r a b)

-- the difference of two bytes, joined to `d`
abbrev pub join : ℕ → ℕ × ℕ → ℕ
join d p = bit_or d (bit_xor p.0 p.1)

-- and those of two lists
abbrev pub joined : ℕ → List ℕ → List ℕ → ℕ
joined d xs ys = fold join d (zip xs ys)

same_from : (xs ys : List ℕ) (d : ℕ) → length xs ≡ length ys → joined d xs ys ≡ 0 → (d ≡ 0) × (xs ≡ ys)
same_from [] [] d l e = (e, refl)
same_from [] (y ∷ ys) d l e = absurd (omega arith)
same_from (x ∷ xs) [] d l e = absurd (omega arith)
same_from (x ∷ xs) (y ∷ ys) d l e =
    let rest = same_from xs ys (bit_or d (bit_xor x y)) (omega arith) e in
    let none = or_none d (bit_xor x y) rest.0 in
    let head = xor_none x y none.1 in
    (none.0, cc)

none_from : (xs : List ℕ) → joined 0 xs xs ≡ 0
none_from [] = refl
none_from (x ∷ xs) = ap (λ d. joined d xs xs) (ap (bit_or 0) (xor_self x)) ∙ none_from xs

-- a test of the joined differences of two lists of one length is `bytes_eq`
pub same_by_differences : (xs ys : List ℕ) → length xs ≡ length ys → eqb (joined 0 xs ys) 0 ≡ bytes_eq xs ys
same_by_differences xs ys l =
    let h : Decides (eqb (joined 0 xs ys) 0) (xs ≡ ys) =
    (λ e. (same_from xs ys 0 l (eqb-true (joined 0 xs ys) 0 e)).1, λ (e : xs ≡ ys). eq-eqb (joined 0 xs ys) 0 (ap (joined 0 xs) (sym e) ∙ none_from xs)) in
    search (rules, bytes_eq-Decides)

-- lists of different lengths are not the same
pub other_length : (xs ys : List ℕ) → length ys ≡ 12 → (length xs ≡ 12 → ⊥) → false ≡ bytes_eq xs ys
other_length xs ys due other =
    let h : Decides false (xs ≡ ys) = (λ (e : false ≡ true). cc, λ e. absurd (other (ap length e ∙ due))) in search (rules, bytes_eq-Decides)
