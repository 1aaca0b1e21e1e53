-- Words and their bytes, as an array's `map` makes them.
use Rattle.std.proofs.Common.{◌≡◌, ℕ, zero, suc, ◌+◌, ◌*◌, ◌/◌, ◌<◌, List, [], ◌∷◌, ◌++◌, map, length, get_or, take, drop, add-zero, sym, refl, ap, ◌∙◌, arith}
use Rattle.std.proofs.lemmas.List.{drop-drop, ext_get_or, get_or-drop, get_or-map, get_or-take, length-map}
use Rattle.std.specs.Array.{IsMapOf}
use Rattle.std.specs.Fn.{Called}
use Rattle.std.specs.List.{flat_map, range_with_len}
use Rattle.std.specs.Simd.{first_chunks}
use Rattle.hmac.specs.Words.{word_at, words_of}
use denote.Param.Members.{Mut}

-- where each call of the closure gives h of its argument, the `map` of an array is that of h
pub mapped : {F A B : Type 0} {g : Mut F (A × Unit {0}) B} {f : F} {xs : List A} {ys : List B} {n : ℕ} (h : A → B) (d : A) (e : B)
    → IsMapOf g f xs ys n → length xs ≡ n → ((x : A) (p q : F) (y : B) → Called g p (x, tt) y q → y ≡ h x) → ys ≡ map h xs
mapped {F} {A} {B} {g} {f} {xs} {ys} {n} h d e m l calls =
    ext_get_or e ys (map h xs) (m.long ∙ sym l ∙ sym (length-map xs h))
    (λ k lt.
    let i : k < n = omega (arith, m.long) in
    let j : k < length xs = omega arith in
    let at = m.at k d e i in
    calls (get_or xs k d) at.0 at.1 (get_or ys k e) at.2 ∙ sym (get_or-map h xs k d e j))

-- lists made of the items of a list, one after another
pub joined_map : (f : ℕ → List ℕ) (xs : List ℕ) → flat_map (λ x. x) (map f xs) ≡ flat_map f xs
joined_map f [] = refl
joined_map f (x ∷ xs) = ap (λ t. f x ++ t) (joined_map f xs)

module _ (word : ℕ → ℕ → ℕ → ℕ → ℕ) (bs : List ℕ) where
  -- a byte of the four from a place on
  byte_there : (i k : ℕ) → k < 4 → get_or (take 4 (drop i bs)) k 0 ≡ get_or bs (i + k) 0
  byte_there i k h = get_or-take 4 (drop i bs) k 0 h ∙ get_or-drop i bs k 0

  word_there : (i : ℕ) → word_at word (take 4 (drop i bs)) 0 ≡ word_at word bs i
  word_there i =
      let a = byte_there i 0 (omega arith) in
      let b = byte_there i 1 (omega arith) in
      let c = byte_there i 2 (omega arith) in
      let d = byte_there i 3 (omega arith) in
      let z = add-zero i in
      cc

  -- the words of a block, four bytes each
  words_from : (n a : ℕ) → map (λ four. word_at word four 0) (first_chunks 4 n (drop (4 * a) bs)) ≡ map (λ j. word_at word bs (4 * j)) (range_with_len a n)
  words_from zero a = refl
  words_from (suc n) a =
      let e : 4 * a + 4 ≡ 4 * (a + 1) = omega arith in
      ap (λ x. x ∷ map (λ four. word_at word four 0) (first_chunks 4 n (drop 4 (drop (4 * a) bs)))) (word_there (4 * a))
      ∙ ap (λ t. word_at word bs (4 * a) ∷ map (λ four. word_at word four 0) (first_chunks 4 n t)) (drop-drop 4 (4 * a) bs ∙ ap (λ k. drop k bs) e)
      ∙ ap (λ t. word_at word bs (4 * a) ∷ t) (words_from n (a + 1))

  pub words_by_fours : length bs ≡ 64 → map (λ four. word_at word four 0) (first_chunks 4 (length bs / 4) bs) ≡ words_of word bs
  unfolding words_of
  words_by_fours h =
      let e : length bs / 4 ≡ 16 = omega arith in
      ap (λ k. map (λ four. word_at word four 0) (first_chunks 4 k bs)) e ∙ words_from 16 0
