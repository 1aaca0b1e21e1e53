-- How a padded message falls into blocks.
use Rattle.std.proofs.Common.{◌≡◌, ℕ, zero, suc, ◌+◌, ◌-◌, ◌*◌, ◌/◌, ◌%◌, ◌<◌, ◌≤◌, List, [], ◌∷◌, ◌++◌, length, take, drop, set, replicate, fold, sym, refl, ap, ◌∙◌, zero-add, arith}
use borrow.Rule.Slice.PartMut.{put_mid}
use Rattle.std.specs.Simd.{first_chunks}
use Rattle.std.proofs.lemmas.List.{append_assoc, append-nil, length-append, length-replicate, replicate-append-replicate, take_at, drop_at, take_all, set_at, nil_from_length, take-append-le, drop-append-le, length-drop, take-append-drop, length-take-le}
use Rattle.hmac.specs.Digest.{padding, blocks, chained}

-- a fold over two lists in turn
pub folded_append : {A B : Type 0} (f : B → A → B) (a : B) (xs ys : List A) → fold f a (xs ++ ys) ≡ fold f (fold f a xs) ys
folded_append f a [] ys = refl
folded_append f a (x ∷ xs) ys = folded_append f (f a x) xs ys

-- k whole blocks and what follows them are cut apart from each other
chunked_append : (k j : ℕ) (xs ys : List ℕ) → length xs ≡ k * 64 → first_chunks 64 (k + j) (xs ++ ys) ≡ first_chunks 64 k xs ++ first_chunks 64 j ys
chunked_append zero j xs ys e =
    let none : xs ≡ [] = nil_from_length xs (omega arith) in
    rw (none, zero-add j)
chunked_append (suc k) j xs ys e =
    let l : 64 ≤ length xs = omega arith in
    let m : suc k + j ≡ suc (k + j) = omega arith in
    let r : length (drop 64 xs) ≡ k * 64 = simp length-drop (omega arith) in
    ap (λ n. first_chunks 64 n (xs ++ ys)) m
    ∙ ap (λ h. h ∷ first_chunks 64 (k + j) (drop 64 (xs ++ ys))) (take-append-le 64 xs ys l)
    ∙ ap (λ t. take 64 xs ∷ first_chunks 64 (k + j) t) (drop-append-le 64 xs ys l)
    ∙ ap (λ t. take 64 xs ∷ t) (chunked_append k j (drop 64 xs) ys r)

-- what lies past the blocks that are cut does not matter
chunked_take : (k : ℕ) (xs : List ℕ) → k * 64 ≤ length xs → first_chunks 64 k (take (k * 64) xs) ≡ first_chunks 64 k xs
chunked_take k xs h =
    let z : k + 0 ≡ k = omega arith in
    let one = chunked_append k 0 (take (k * 64) xs) (drop (k * 64) xs) (length-take-le (k * 64) xs h) in
    sym (ap (λ n. first_chunks 64 n xs) (sym z) ∙ ap (first_chunks 64 (k + 0)) (sym (take-append-drop (k * 64) xs)) ∙ one ∙ append-nil (first_chunks 64 k (take (k * 64) xs)))

-- the blocks of a list that begins with k whole ones
blocks_append : (k : ℕ) (xs ys : List ℕ) → length xs ≡ k * 64 → blocks (xs ++ ys) ≡ first_chunks 64 k xs ++ blocks ys
unfolding blocks
blocks_append k xs ys e =
    let n : length (xs ++ ys) / 64 ≡ k + length ys / 64 = simp length-append (omega arith) in
    ap (λ q. first_chunks 64 q (xs ++ ys)) n ∙ chunked_append k (length ys / 64) xs ys e

-- one block and more
blocks_cons : (b ys : List ℕ) → length b ≡ 64 → blocks (b ++ ys) ≡ b ∷ blocks ys
blocks_cons b ys e =
    blocks_append 1 b ys e ∙ ap (λ t. t ∷ blocks ys) (take_all 64 b (omega arith))

-- one block and no more
blocks_one : (b : List ℕ) → length b ≡ 64 → blocks b ≡ b ∷ []
unfolding blocks
blocks_one b e =
    let n : length b / 64 ≡ 1 = omega arith in
    ap (λ q. first_chunks 64 q b) n ∙ ap (λ t. t ∷ []) (take_all 64 b (omega arith))

-- 8 bytes written over the last 8 of a block
counted : (p cnt : List ℕ) → length p ≡ 56 → put_mid 56 8 (p ++ replicate 8 0) cnt ≡ p ++ cnt
counted p cnt e =
    ap (λ t. t ++ (cnt ++ drop 8 (drop 56 (p ++ replicate 8 0)))) (take_at p (replicate 8 0) 56 e)
    ∙ ap (λ t. p ++ (cnt ++ drop 8 t)) (drop_at p (replicate 8 0) 56 e)
    ∙ ap (λ t. p ++ t) (append-nil cnt)

-- the byte 0x80 written after what is left of a message, where k zeros follow it
marked : (rest : List ℕ) (k : ℕ) → 64 - length rest ≡ suc k → set (rest ++ replicate (64 - length rest) 0) (length rest) 128 ≡ rest ++ (128 ∷ replicate k 0)
marked rest k n =
    ap (λ j. set (rest ++ replicate j 0) (length rest) 128) n
    ∙ set_at rest 0 (replicate k 0) 128 (length rest) refl

-- the last block, as it is written: the length goes over its last 8 bytes
last_block : (all p cnt block : List ℕ) → all ≡ p ++ cnt → length p ≡ 56 → length cnt ≡ 8 → block ≡ p ++ replicate 8 0 → blocks all ≡ put_mid 56 8 block cnt ∷ []
last_block all p cnt block a l8 c8 b =
    ap blocks a
    ∙ blocks_one (p ++ cnt) (simp length-append (omega arith))
    ∙ ap (λ t. t ∷ []) (sym (ap (λ t. put_mid 56 8 t cnt) b ∙ counted p cnt l8))

-- `rest` is what the whole blocks of a message of n bytes leave, and `cnt` is the length as it is written
module _ (count : ℕ → List ℕ) (rest cnt : List ℕ) (n : ℕ) (is : length rest ≡ n % 64) (c8 : length cnt ≡ 8) (ce : cnt ≡ count (8 * n)) where
  -- the padded end of the message, cut after k of the k + j zeros
  padded : (k j : ℕ) → (119 - n % 64) % 64 ≡ k + j → rest ++ padding count n ≡ (rest ++ (128 ∷ replicate k 0)) ++ (replicate j 0 ++ cnt)
  unfolding padding
  padded k j z = rw (z, ce, ← replicate-append-replicate {A = ℕ} k j 0) (simp append_assoc)

  -- where what is left and the padding take one block
  pub one_block : length rest < 56 → blocks (rest ++ padding count n) ≡ put_mid 56 8 (set (rest ++ replicate (64 - length rest) 0) (length rest) 128) cnt ∷ []
  one_block h =
      let k : ℕ = 55 - length rest in
      last_block (rest ++ padding count n) (rest ++ (128 ∷ replicate k 0)) cnt (set (rest ++ replicate (64 - length rest) 0) (length rest) 128)
      (padded k 0 (omega arith))
      (simp (length-append, length-replicate) (omega arith))
      c8
      (marked rest (k + 8) (omega arith)
      ∙ ap (λ t. rest ++ (128 ∷ t)) (sym (replicate-append-replicate k 8 0))
      ∙ sym (append_assoc rest (128 ∷ replicate k 0) (replicate 8 0)))

  -- where they take two
  pub two_blocks : 56 ≤ length rest → blocks (rest ++ padding count n) ≡ set (rest ++ replicate (64 - length rest) 0) (length rest) 128 ∷ put_mid 56 8 (replicate 64 0) cnt ∷ []
  two_blocks h =
      let k : ℕ = 63 - length rest in
      let long : length (rest ++ (128 ∷ replicate (63 - length rest) 0)) ≡ 64 = simp (length-append, length-replicate) (omega arith) in
      ap blocks (padded k 56 (omega arith))
      ∙ blocks_cons (rest ++ (128 ∷ replicate k 0)) (replicate 56 0 ++ cnt) long
      ∙ ap (λ t. (rest ++ (128 ∷ replicate k 0)) ∷ t) (last_block (replicate 56 0 ++ cnt) (replicate 56 0) cnt (replicate 64 0) refl refl c8 refl)
      ∙ ap (λ t. t ∷ put_mid 56 8 (replicate 64 0) cnt ∷ []) (sym (marked rest k (omega arith)))

-- the whole blocks of a message, and then what is left of it with the padding
pub blocks_parts : (m pad : List ℕ) → blocks (m ++ pad) ≡ first_chunks 64 (length m / 64) m ++ blocks (drop (length m / 64 * 64) m ++ pad)
blocks_parts m pad =
    let q : ℕ = length m / 64 in
    let le : length m / 64 * 64 ≤ length m = omega arith in
    let parts : m ++ pad ≡ take (q * 64) m ++ (drop (q * 64) m ++ pad) =
    ap (λ t. t ++ pad) (sym (take-append-drop (q * 64) m)) ∙ append_assoc (take (q * 64) m) (drop (q * 64) m) pad in
    let lt : length (take (q * 64) m) ≡ q * 64 = length-take-le (q * 64) m le in
    ap blocks parts
    ∙ blocks_append q (take (q * 64) m) (drop (q * 64) m ++ pad) lt
    ∙ ap (λ t. t ++ blocks (drop (q * 64) m ++ pad)) (chunked_take q m le)

-- a message that begins with one whole block: that block makes one step, and the rest goes on from there
pub chained_after : {S : Type 0} (initial : S) (step : S → List ℕ → S) (count : ℕ → List ℕ) (head m : List ℕ) → length head ≡ 64 → chained initial step count (head ++ m) ≡ fold step (step initial head) (blocks (m ++ padding count (64 + length m)))
unfolding chained
chained_after initial step count head m e =
    let n : length (head ++ m) ≡ 64 + length m = length-append head m ∙ ap (λ k. k + length m) e in
    ap (λ k. fold step initial (blocks ((head ++ m) ++ padding count k))) n
    ∙ ap (λ t. fold step initial (blocks t)) (append_assoc head m (padding count (64 + length m)))
    ∙ ap (fold step initial) (blocks_cons head (m ++ padding count (64 + length m)) e)
