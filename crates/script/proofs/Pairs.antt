-- Bytes read from pairs of digits, and printed as such.
use Rattle.std.proofs.Common.{◌≡◌, ℕ, ◌+◌, ◌-◌, ◌*◌, ◌/◌, ◌%◌, ◌<◌, ◌≤◌, Bool, true, false, ◌&&◌, eqb, zero, suc, List, [], ◌∷◌, ◌++◌, length, get_or, take, drop, Some, None, Option, Result, sym, refl, ap, ◌∙◌, subst, ⊎_elim, arith, rules, le-ltb, lt-ltb, le-leb}
use Rattle.script.specs.Hex.{byte_of, bytes_of, digit_of, glyph, hex_of, joined, paired, spelled}
use Rattle.std.proofs.lemmas.Bool.{cases_lt}
use Rattle.std.proofs.lemmas.List.{append_assoc, drop_all, take_more}
use Rattle.script.specs.Reads.{Says}
use Rattle.script.specs.declared.refusal.Refusal.{Refusal}
use Rattle.std.specs.Int.Digits.{AllBelowBase}
use Rattle.std.specs.Simd.{first_chunks}
use borrow.Author.Tests.{lt-leb}

-- bytes in front of more bytes, where those could be read
abbrev pub prefixed : List ℕ → Option (List ℕ) → Option (List ℕ)
prefixed xs None = None
prefixed xs (Some ys) = Some (xs ++ ys)

prefixed_joined : (xs : List ℕ) (b : ℕ) (o : Option (List ℕ)) → prefixed xs (joined (Some b) o) ≡ prefixed (xs ++ b ∷ []) o
prefixed_joined xs b None = refl
prefixed_joined xs b (Some ys) = ap Some (sym (append_assoc xs (b ∷ []) ys))

-- pairs of digits read one after another, and what is left behind them
abbrev pub paired_on : List (List ℕ) → List ℕ → Option (List ℕ)
paired_on [] odd = paired odd
paired_on (p ∷ ps) odd = joined (byte_of (digit_of (get_or p 0 0)) (digit_of (get_or p 1 0))) (paired_on ps odd)

-- a text read by its pairs
paired_chunks : (k : ℕ) (text : List ℕ) → k * 2 ≤ length text → paired text ≡ paired_on (first_chunks 2 k text) (drop (k * 2) text)
unfolding paired
paired_chunks zero text h = refl
paired_chunks (suc k) [] h = absurd (omega arith)
paired_chunks (suc k) (x ∷ []) h = absurd (omega arith)
paired_chunks (suc k) (x ∷ (y ∷ text)) h =
    let e : suc k * 2 ≡ suc (suc (k * 2)) = omega arith in
    rw e (ap (joined (byte_of (digit_of x) (digit_of y))) (paired_chunks k text (omega arith)))

none_before : (o : Option (List ℕ)) → o ≡ prefixed [] o
none_before None = refl
none_before (Some bs) = refl

pub paired_whole : (text : List ℕ) → paired text ≡ prefixed [] (paired_on (first_chunks 2 (length text / 2) text) (drop (length text / 2 * 2) text))
paired_whole text = paired_chunks (length text / 2) text (omega arith) ∙ none_before (paired_on (first_chunks 2 (length text / 2) text) (drop (length text / 2 * 2) text))

-- behind the last pair stands nothing, or one digit
even : (xs odd : List ℕ) → length odd ≡ 0 → prefixed xs (paired odd) ≡ Some xs
unfolding paired
even xs [] e = ap Some (search rules)
even xs (x ∷ odd) e = absurd (omega arith)

uneven : (xs odd : List ℕ) → length odd ≡ 1 → prefixed xs (paired odd) ≡ None
unfolding paired
uneven xs [] e = absurd (omega arith)
uneven xs (x ∷ []) e = refl
uneven xs (x ∷ (y ∷ odd)) e = absurd (omega arith)

pub prefixed_even : (xs odd : List ℕ) (ps : List (List ℕ)) (i : ℕ) → length ps ≤ i → length odd ≡ 0 → prefixed xs (paired_on (drop i ps) odd) ≡ Some xs
prefixed_even xs odd ps i h e = rw (drop_all i ps h) (even xs odd e)

pub prefixed_odd : (xs odd : List ℕ) (ps : List (List ℕ)) (i : ℕ) → length ps ≤ i → length odd ≡ 1 → prefixed xs (paired_on (drop i ps) odd) ≡ None
prefixed_odd xs odd ps i h e = rw (drop_all i ps h) (uneven xs odd e)

-- a digit that was printed reads back
glyph_low : (d : ℕ) → d < 10 → digit_of (glyph d) ≡ Some d
glyph_low d h =
    let g = lt-ltb d 10 h in
    let a = le-leb 48 (48 + d) (omega arith) in
    let b = le-leb (48 + d) 57 (omega arith) in
    let e : 48 + d - 48 ≡ d = omega arith in
    rw (g, a, b, e)

glyph_high : (d : ℕ) → 10 ≤ d → d < 16 → digit_of (glyph d) ≡ Some d
glyph_high d k h =
    let g = le-ltb d 10 k in
    let a = le-leb 48 (87 + d) (omega arith) in
    let b = lt-leb (87 + d) 57 (omega arith) in
    let c = le-leb 97 (87 + d) (omega arith) in
    let f = le-leb (87 + d) 102 (omega arith) in
    let e : 87 + d - 87 ≡ d = omega arith in
    rw (g, a, b, c, f, e)

glyph_back : (d : ℕ) → d < 16 → digit_of (glyph d) ≡ Some d
glyph_back d h = ⊎_elim (λ l. glyph_low d l) (λ l. glyph_high d l h) (cases_lt d 10)

spelled_back : (bs : List ℕ) → AllBelowBase 256 bs → paired (spelled bs) ≡ Some bs
unfolding paired
spelled_back [] h = refl
spelled_back (b ∷ bs) h =
    let l = h.0 in
    let hi = glyph_back (b / 16) (omega arith) in
    let lo = glyph_back (b % 16) (omega arith) in
    let r = spelled_back bs h.1 in
    let e : 16 * (b / 16) + b % 16 ≡ b = omega arith in
    rw (hi, lo, r, e)

and_no : (b : Bool) → b && false ≡ false
and_no true = refl
and_no false = refl

-- bytes that were printed read back
pub hex_back : (bs : List ℕ) → AllBelowBase 256 bs → bytes_of (hex_of bs) ≡ Some bs
unfolding bytes_of hex_of
hex_back [] h = refl
hex_back (b ∷ bs) h =
    let n = and_no (eqb (glyph (b / 16)) 45) in
    let l = lt-ltb 0 (length (spelled (b ∷ bs))) (omega arith) in
    rw (n, l) (spelled_back (b ∷ bs) h)

-- a reading of what was printed
pub says_back : {X : Type 0} (f : X → List ℕ) (r : Result X Refusal) (text : List ℕ) → Says f r (bytes_of text)
    → (bs : List ℕ) → AllBelowBase 256 bs → text ≡ hex_of bs → Says f r (Some bs)
says_back f r text s bs h e = subst (Says f r) (ap bytes_of e ∙ hex_back bs h) s

-- the digits of one byte more
pub spelled_more : (bs : List ℕ) (i : ℕ) → i < length bs
    → spelled (take (i + 1) bs) ≡ spelled (take i bs) ++ (glyph (get_or bs i 0 / 16) ∷ (glyph (get_or bs i 0 % 16) ∷ []))
spelled_more bs i h = ap spelled (take_more bs i 0 h) ∙ onto_end (take i bs) (get_or bs i 0)
  where
    onto_end : (xs : List ℕ) (b : ℕ) → spelled (xs ++ b ∷ []) ≡ spelled xs ++ (glyph (b / 16) ∷ (glyph (b % 16) ∷ []))
    onto_end [] b = refl
    onto_end (x ∷ xs) b = ap (λ ys. glyph (x / 16) ∷ (glyph (x % 16) ∷ ys)) (onto_end xs b)

pub hex_none : (bs : List ℕ) → length bs ≡ 0 → 45 ∷ [] ≡ hex_of bs
unfolding hex_of
hex_none [] e = refl
hex_none (b ∷ bs) e = absurd (omega arith)

pub hex_some : (bs : List ℕ) → (length bs ≡ 0 → ⊥) → spelled bs ≡ hex_of bs
unfolding hex_of
hex_some [] ne = absurd (ne refl)
hex_some (b ∷ bs) ne = refl
