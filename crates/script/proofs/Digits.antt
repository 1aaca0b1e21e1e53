-- Numbers read digit by digit.
use Rattle.std.proofs.Common.{◌≡◌, ℕ, ◌+◌, ◌-◌, ◌*◌, ◌^◌, ◌<◌, ◌≤◌, Bool, true, false, cond, ◌&&◌, ltb, leb, List, [], ◌∷◌, length, get_or, drop, IfSome, Some, None, decimal, Option, sym, refl, ap, ◌∙◌, arith, rules, le-ltb, lt-ltb, le-leb, leb-false, leb-true}
use Rattle.script.specs.Decimal.{longer, number_of, value_after}
use Rattle.std.proofs.lemmas.Fmt.{decimal_nonempty, digits_decimal, digits_value-decimal}
use Rattle.std.proofs.lemmas.List.{at_drop_all, at_drop_more}
use Rattle.std.proofs.lemmas.Str.Parse.{IsNumeralModel, numerals_by_fold}
use Rattle.std.specs.Char.{is_ascii_digit}
use Rattle.std.specs.Str.{all_ascii_digits}
use borrow.Author.Tests.{lt-leb}

-- more digits never make a number smaller
value_grows : (n : ℕ) (cs : List ℕ) → n ≤ value_after n cs
value_grows n [] = omega arith
value_grows n (c ∷ cs) = omega (arith, value_grows (n * 10 + (c - 48)) cs)

-- the digits cs after the number n, one after another
abbrev pub read_on : ℕ → Option ℕ → List ℕ → Option ℕ
read_on most None cs = None
read_on most (Some n) [] = Some n
read_on most (Some n) (c ∷ cs) = read_on most (longer most n c) cs

and_no : (b : Bool) → b && false ≡ false
and_no true = refl
and_no false = refl

-- one digit more, after which the number is m
read_step : (most m : ℕ) (cs : List ℕ) (d e : Bool) → leb m most ≡ e
    → (m ≤ most → read_on most (Some m) cs ≡ cond (all_ascii_digits cs && leb (value_after m cs) most) (Some (value_after m cs)) None)
    → read_on most (cond (d && e) (Some m) None) cs
    ≡ cond ((d && all_ascii_digits cs) && leb (value_after m cs) most) (Some (value_after m cs)) None
read_step most m cs false e is rest = refl
read_step most m cs true true is rest = rest (leb-true m most is)
read_step most m cs true false is rest =
    let g : most < value_after m cs = omega (arith, leb-false m most is, value_grows m cs) in
    let l = lt-leb (value_after m cs) most g in
    rw (l, and_no (all_ascii_digits cs))

-- reading digit by digit, and giving up at the first that makes the number too large, is reading all
pub read_all : (most n : ℕ) (cs : List ℕ) → n ≤ most
    → read_on most (Some n) cs ≡ cond (all_ascii_digits cs && leb (value_after n cs) most) (Some (value_after n cs)) None
read_all most n [] h = let l = le-leb n most h in rw l
read_all most n (c ∷ cs) h =
    read_step most (n * 10 + (c - 48)) cs (is_ascii_digit c) (leb (n * 10 + (c - 48)) most) refl (read_all most (n * 10 + (c - 48)) cs)

pub number_read : (most : ℕ) (text : List ℕ) → 0 < length text → read_on most (Some 0) text ≡ number_of most text
unfolding number_of
number_read most text h = let l = lt-ltb 0 (length text) h in read_all most 0 text (omega arith) ∙ sym (rw l)

pub number_none : (most : ℕ) (text : List ℕ) → length text ≡ 0 → None ≡ number_of most text
unfolding number_of
number_none most text h = let l : ltb 0 (length text) ≡ false = le-ltb 0 (length text) (omega arith) in rw l

-- what is read is at most `most`
pub number_within : (most : ℕ) (text : List ℕ) → IfSome (number_of most text) (λ n. n ≤ most)
unfolding number_of
number_within most text = within (ltb 0 (length text)) (all_ascii_digits text) (leb (value_after 0 text) most) refl
  where
    within : (a b e : Bool) → leb (value_after 0 text) most ≡ e → IfSome (cond (a && (b && e)) (Some (value_after 0 text)) None) (λ n. n ≤ most)
    within false b e is = tt
    within true false e is = tt
    within true true false is = tt
    within true true true is = leb-true (value_after 0 text) most is

own : IsNumeralModel (λ ds. all_ascii_digits ds ≡ true) (value_after 0)
own = numerals_by_fold _ (search rules) value_after (search rules)

-- what is printed of a number reads back as it
pub number_back : (most n : ℕ) → n ≤ most → n < 2 ^ 64 → number_of most (decimal n) ≡ Some n
unfolding number_of
number_back most n h s =
    let d = digits_decimal own n s in
    let v = digits_value-decimal own n s in
    let l = lt-ltb 0 (length (decimal n)) (decimal_nonempty n s) in
    let m = le-leb n most h in
    rw (l, d, v, m)

-- one turn of the loop over the digits
pub read_more : (most n i : ℕ) (text : List ℕ) (o : Option ℕ) → i < length text → o ≡ longer most n (get_or text i 0)
    → read_on most (Some n) (drop i text) ≡ read_on most o (drop (i + 1) text)
read_more most n i text o l e =
    at_drop_more (read_on most (Some n)) text i 0 l ∙ ap (λ p. read_on most p (drop (i + 1) text)) (sym e)

pub read_end : (most n i : ℕ) (text : List ℕ) → length text ≤ i → read_on most (Some n) (drop i text) ≡ Some n
read_end most n i text h = at_drop_all (read_on most (Some n)) text i h
