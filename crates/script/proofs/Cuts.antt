-- How a text falls into pieces.
use Rattle.std.proofs.Common.{◌≡◌, ℕ, suc, ◌+◌, ◌-◌, ◌<◌, ◌≤◌, Bool, true, false, cond, not, eqb, ltb, lt-ltb, List, [], ◌∷◌, length, take, drop, Some, None, Option, sym, refl, ap, ◌∙◌, arith, Bor}
use Rattle.script.specs.Fields.{after, before, kept, left, mark_of, onto, pieces, takes}
use Rattle.std.proofs.lemmas.Bool.Decides.{nat_tests}
use Rattle.std.proofs.lemmas.List.{length-drop, take_all}
use Rattle.script.specs.declared.fields.Separator.{Separator}
use Rattle.std.specs.List.{position, position_or_len}
use borrow.Author.Tests.{ltb-false}
use Rattle.std.specs.Option.{option_map}

-- the pieces of what is left, if the text did not end
abbrev pub pieces_left : ℕ → Option (List ℕ) → List (List ℕ)
pieces_left c None = []
pieces_left c (Some xs) = pieces c xs

-- what follows the first c is shorter than the text
shorter : (c : ℕ) (xs ys : List ℕ) → after c xs ≡ Some ys → length ys < length xs
shorter c [] ys = λ (e : None ≡ Some ys). let z : ◌≡◌ {A = ℕ} 0 1 = cc in absurd (omega arith)
shorter c (x ∷ xs) ys =
    elim (eqb x c) as (λ v. cond v (Some xs) (after c xs) ≡ Some ys → length ys < suc (length xs))
    [ true ↦ (λ e. let f : xs ≡ ys = cc in omega (arith, ap length f)) | false ↦ (λ e. omega (arith, shorter c xs ys e)) ]

-- the first piece, and the others
pub pieces_cut : (c : ℕ) (xs : List ℕ) → pieces c xs ≡ before c xs ∷ pieces_left c (after c xs)
unfolding pieces
pieces_cut c [] = refl
pieces_cut c (x ∷ xs) =
    elim (eqb x c) as (λ v. cond v ([] ∷ pieces c xs) (onto x (pieces c xs)) ≡ cond v [] (x ∷ before c xs) ∷ pieces_left c (cond v (Some xs) (after c xs)))
    [ true ↦ refl | false ↦ ap (onto x) (pieces_cut c xs) ]

-- the first piece, and what follows it, by the place of the first c
before_is : (c : ℕ) (xs : List ℕ) → before c xs ≡ take (position_or_len (λ b. eqb b c) xs) xs
before_is c [] = refl
before_is c (x ∷ xs) =
    let n = position_or_len (λ b. eqb b c) xs in
    let e : 1 + n ≡ suc n = omega arith in
    elim (eqb x c) as (λ v. cond v [] (x ∷ before c xs) ≡ take (cond (not v) (1 + n) 0) (x ∷ xs))
    [ true ↦ refl | false ↦ rw e (ap (λ ys. x ∷ ys) (before_is c xs)) ]

after_is : (c : ℕ) (xs : List ℕ) → after c xs
    ≡ cond (ltb (position_or_len (λ b. eqb b c) xs) (length xs)) (Some (drop (position_or_len (λ b. eqb b c) xs + 1) xs)) None
after_is c [] = refl
after_is c (x ∷ xs) =
    let n = position_or_len (λ b. eqb b c) xs in
    let e : 1 + n + 1 ≡ suc (n + 1) = omega arith in
    let z : ltb 0 (suc (length xs)) ≡ true = lt-ltb 0 (suc (length xs)) (omega arith) in
    let f : ltb (1 + n) (suc (length xs)) ≡ ltb n (length xs) = grind (arith, nat_tests) in
    elim (eqb x c) as (λ v. cond v (Some xs) (after c xs) ≡ cond (ltb (cond (not v) (1 + n) 0) (suc (length xs))) (Some (drop (cond (not v) (1 + n) 0 + 1) (x ∷ xs))) None)
    [ true ↦ sym (ap (λ v. cond v (Some xs) None) z) | false ↦ after_is c xs ∙ sym (ap (λ v. cond v (Some (drop (1 + n + 1) (x ∷ xs))) None) f ∙ rw e refl) ]

here : (t : Bool) (n i : ℕ) → Some i ≡ cond t (Some n) None → (t ≡ true) × (i ≡ n)
here true n i e = (refl, cc)
here false n i e = let z : ◌≡◌ {A = ℕ} 0 1 = cc in absurd (omega arith)

nowhere : (t : Bool) (n : ℕ) → None ≡ cond t (Some n) None → t ≡ false
nowhere true n e = let z : ◌≡◌ {A = ℕ} 0 1 = cc in absurd (omega arith)
nowhere false n e = refl

pub before_at : (c i : ℕ) (xs : List ℕ) → Some i ≡ position (λ b. eqb b c) xs → take i xs ≡ before c xs
before_at c i xs e =
    let h = here (ltb (position_or_len (λ b. eqb b c) xs) (length xs)) (position_or_len (λ b. eqb b c) xs) i e in
    rw h.1 (sym (before_is c xs))

pub after_at : (c i : ℕ) (xs : List ℕ) → Some i ≡ position (λ b. eqb b c) xs
    → Some (take (length xs - (i + 1)) (drop (i + 1) xs)) ≡ after c xs
after_at c i xs e =
    let n = position_or_len (λ b. eqb b c) xs in
    let h = here (ltb n (length xs)) n i e in
    let t : ltb n (length xs) ≡ true = h.0 in
    let k : length (drop (n + 1) xs) ≤ length xs - (n + 1) = simp length-drop (omega arith) in
    rw h.1 (sym (after_is c xs ∙ ap (λ v. cond v (Some (drop (n + 1) xs)) None) t ∙ ap Some (sym (take_all (length xs - (n + 1)) (drop (n + 1) xs) k))))

pub before_all : (c : ℕ) (xs : List ℕ) → None ≡ position (λ b. eqb b c) xs → xs ≡ before c xs
before_all c xs e =
    let n = position_or_len (λ b. eqb b c) xs in
    let t : ltb n (length xs) ≡ false = nowhere (ltb n (length xs)) n e in
    let k : length xs ≤ n = omega (arith, ltb-false) in
    sym (before_is c xs ∙ take_all n xs k)

pub after_none : (c : ℕ) (xs : List ℕ) → None ≡ position (λ b. eqb b c) xs → None ≡ after c xs
after_none c xs e =
    let n = position_or_len (λ b. eqb b c) xs in
    let t : ltb n (length xs) ≡ false = nowhere (ltb n (length xs)) n e in
    sym (after_is c xs ∙ ap (λ v. cond v (Some (drop (n + 1) xs)) None) t)

-- how many bytes are left, and one where the text did not end
abbrev pub room : Option (Bor (List ℕ)) → ℕ
room None = 0
room (Some t) = length t.now + 1

-- a cut leaves less
pub room_less : (c : ℕ) (xs : List ℕ) (rest : Option (Bor (List ℕ))) → option_map (λ y. y.now) rest ≡ after c xs → room rest < length xs + 1
room_less c xs None e = omega arith
room_less c xs (Some t) e = omega (arith, shorter c xs t.now (sym e))

kept_left : (s : Separator) (rest : Option (Bor (List ℕ))) → kept s (pieces_left (mark_of s) (option_map (λ y. y.now) rest)) ≡ left s rest
kept_left s None = refl
kept_left s (Some t) = refl

-- the fields of a text that is cut at its first separator
pub left_cut : (s : Separator) (t : Bor (List ℕ)) (p : List ℕ) (rest : Option (Bor (List ℕ)))
    → p ≡ before (mark_of s) t.now → option_map (λ y. y.now) rest ≡ after (mark_of s) t.now
    → left s (Some t) ≡ cond (takes s p) (p ∷ left s rest) (left s rest)
left_cut s t p rest e f =
    ap (kept s) (pieces_cut (mark_of s) t.now ∙ ap (λ q. q ∷ pieces_left (mark_of s) (after (mark_of s) t.now)) (sym e) ∙ ap (λ o. p ∷ pieces_left (mark_of s) o) (sym f))
    ∙ ap (λ (ps : List (List ℕ)). cond (takes s p) (p ∷ ps) ps) (kept_left s rest)

-- the same of what a reader has left
pub fields_cut : (s : Separator) (was : Option (Bor (List ℕ))) (t : Bor (List ℕ)) (m : ℕ) (p : List ℕ) (rest : Option (Bor (List ℕ)))
    → was ≡ Some t → m ≡ mark_of s → p ≡ before m t.now → option_map (λ y. y.now) rest ≡ after m t.now
    → (left s was ≡ cond (takes s p) (p ∷ left s rest) (left s rest)) × (room rest < room was)
fields_cut s was t m p rest is mark e f = (
  ap (left s) is ∙ left_cut s t p rest (e ∙ ap (λ c. before c t.now) mark) (f ∙ ap (λ c. after c t.now) mark),
  rw is (room_less m t.now rest f),
)
