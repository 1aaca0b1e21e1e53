-- The stored window and the numbers that it stands for: what passes, and what recording does.
use Rattle.std.proofs.Common.{◌≡◌, ℕ, ◌+◌, ◌-◌, ◌*◌, ◌%◌, ◌^◌, ◌<◌, ◌≤◌, Bool, false, eqb, List, [], ◌∷◌, sym, refl, ◌∙◌, subst, ⊎_elim, arith}
use Rattle.esp.proofs.Bitmap.{bit_64, bit_above, bit_below, bit_one, bit_of_or, bit_under, flag_here, flag_off, or_one, zero_or_one}
use Rattle.esp.specs.Numbers.{Stands, may_pass, recorded, top}
use Rattle.esp.specs.Window.{bit_at, noted, passing}
use Rattle.esp.specs.declared.window.ReplayWindow.{ReplayWindow}
use Rattle.std.proofs.lemmas.Bool.{cases_eq, cases_lt, eq-eqb, le-ltb, lt-ltb, ne_eqb}
use lib.Bits.{bit_or, or_zero_r}

-- a number above the highest is not recorded
unseen : (q : ℕ) (ns : List ℕ) → top ns < q → recorded q ns ≡ false
unseen q [] h = refl
unseen q (n ∷ ns) h = rw (ne_eqb q n (omega arith), unseen q ns (omega arith))

-- a bitmap marks the numbers ns up to h
abbrev Marks : ℕ → ℕ → List ℕ → Type 0
Marks h b ns = (k : ℕ) → 0 < k → k ≤ h → h < k + 64 → eqb (bit_at b (h - k)) 1 ≡ recorded k ns

-- one more mark within the 64
marked : (h b q : ℕ) (ns : List ℕ) → q ≤ h → h - q < 64 → Marks h b ns → Marks h (bit_or b ((1 * 2 ^ (h - q)) % 2 ^ 64)) (q ∷ ns)
marked h b q ns l m s k k0 kh kl =
    let j : h - k < 64 = omega arith in
    let o = bit_of_or b ((1 * 2 ^ (h - q)) % 2 ^ 64) (h - k) in
    ⊎_elim
    (λ e. let f = flag_here (h - q) (h - k) j (omega arith) in
    rw (o, f, or_one (bit_at b (h - k)) (bit_below b (h - k)), eq-eqb k q e))
    (λ n. let f = flag_off (h - q) (h - k) j (λ e. n (omega arith)) in
    rw (o, f, or_zero_r (bit_at b (h - k)), ne_eqb k q n) (s k k0 kh kl))
    (cases_eq k q)

-- no mark for a number below the 64
passed_over : (h b q : ℕ) (ns : List ℕ) → 64 ≤ h - q → Marks h b ns → Marks h b (q ∷ ns)
passed_over h b q ns m s k k0 kh kl = let n : k ≡ q → ⊥ = λ e. omega arith in rw (ne_eqb k q n) (s k k0 kh kl)

-- the marks, moved up to a higher number
moved : (h b q : ℕ) (ns : List ℕ) → h ≡ top ns → h < q → Marks h b ns → (k : ℕ) → 0 < k → k < q → q < k + 64
    → eqb (bit_at (b * 2 ^ (q - h)) (q - k)) 1 ≡ recorded k ns
moved h b q ns t l s k k0 kh kl =
    ⊎_elim
    (λ (g : h < k). rw (bit_under b (q - h) (q - k) (omega arith), unseen k ns (omega arith)))
    (λ (g : k ≤ h). let d : q - k - (q - h) ≡ h - k = omega arith in
    rw (bit_above b (q - h) (q - k) (omega arith), d) (s k k0 g (omega arith)))
    (cases_lt h k)

-- a number less than 64 above the highest: the marks move up, and it has bit 0
moved_up : (h b q : ℕ) (ns : List ℕ) → h ≡ top ns → h < q → q - h < 64 → Marks h b ns → Marks q (bit_or ((b * 2 ^ (q - h)) % 2 ^ 64) 1) (q ∷ ns)
moved_up h b q ns t l m s k k0 kh kl =
    let j : q - k < 64 = omega arith in
    let x = (b * 2 ^ (q - h)) % 2 ^ 64 in
    let o = bit_of_or x 1 (q - k) in
    let z = bit_64 (b * 2 ^ (q - h)) (q - k) j in
    ⊎_elim
    (λ e. let i : q - k ≡ 0 = omega arith in rw (o, i, or_one (bit_at x 0) (bit_below x 0), eq-eqb k q e))
    (λ (n : k ≡ q → ⊥).
    let lt : k < q = omega arith in
    let p : 0 < q - k = omega arith in
    rw (o, bit_one (q - k) p, or_zero_r (bit_at x (q - k)), z, ne_eqb k q n) (moved h b q ns t l s k k0 lt kl))
    (cases_eq k q)

-- a number 64 or more above the highest: its mark alone is left
alone : (h q : ℕ) (ns : List ℕ) → h ≡ top ns → 64 ≤ q - h → Marks q 1 (q ∷ ns)
alone h q ns t l k k0 kh kl =
    ⊎_elim
    (λ e. let i : q - k ≡ 0 = omega arith in rw (i, eq-eqb k q e))
    (λ n. rw (bit_one (q - k) (omega arith), ne_eqb k q n, unseen k ns (omega arith)))
    (cases_eq k q)

module _ (w : ReplayWindow) (q : ℕ) (ns : List ℕ) (s : Stands w ns) where
  -- whether a number passes: 0, one above the highest, one within the 64, and one below them
  zero_passes : q ≤ 0 → passing w q ≡ may_pass ns q
  unfolding passing
  zero_passes p = rw (le-ltb 0 q p)

  above_passes : 0 < q → w.highest < q → passing w q ≡ may_pass ns q
  unfolding passing
  above_passes p l =
      let t : top ns < q = omega (arith, s.highest) in
      rw (lt-ltb 0 q p, lt-ltb w.highest q l, lt-ltb (top ns) (q + 64) (omega arith), unseen q ns t)

  within_passes : 0 < q → q ≤ w.highest → w.highest - q < 64 → passing w q ≡ may_pass ns q
  unfolding passing
  within_passes p l m =
      let t = lt-ltb (top ns) (q + 64) (omega (arith, s.highest)) in
      let z = zero_or_one (bit_at w.bitmap (w.highest - q)) (bit_below w.bitmap (w.highest - q)) in
      rw (lt-ltb 0 q p, le-ltb w.highest q l, lt-ltb (w.highest - q) 64 m, t, z, s.marks q p l (omega arith))

  below_passes : 0 < q → q ≤ w.highest → 64 ≤ w.highest - q → passing w q ≡ may_pass ns q
  unfolding passing
  below_passes p l m =
      let t = le-ltb (top ns) (q + 64) (omega (arith, s.highest)) in
      rw (lt-ltb 0 q p, le-ltb w.highest q l, le-ltb (w.highest - q) 64 m, t)

  -- a window lets a number pass just where the numbers that it stands for do
  pub passing_stands : passing w q ≡ may_pass ns q
  passing_stands =
      let old = λ (p : 0 < q) (l : q ≤ w.highest). ⊎_elim (within_passes p l) (below_passes p l) (cases_lt (w.highest - q) 64) in
      let some = λ (p : 0 < q). ⊎_elim (above_passes p) (old p) (cases_lt w.highest q) in
      ⊎_elim some zero_passes (cases_lt 0 q)

  -- recording a number: less than 64 above the highest, further above, within the 64, and below them
  near_noted : w.highest < q → q - w.highest < 64 → Stands (noted w q) (q ∷ ns)
  unfolding noted
  near_noted l m =
      let marks = moved_up w.highest w.bitmap q ns s.highest l m s.marks in
      rw (lt-ltb w.highest q l, lt-ltb (q - w.highest) 64 m) (record { highest = omega (arith, s.highest); marks = marks })

  far_noted : w.highest < q → 64 ≤ q - w.highest → Stands (noted w q) (q ∷ ns)
  unfolding noted
  far_noted l m =
      let marks = alone w.highest q ns s.highest m in
      rw (lt-ltb w.highest q l, le-ltb (q - w.highest) 64 m) (record { highest = omega (arith, s.highest); marks = marks })

  within_noted : q ≤ w.highest → w.highest - q < 64 → Stands (noted w q) (q ∷ ns)
  unfolding noted
  within_noted l m =
      let marks = marked w.highest w.bitmap q ns l m s.marks in
      rw (le-ltb w.highest q l, lt-ltb (w.highest - q) 64 m) (record { highest = omega (arith, s.highest); marks = marks })

  below_noted : q ≤ w.highest → 64 ≤ w.highest - q → Stands (noted w q) (q ∷ ns)
  unfolding noted
  below_noted l m =
      let marks = passed_over w.highest w.bitmap q ns m s.marks in
      rw (le-ltb w.highest q l, le-ltb (w.highest - q) 64 m) (record { highest = omega (arith, s.highest); marks = marks })

  -- a window that stands for numbers stands for one more once that is recorded
  pub noted_stands : Stands (noted w q) (q ∷ ns)
  noted_stands =
      let above = λ (l : w.highest < q). ⊎_elim (near_noted l) (far_noted l) (cases_lt (q - w.highest) 64) in
      let old = λ (l : q ≤ w.highest). ⊎_elim (within_noted l) (below_noted l) (cases_lt (w.highest - q) 64) in
      ⊎_elim above old (cases_lt w.highest q)

-- the same of a call's answer, and of the window that it leaves
pub passes_by_numbers : (w : ReplayWindow) (q : ℕ) (r : Bool) → r ≡ passing w q → (ns : List ℕ) → Stands w ns → r ≡ may_pass ns q
passes_by_numbers w q r e ns s = e ∙ passing_stands w q ns s

pub records_by_numbers : (w v : ReplayWindow) (q : ℕ) → v ≡ noted w q → (ns : List ℕ) → Stands w ns → Stands v (q ∷ ns)
records_by_numbers w v q e ns s = subst (λ (x : ReplayWindow). Stands x (q ∷ ns)) (sym e) (noted_stands w q ns s)
