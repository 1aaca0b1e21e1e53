-- Sealing into areas of several lengths: no packet needs more than the longest, and what was written stands at the front.
use Rattle.std.proofs.Common.{◌≡◌, ℕ, ◌+◌, ◌-◌, ◌<◌, ◌≤◌, min, Bool, true, false, ltb, leb, List, [], ◌++◌, length, take, drop, IfOk, Ok, Err, Result, sym, refl, ap, ◌∙◌, ⊎_elim, arith, le-leb}
use Rattle.esp.proofs.Areas.{sealed_joined, sealed_long}
use Rattle.esp.specs.Asking.{ask}
use Rattle.esp.specs.Packet.{covered, pad_count, sealed, segment_right}
use Rattle.esp.specs.Sealing.{Sealing, laid, refused_at, sealing}
use Rattle.esp.specs.declared.faults.Fault.{Fault}
use Rattle.esp.specs.declared.faults.Fault.TheVariants.{AreaLength, CounterSpent, SegmentLength}
use Rattle.std.proofs.lemmas.List.{append_assoc, length-append, length-drop, length-take, take_at}
use Rattle.std.proofs.lemmas.Bool.{cases_lt}
use borrow.Rule.Slice.PartMut.{mid_of, post_of, put_mid}

-- a refusal writes nothing
nothing : (a b c : Bool) (f g h : Fault) (count : ℕ) (s : Sealing) (e : Fault) → (n : ℕ) → s.result ≡ Ok n
    → Err e ≡ (ask a (refused_at count f) (ask b (refused_at count g) (ask c (refused_at count h) s))).result
    → (ask a (refused_at count f) (ask b (refused_at count g) (ask c (refused_at count h) s))).written ≡ []
nothing false b c f g h count s e n ok is = refl
nothing true false c f g h count s e n ok is = refl
nothing true true false f g h count s e n ok is = refl
nothing true true true f g h count s e n ok is = let z : ◌≡◌ {A = ℕ} 0 1 = cc in absurd (omega arith)

-- a refusal counts nothing
counted_by : (a b c : Bool) (f g h : Fault) (count : ℕ) (s : Sealing) → IfOk s.result (λ n. n ≡ length s.written)
    → IfOk (ask a (refused_at count f) (ask b (refused_at count g) (ask c (refused_at count h) s))).result
    (λ n. n ≡ length (ask a (refused_at count f) (ask b (refused_at count g) (ask c (refused_at count h) s))).written)
counted_by false b c f g h count s p = tt
counted_by true false c f g h count s p = tt
counted_by true true false f g h count s p = tt
counted_by true true true f g h count s p = p

longest : (n : ℕ) → segment_right n ≡ true → n + pad_count n + 22 ≤ 1424
longest n e = let h : n ≤ 1400 = grind arith in omega arith

module _ (mac : List ℕ → List ℕ → List ℕ) (ik : List ℕ) (spi counter : ℕ) (segment : List ℕ) where
  pub refused_writes_nothing : (room : ℕ) (e : Fault) → Err e ≡ (sealing mac ik spi counter segment room).result
      → (sealing mac ik spi counter segment room).written ≡ []
  unfolding sealing
  refused_writes_nothing room e is =
      nothing (segment_right (length segment)) (ltb counter 4294967295) (leb (length segment + pad_count (length segment) + 22) room)
      (SegmentLength (length segment)) CounterSpent (AreaLength room) counter
      (record { result = Ok (length segment + pad_count (length segment) + 22); counter = counter + 1; written = sealed mac ik spi (counter + 1) segment })
      e (length segment + pad_count (length segment) + 22) refl is

  -- no packet needs more room than the longest
  pub room_enough : (area room : ℕ) → room ≡ min 1424 area
      → sealing mac ik spi counter segment room ≡ sealing mac ik spi counter segment area
  unfolding sealing
  room_enough area room e =
      same (segment_right (length segment)) (ltb counter 4294967295) refl
    where
      n : ℕ
      n = length segment + pad_count (length segment) + 22

      done : Sealing
      done = record { result = Ok n; counter = counter + 1; written = sealed mac ik spi (counter + 1) segment }

      last : n ≤ 1424 → ask (leb n room) (refused_at counter (AreaLength room)) done ≡ ask (leb n area) (refused_at counter (AreaLength area)) done
      last h =
          ⊎_elim
          (λ (l : room < n).
          let same : room ≡ area = omega arith in
          ap (λ (k : ℕ). ask (leb n k) (refused_at counter (AreaLength k)) done) same)
          (λ (l : n ≤ room).
          let one = le-leb n room l in
          let two = le-leb n area (omega arith) in
          rw (one, two))
          (cases_lt room n)

      same : (a b : Bool) → segment_right (length segment) ≡ a
          → ask a (refused_at counter (SegmentLength (length segment))) (ask b (refused_at counter CounterSpent) (ask (leb n room) (refused_at counter (AreaLength room)) done))
          ≡ ask a (refused_at counter (SegmentLength (length segment))) (ask b (refused_at counter CounterSpent) (ask (leb n area) (refused_at counter (AreaLength area)) done))
      same false b is = refl
      same true false is = refl
      same true true is = last (longest (length segment) is)

  -- the count that is answered is the count of the bytes written
  pub counted : length (mac ik (covered spi (counter + 1) segment)) ≡ 12 → (room : ℕ)
      → IfOk (sealing mac ik spi counter segment room).result (λ n. n ≡ length (sealing mac ik spi counter segment room).written)
  unfolding sealing
  counted twelve room =
      counted_by (segment_right (length segment)) (ltb counter 4294967295) (leb (length segment + pad_count (length segment) + 22) room)
      (SegmentLength (length segment)) CounterSpent (AreaLength room) counter
      (record { result = Ok (length segment + pad_count (length segment) + 22); counter = counter + 1; written = sealed mac ik spi (counter + 1) segment })
      (sym (sealed_long mac ik spi (counter + 1) segment twelve) ∙ ap length (sealed_joined mac ik spi (counter + 1) segment twelve))

-- what stands at the front of an area of 1424 bytes, of which the first `room` were lent
pub front_of : {X E : Type 0} (count : X → ℕ) (r : Result X E) (w out part : List ℕ) (room : ℕ) → IfOk r (λ x. count x ≡ length w) → length out ≡ 1424
    → room ≤ 1424 → part ≡ laid w (mid_of 0 (room - 0) out) → length part ≡ length (mid_of 0 (room - 0) out)
    → IfOk r (λ x. (count x ≤ 1424) × (take (count x) (put_mid 0 (room - 0) out part) ≡ w))
front_of count (Err e) w out part room is long few e₁ e₂ = tt
front_of count (Ok x) w out part room is long few e₁ e₂ =
    let n : ℕ = count x in
    let a : List ℕ = mid_of 0 (room - 0) out in
    let la : length a ≤ 1424 = simp length-take (omega arith) in
    let lp : length part ≡ length w + (length a - length w) = ap length e₁ ∙ length-append w (drop (length w) a) ∙ ap (λ (k : ℕ). length w + k) (length-drop (length w) a) in (
      omega arith,
      ap (λ (xs : List ℕ). take n (xs ++ post_of 0 (room - 0) out)) e₁
          ∙ ap (take n) (append_assoc w (drop (length w) a) (post_of 0 (room - 0) out))
          ∙ take_at w (drop (length w) a ++ post_of 0 (room - 0) out) n (sym is),
    )
