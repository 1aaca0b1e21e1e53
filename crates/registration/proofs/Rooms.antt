-- Output areas of several lengths: no call needs more than the longest packet, and the count that it answers is the
-- count of the bytes that it wrote.
use Rattle.std.proofs.Common.{◌≡◌, ℕ, ◌≤◌, min, Bool, not, eqb, ltb, leb, List, [], length, IfOk, Some, None, Ok, Err, Option, Result, sym, refl, ap, ◌∙◌, inl, inr, arith}
use Rattle.integrity.specs.Algorithms.{Macs, mac_by}
use Rattle.association.specs.Sealing.{Sealed, carried, lifted, refused, sealed_by}
use Rattle.integrity.specs.declared.algorithm.Algorithm.{Algorithm}
use Rattle.association.specs.declared.faults.Fault.TheVariants.{CounterSpent, Packet, SendingPort}
use Rattle.association.specs.declared.set.Set.{Set}
use Rattle.association.specs.Ports.{destination_of, source_of}
use Rattle.esp.proofs.Asks.{ask_both, ask_no, ask_yes}
use Rattle.esp.proofs.Rooms.{counted, room_enough}
use Rattle.esp.specs.Asking.{asked}
use Rattle.esp.specs.Packet.{segment_right}
use Rattle.esp.specs.declared.faults.Fault as esp
use Rattle.esp.specs.declared.faults.Fault.TheVariants.{AreaLength, SegmentLength}
use Rattle.registration.specs.Emitting.{Reply, copied, emitted, emitted_by, emitted_on, refusal, replied, sealed_in, sending_then, sent_by, unsent, wrong_length}
use Rattle.registration.specs.Rows.{ended}
use Rattle.registration.specs.Sending.{challenged, challenged_by, challenged_on, concluded, concluded_on, cover_stands, sent, sent_on, settled, terms_right, traffic_slot, user_failure_carrier}
use Rattle.procedure.specs.Carriers.{cover_carrier}
use Rattle.procedure.specs.declared.carrier.Carrier.{Carrier}
use Rattle.procedure.specs.declared.carrier.Carrier.TheVariants as carrier
use Rattle.procedure.specs.declared.carrier.Sent.{Sent}
use Rattle.procedure.specs.declared.faults.Fault.{Fault}
use Rattle.procedure.specs.declared.faults.Fault.TheVariants.{Association, BadTerms, CoverGone, PairInUse}
use Rattle.procedure.specs.declared.message.Outcome.{Outcome}
use Rattle.procedure.specs.declared.message.Outcome.TheVariants as outcome
use Rattle.registration.specs.declared.row.Row.{Row}
use Rattle.procedure.specs.declared.service.Service.{Service}
use Rattle.procedure.specs.declared.stage.Phase.TheVariants as phase
use Rattle.procedure.specs.declared.stage.Stage.{Stage}
use Rattle.procedure.specs.declared.stage.Stage.TheVariants as stage
use Rattle.slots.specs.Slots.{at}
use Rattle.slots.specs.declared.slot.Slot.{Slot}
use Rattle.slots.specs.declared.slot.Slot.TheVariants as slot
use Rattle.std.proofs.lemmas.Bool.{and_parts, cases_Bool, cases_lt, le-leb, leb-true}

-- each tag has twelve bytes
abbrev pub Twelve : Macs → Type 0
Twelve m = (alg : Algorithm) (ik text : List ℕ) → length (mac_by m alg ik text) ≡ 12

-- the count that is answered is that of the bytes written
abbrev pub Counted : Reply → Type 0
Counted p = IfOk p.result (λ s. s.bytes ≡ length p.written)

module _ (area : ℕ) where
  -- a set
  sealed_room : (m : Macs) (k : Slot) (segment : List ℕ) (x : Set) → sealed_by m k segment (min 1424 area) x ≡ sealed_by m k segment area x
  unfolding sealed_by
  sealed_room m k segment x =
      ap (λ s. asked (segment_right (length segment)) (refused x (Packet (SegmentLength (length segment))))
      (asked (eqb (destination_of segment) x.parameters.port) (refused x SendingPort)
      (asked (ltb x.sent 4294967295) (refused x (CounterSpent k)) (carried x s))))
      (room_enough (mac_by m x.parameters.algorithm) x.parameters.ik x.parameters.spi x.sent segment area (min 1424 area) refl)

  -- in clear
  copied_last : (segment : List ℕ) → length segment ≤ 1400
      → ◌≡◌ {A = Result Sent Fault × List ℕ}
      (asked (leb (length segment) (min 1424 area)) (Err (Association (Packet (AreaLength (min 1424 area)))), []) (Ok (record { bytes = length segment; carrier = carrier.Clear }), segment))
      (asked (leb (length segment) area) (Err (Association (Packet (AreaLength area))), []) (Ok (record { bytes = length segment; carrier = carrier.Clear }), segment))
  copied_last segment few =
      elim (cases_lt area 1424) [
        | inl lt ↦ let same : min 1424 area ≡ area = omega arith in
            ap (λ n. asked (leb (length segment) n) (Err (Association (Packet (AreaLength n))), []) (Ok (record { bytes = length segment; carrier = carrier.Clear }), segment)) same
        | inr ge ↦
            ask_yes _ _ _ (le-leb (length segment) (min 1424 area) (omega arith))
            ∙ sym (ask_yes _ _ _ (le-leb (length segment) area (omega arith)))
      ]

  copied_room : (port : ℕ) (segment : List ℕ) → copied port segment (min 1424 area) ≡ copied port segment area
  unfolding copied
  copied_room port segment =
      elim (cases_Bool (segment_right (length segment))) [
        | inl right ↦
            ap (λ z. asked (segment_right (length segment)) (Err (wrong_length segment), [])
            (asked (not (eqb (source_of segment) port)) (Err (Association SendingPort), []) z))
            (copied_last segment (leb-true (length segment) 1400 (and_parts (leb 8 (length segment)) (leb (length segment) 1400) right).1))
        | inr wrong ↦ ask_no _ _ _ wrong ∙ sym (ask_no _ _ _ wrong)
      ]

  emitted_on_room : (m : Macs) (k : Slot) (segment : List ℕ) (r : Row) (o : Option Set)
      → emitted_on m k segment (min 1424 area) r o ≡ emitted_on m k segment area r o
  emitted_on_room m k segment r None = refl
  emitted_on_room m k segment r (Some x) = ap (sealed_in k r) (sealed_room m k segment x)

  emitted_by_room : (m : Macs) (k : Slot) (segment : List ℕ) (r : Row) → emitted_by m k segment (min 1424 area) r ≡ emitted_by m k segment area r
  unfolding emitted_by
  emitted_by_room m k segment r = emitted_on_room m k segment r (at k r.slots)

  emitted_room : (m : Macs) (port : ℕ) (c : Carrier) (segment : List ℕ) (r : Row) → emitted m port c segment (min 1424 area) r ≡ emitted m port c segment area r
  unfolding emitted
  emitted_room m port carrier.Clear segment r = ap (replied r) (copied_room port segment)
  emitted_room m port (carrier.By k) segment r = emitted_by_room m k segment r
  emitted_room m port carrier.Nothing segment r = refl

  challenged_on_room : (g : Stage) (m : Macs) (v : Service) (taken : Bool) (ik segment : List ℕ) (r : Row)
      → challenged_on g m v taken ik segment (min 1424 area) r ≡ challenged_on g m v taken ik segment area r
  challenged_on_room stage.None m v taken ik segment r = refl
  challenged_on_room (stage.Offered p d) m v taken ik segment r =
      ap (λ e. asked (cover_stands p.cover r.slots) (refusal (ended r) (CoverGone phase.Offered))
      (asked (not taken) (refusal (ended r) (PairInUse phase.Offered)) (sending_then e (challenged_by v.clock ik p))))
      (emitted_room m v.port (cover_carrier p.cover) segment r)
  challenged_on_room (stage.Challenged p) m v taken ik segment r = refl
  challenged_on_room (stage.Answered p) m v taken ik segment r = refl

  pub challenged_room : (m : Macs) (v : Service) (taken : Bool) (ik segment : List ℕ) (r : Row)
      → challenged m v taken ik segment (min 1424 area) r ≡ challenged m v taken ik segment area r
  unfolding challenged
  challenged_room m v taken ik segment r = challenged_on_room r.stage m v taken ik segment r

  failed_room : (m : Macs) (v : Service) (c : Carrier) (segment : List ℕ) (r : Row)
      → sending_then (emitted m v.port c segment (min 1424 area) r) ended ≡ sending_then (emitted m v.port c segment area r) ended
  failed_room m v c segment r = ap (λ e. sending_then e ended) (emitted_room m v.port c segment r)

  concluded_on_room : (g : Stage) (w : Outcome) (m : Macs) (v : Service) (segment : List ℕ) (r : Row)
      → concluded_on g w m v segment (min 1424 area) r ≡ concluded_on g w m v segment area r
  concluded_on_room stage.None (outcome.Success timer mask) m v segment r = refl
  concluded_on_room stage.None outcome.UserFailure m v segment r = refl
  concluded_on_room stage.None outcome.OtherFailure m v segment r = refl
  concluded_on_room (stage.Offered p d) (outcome.Success timer mask) m v segment r = refl
  concluded_on_room (stage.Offered p d) outcome.UserFailure m v segment r = refl
  concluded_on_room (stage.Offered p d) outcome.OtherFailure m v segment r = failed_room m v (cover_carrier p.cover) segment r
  concluded_on_room (stage.Challenged p) (outcome.Success timer mask) m v segment r = refl
  concluded_on_room (stage.Challenged p) outcome.UserFailure m v segment r = refl
  concluded_on_room (stage.Challenged p) outcome.OtherFailure m v segment r = failed_room m v (cover_carrier p.cover) segment r
  concluded_on_room (stage.Answered p) (outcome.Success timer mask) m v segment r =
      ap (λ e. asked (terms_right timer mask) (refusal r (BadTerms phase.Answered)) (sending_then e (settled v.clock timer mask p.cover)))
      (emitted_by_room m slot.Registration segment r)
  concluded_on_room (stage.Answered p) outcome.UserFailure m v segment r = failed_room m v (user_failure_carrier p.cover) segment r
  concluded_on_room (stage.Answered p) outcome.OtherFailure m v segment r = failed_room m v (cover_carrier p.cover) segment r

  pub concluded_room : (m : Macs) (v : Service) (w : Outcome) (segment : List ℕ) (r : Row)
      → concluded m v w segment (min 1424 area) r ≡ concluded m v w segment area r
  unfolding concluded
  concluded_room m v w segment r = concluded_on_room r.stage w m v segment r

  sent_on_room : (k : Option Slot) (m : Macs) (segment : List ℕ) (r : Row) → sent_on k m segment (min 1424 area) r ≡ sent_on k m segment area r
  sent_on_room None m segment r = refl
  sent_on_room (Some k) m segment r = emitted_by_room m k segment r

  pub sent_room : (m : Macs) (segment : List ℕ) (r : Row) → sent m segment (min 1424 area) r ≡ sent m segment area r
  unfolding sent
  sent_room m segment r = sent_on_room (traffic_slot r.slots) m segment r

module _ (m : Macs) (twelve : Twelve m) (room : ℕ) where
  lifted_counted : (r : Result ℕ esp.Fault) (k : Slot) (w : List ℕ) → IfOk r (λ n. n ≡ length w) → IfOk (sent_by k (lifted r)) (λ s. s.bytes ≡ length w)
  lifted_counted (Ok n) k w h = h
  lifted_counted (Err e) k w h = tt

  sealed_counted : (k : Slot) (segment : List ℕ) (x : Set)
      → IfOk (sent_by k (sealed_by m k segment room x).result) (λ s. s.bytes ≡ length (sealed_by m k segment room x).written)
  unfolding sealed_by
  sealed_counted k segment x =
      let F : Sealed → Type 0 = λ z. IfOk (sent_by k z.result) (λ s. s.bytes ≡ length z.written) in
      ask_both F _ _ _ tt (λ _. ask_both F _ _ _ tt (λ _. ask_both F _ _ _ tt
      (λ _. lifted_counted _ k _
      (counted (mac_by m x.parameters.algorithm) x.parameters.ik x.parameters.spi x.sent segment (twelve x.parameters.algorithm x.parameters.ik _) room))))

  copied_counted : (port : ℕ) (segment : List ℕ) → IfOk (copied port segment room).0 (λ s. s.bytes ≡ length (copied port segment room).1)
  unfolding copied
  copied_counted port segment =
      let F : Result Sent Fault × List ℕ → Type 0 = λ z. IfOk z.0 (λ s. s.bytes ≡ length z.1) in
      ask_both F _ _ _ tt (λ _. ask_both F _ _ _ tt (λ _. ask_both F _ _ _ tt (λ _. refl)))

  unsent_counted : (segment : List ℕ) → IfOk (unsent segment) (λ s. s.bytes ≡ length {A = ℕ} [])
  unfolding unsent
  unsent_counted segment =
      ask_both (λ (z : Result Sent Fault). IfOk z (λ s. s.bytes ≡ length {A = ℕ} [])) _ _ _ tt (λ _. refl)

  emitted_on_counted : (k : Slot) (segment : List ℕ) (r : Row) (o : Option Set) → Counted (emitted_on m k segment room r o)
  emitted_on_counted k segment r None = unsent_counted segment
  emitted_on_counted k segment r (Some x) = sealed_counted k segment x

  emitted_by_counted : (k : Slot) (segment : List ℕ) (r : Row) → Counted (emitted_by m k segment room r)
  unfolding emitted_by
  emitted_by_counted k segment r = emitted_on_counted k segment r (at k r.slots)

  emitted_counted : (port : ℕ) (c : Carrier) (segment : List ℕ) (r : Row) → Counted (emitted m port c segment room r)
  unfolding emitted
  emitted_counted port carrier.Clear segment r = copied_counted port segment
  emitted_counted port (carrier.By k) segment r = emitted_by_counted k segment r
  emitted_counted port carrier.Nothing segment r = unsent_counted segment

  challenged_on_counted : (g : Stage) (v : Service) (taken : Bool) (ik segment : List ℕ) (r : Row) → Counted (challenged_on g m v taken ik segment room r)
  challenged_on_counted stage.None v taken ik segment r = tt
  challenged_on_counted (stage.Offered p d) v taken ik segment r =
      ask_both Counted _ _ _ tt (λ _. ask_both Counted _ _ _ tt (λ _. emitted_counted v.port (cover_carrier p.cover) segment r))
  challenged_on_counted (stage.Challenged p) v taken ik segment r = tt
  challenged_on_counted (stage.Answered p) v taken ik segment r = tt

  pub challenged_counted : (v : Service) (taken : Bool) (ik segment : List ℕ) (r : Row) → Counted (challenged m v taken ik segment room r)
  unfolding challenged
  challenged_counted v taken ik segment r = challenged_on_counted r.stage v taken ik segment r

  concluded_on_counted : (g : Stage) (w : Outcome) (v : Service) (segment : List ℕ) (r : Row) → Counted (concluded_on g w m v segment room r)
  concluded_on_counted stage.None (outcome.Success timer mask) v segment r = tt
  concluded_on_counted stage.None outcome.UserFailure v segment r = tt
  concluded_on_counted stage.None outcome.OtherFailure v segment r = tt
  concluded_on_counted (stage.Offered p d) (outcome.Success timer mask) v segment r = tt
  concluded_on_counted (stage.Offered p d) outcome.UserFailure v segment r = tt
  concluded_on_counted (stage.Offered p d) outcome.OtherFailure v segment r = emitted_counted v.port (cover_carrier p.cover) segment r
  concluded_on_counted (stage.Challenged p) (outcome.Success timer mask) v segment r = tt
  concluded_on_counted (stage.Challenged p) outcome.UserFailure v segment r = tt
  concluded_on_counted (stage.Challenged p) outcome.OtherFailure v segment r = emitted_counted v.port (cover_carrier p.cover) segment r
  concluded_on_counted (stage.Answered p) (outcome.Success timer mask) v segment r =
      ask_both Counted _ _ _ tt (λ _. emitted_by_counted slot.Registration segment r)
  concluded_on_counted (stage.Answered p) outcome.UserFailure v segment r = emitted_counted v.port (user_failure_carrier p.cover) segment r
  concluded_on_counted (stage.Answered p) outcome.OtherFailure v segment r = emitted_counted v.port (cover_carrier p.cover) segment r

  pub concluded_counted : (v : Service) (w : Outcome) (segment : List ℕ) (r : Row) → Counted (concluded m v w segment room r)
  unfolding concluded
  concluded_counted v w segment r = concluded_on_counted r.stage w v segment r

  sent_on_counted : (k : Option Slot) (segment : List ℕ) (r : Row) → Counted (sent_on k m segment room r)
  sent_on_counted None segment r = tt
  sent_on_counted (Some k) segment r = emitted_by_counted k segment r

  pub sent_counted : (segment : List ℕ) (r : Row) → Counted (sent m segment room r)
  unfolding sent
  sent_counted segment r = sent_on_counted (traffic_slot r.slots) segment r
