-- Output areas that are given by their lengths.
use Rattle.std.proofs.Common.{◌≡◌, ℕ, ◌-◌, ◌≤◌, min, Bool, ltb, List, [], length, take, IfOk, Err, Result, sym, ap, ◌∙◌, subst, arith}
use Rattle.integrity.specs.Algorithms.{Macs}
use Rattle.esp.proofs.Asks.{ask_both}
use Rattle.esp.proofs.Rooms.{front_of}
use Rattle.esp.specs.Asking.{asked}
use Rattle.esp.specs.Sealing.{laid}
use Rattle.proxy.specs.Machine.{Sending, answered, challenging, concluding, leaves, sending, taken_for}
use Rattle.proxy.specs.State.{State, count_of, put_row, row_of}
use Rattle.registration.proofs.Rooms.{Counted, Twelve, challenged_counted, challenged_room, concluded_counted, concluded_room, sent_counted, sent_room}
use Rattle.registration.specs.Emitting.{Reply}
use Rattle.registration.specs.Rows.{pending_pair}
use Rattle.registration.specs.Sending.{challenged, concluded, sent}
use Rattle.procedure.specs.declared.carrier.Sent.{Sent}
use Rattle.procedure.specs.declared.faults.Fault.{Fault}
use Rattle.procedure.specs.declared.faults.Fault.TheVariants.{NoSubscriber}
use Rattle.procedure.specs.declared.message.Outcome.{Outcome}
use Rattle.std.proofs.lemmas.List.{length-take}
use borrow.Rule.Slice.PartMut.{mid_of, put_mid}

-- what a reply makes of the state
abbrev sent_to : ℕ → State → Reply → Sending
sent_to s σ p =
    asked (ltb s (count_of σ)) (record { state = σ; result = Err NoSubscriber; written = [] })
    (record { state = put_row σ s p.row; result = p.result; written = p.written })

-- a call needs no longer area than the longest packet, and says how many bytes it wrote
pub record Clipped (F : ℕ → Sending) (area : ℕ) : Type 0 where
  pub same : F (min 1424 area) ≡ F area
  pub counted : IfOk (F area).result (λ s. s.bytes ≡ length (F area).written)

clipped : (s : ℕ) (σ : State) (act : ℕ → Reply) (area : ℕ) → act (min 1424 area) ≡ act area → Counted (act area)
    → Clipped (λ n. sent_to s σ (act n)) area
clipped s σ act area e h =
    record {
      same = ap (sent_to s σ) e;
      counted = ask_both (λ (p : Sending). IfOk p.result (λ s. s.bytes ≡ length p.written)) _ _ _ tt (λ _. h);
    }

module _ (m : Macs) (t : Twelve m) (s : ℕ) (segment : List ℕ) (area : ℕ) (σ : State) where
  pub challenging_clipped : (ik : List ℕ) → Clipped (λ n. challenging m s ik segment n σ) area
  unfolding challenging
  challenging_clipped ik =
      let taken : Bool = taken_for (pending_pair (row_of σ s).stage) s σ in
      clipped s σ (λ n. challenged m σ.service taken ik segment n (row_of σ s)) area
      (challenged_room area m σ.service taken ik segment (row_of σ s)) (challenged_counted m t area σ.service taken ik segment (row_of σ s))

  pub concluding_clipped : (w : Outcome) → Clipped (λ n. concluding m s w segment n σ) area
  unfolding concluding
  concluding_clipped w =
      clipped s σ (λ n. concluded m σ.service w segment n (row_of σ s)) area
      (concluded_room area m σ.service w segment (row_of σ s)) (concluded_counted m t area σ.service w segment (row_of σ s))

  pub sending_clipped : Clipped (λ n. sending m s segment n σ) area
  unfolding sending
  sending_clipped =
      clipped s σ (λ n. sent m segment n (row_of σ s)) area
      (sent_room area m segment (row_of σ s)) (sent_counted m t area segment (row_of σ s))

made_at : {X E : Type 0} (P : X → Type 0) (r t : Result X E) → r ≡ t → IfOk t P → IfOk r P
made_at P r t e h = subst (λ z. IfOk z P) (sym e) h

-- a call that was lent the first `room` bytes of an area of 1424 answers and writes as into an area of `area` bytes
pub within : (F : ℕ → Sending) (area room : ℕ) (out part : List ℕ) (σ : State) (r : Result Sent Fault) → room ≡ min 1424 area → length out ≡ 1424
    → Clipped F area
    → (σ, r, part) ≡ leaves (F (length (mid_of 0 (room - 0) out))) (mid_of 0 (room - 0) out)
    → length part ≡ length (mid_of 0 (room - 0) out)
    → ((σ, r) ≡ answered (F area)) × IfOk r (λ s. (s.bytes ≤ 1424) × (take s.bytes (put_mid 0 (room - 0) out part) ≡ (F area).written))
within F area room out part σ r er eo fits ran kept =
    let lent : List ℕ = mid_of 0 (room - 0) out in
    let long : length lent ≡ min 1424 area = simp length-take (omega arith) in
    let e : F (length lent) ≡ F area = ap F long ∙ fits.same in
    let result : r ≡ (F area).result = ap (λ (w : State × Result Sent Fault × List ℕ). w.1) ran ∙ ap (λ (p : Sending). p.result) e in (
      ap (λ (w : State × Result Sent Fault × List ℕ). (w.0, w.1)) ran ∙ ap answered e,
      front_of (λ (s : Sent). s.bytes) r (F area).written out part room
          (made_at (λ (s : Sent). s.bytes ≡ length (F area).written) r (F area).result result fits.counted) eo (omega arith)
          (ap (λ (w : State × Result Sent Fault × List ℕ). w.2) ran ∙ ap (λ (p : Sending). laid p.written lent) e) kept,
    )
