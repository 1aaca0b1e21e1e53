-- The calls that send, on one row: challenge, outcome and send.
use Rattle.std.specs.Prelude.{ℕ, ◌+◌, Bool, true, cond, not, ◌&&◌, List, is_some, Some, None, Option, ◌==◌}
use Rattle.integrity.specs.Algorithms.{Macs}
use Rattle.association.specs.Asked.{fresh}
use Rattle.association.specs.Expiry.{expiry_of, lasting}
use Rattle.association.specs.declared.faults.Fault.TheVariants.{NoTraffic}
use Rattle.association.specs.declared.set.Parameters.{Parameters}
use Rattle.association.specs.declared.set.Set.{Set}
use Rattle.esp.specs.Asking.{asked}
use Rattle.registration.specs.Emitting.{Reply, emitted, emitted_by, refusal, sending_then}
use Rattle.registration.specs.Keeping.{expiry_after, timer_right}
use Rattle.registration.specs.Rows.{ended}
use Rattle.procedure.specs.Carriers.{cover_carrier}
use Rattle.procedure.specs.declared.carrier.Carrier.{Carrier}
use Rattle.procedure.specs.declared.carrier.Carrier.TheVariants as carrier
use Rattle.procedure.specs.declared.faults.Fault.TheVariants.{Association, BadTerms, CoverGone, PairInUse, WrongStage}
use Rattle.procedure.specs.declared.message.Outcome.{Outcome}
use Rattle.procedure.specs.declared.message.Outcome.TheVariants.{OtherFailure, Success, UserFailure}
use Rattle.registration.specs.declared.row.Row.{Row}
use Rattle.procedure.specs.declared.service.Service.{Service}
use Rattle.procedure.specs.declared.stage.Phase.TheVariants as phase
use Rattle.procedure.specs.declared.stage.Procedure.{Procedure}
use Rattle.procedure.specs.declared.stage.Stage.{Stage}
use Rattle.procedure.specs.declared.stage.Stage.TheVariants as stage
use Rattle.slots.specs.Slots.{latest, put, succeeded}
use Rattle.slots.specs.declared.cover.Cover.{Cover}
use Rattle.slots.specs.declared.cover.Cover.TheVariants as cover
use Rattle.slots.specs.declared.slot.Slot.{Slot}
use Rattle.slots.specs.declared.slot.Slot.TheVariants as slot
use Rattle.slots.specs.declared.three.Slots.{Slots}

-- whether the set that the REGISTER came under still stands
abbrev pub cover_stands : Cover → Slots Set → Bool
cover_stands cover.Clear z = true
cover_stands cover.Old z = is_some z.old
cover_stands cover.Current z = is_some z.current

-- what a challenge makes of a procedure: a set for the offer, under the key that the challenge brought
abbrev pub parameters_of : List ℕ → Procedure → Parameters
parameters_of ik p =
    record {
      address = p.address;
      port = p.offer.port;
      spi = p.offer.spi;
      own_spi = p.own_spi;
      algorithm = p.algorithm;
      ik = ik;
    }

-- the response is waited for 240 seconds
abbrev pub challenged_by : ℕ → List ℕ → Procedure → Row → Row
challenged_by t ik p r =
    record {
      slots = put slot.Registration (Some (fresh (parameters_of ik p) (t + 240))) r.slots;
      mask = r.mask;
      stage = stage.Challenged p;
    }

abbrev pub challenged_on : Stage → Macs → Service → Bool → List ℕ → List ℕ → ℕ → Row → Reply
challenged_on stage.None m v taken ik segment room r = refusal r (WrongStage phase.None)
challenged_on (stage.Offered p d) m v taken ik segment room r =
    asked (cover_stands p.cover r.slots) (refusal (ended r) (CoverGone phase.Offered))
    (asked (not taken) (refusal (ended r) (PairInUse phase.Offered))
    (sending_then (emitted m v.port (cover_carrier p.cover) segment room r) (challenged_by v.clock ik p)))
challenged_on (stage.Challenged p) m v taken ik segment room r = refusal r (WrongStage phase.Challenged)
challenged_on (stage.Answered p) m v taken ik segment room r = refusal r (WrongStage phase.Answered)

-- The challenge, with its IK. `taken` says whether the pair of address and port of the opening REGISTER stands in the
-- table outside this row's slot 3. Is it the stage for it, does the cover stand, is the pair free? Where the cover
-- or the pair is gone the procedure ends, since it can never succeed.
unfoldable pub challenged : Macs → Service → Bool → List ℕ → List ℕ → ℕ → Row → Reply
challenged m v taken ik segment room r = challenged_on r.stage m v taken ik segment room r

-- a timer that may be, and at least one IMPU
abbrev pub terms_right : ℕ → ℕ → Bool
terms_right timer mask = timer_right timer && not (mask == 0)

-- the row after a success: the new expiry is no earlier than those in slots 1 and 2 before
abbrev pub settled : ℕ → ℕ → ℕ → Cover → Row → Row
settled t timer mask c r =
    record {
      slots = succeeded lasting c (latest expiry_of (expiry_after t timer) r.slots) r.slots;
      mask = mask;
      stage = stage.None;
    }

-- a user failure answers the response, which came on slot 3 where the opening REGISTER came in clear
abbrev pub user_failure_carrier : Cover → Carrier
user_failure_carrier cover.Clear = carrier.By slot.Registration
user_failure_carrier cover.Old = carrier.By slot.Old
user_failure_carrier cover.Current = carrier.By slot.Current

abbrev pub failed_by : Macs → Service → Carrier → List ℕ → ℕ → Row → Reply
failed_by m v c segment room r = sending_then (emitted m v.port c segment room r) ended

-- The stage together with the outcome. A success and a user failure need the response before them; another failure
-- may come at any stage of a procedure.
abbrev pub concluded_on : Stage → Outcome → Macs → Service → List ℕ → ℕ → Row → Reply
concluded_on stage.None (Success timer mask) m v segment room r = refusal r (WrongStage phase.None)
concluded_on stage.None UserFailure m v segment room r = refusal r (WrongStage phase.None)
concluded_on stage.None OtherFailure m v segment room r = refusal r (WrongStage phase.None)
concluded_on (stage.Offered p d) (Success timer mask) m v segment room r = refusal r (WrongStage phase.Offered)
concluded_on (stage.Offered p d) UserFailure m v segment room r = refusal r (WrongStage phase.Offered)
concluded_on (stage.Offered p d) OtherFailure m v segment room r = failed_by m v (cover_carrier p.cover) segment room r
concluded_on (stage.Challenged p) (Success timer mask) m v segment room r = refusal r (WrongStage phase.Challenged)
concluded_on (stage.Challenged p) UserFailure m v segment room r = refusal r (WrongStage phase.Challenged)
concluded_on (stage.Challenged p) OtherFailure m v segment room r = failed_by m v (cover_carrier p.cover) segment room r
concluded_on (stage.Answered p) (Success timer mask) m v segment room r =
    asked (terms_right timer mask) (refusal r (BadTerms phase.Answered))
    (sending_then (emitted_by m slot.Registration segment room r) (settled v.clock timer mask p.cover))
concluded_on (stage.Answered p) UserFailure m v segment room r = failed_by m v (user_failure_carrier p.cover) segment room r
concluded_on (stage.Answered p) OtherFailure m v segment room r = failed_by m v (cover_carrier p.cover) segment room r

unfoldable pub concluded : Macs → Service → Outcome → List ℕ → ℕ → Row → Reply
concluded m v outcome segment room r = concluded_on r.stage outcome m v segment room r

-- the slot that a message to the handset goes by: slot 1 as long as it is filled, since only traffic on slot 2 shows
-- that the handset has taken the new set into use
abbrev pub traffic_slot : Slots Set → Option Slot
traffic_slot z = cond (is_some z.old) (Some slot.Old) (cond (is_some z.current) (Some slot.Current) None)

abbrev pub sent_on : Option Slot → Macs → List ℕ → ℕ → Row → Reply
sent_on None m segment room r = refusal r (Association NoTraffic)
sent_on (Some k) m segment room r = emitted_by m k segment room r

unfoldable pub sent : Macs → List ℕ → ℕ → Row → Reply
sent m segment room r = sent_on (traffic_slot r.slots) m segment room r
