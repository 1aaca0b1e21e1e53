-- A packet from the handset, on the row that has its set.
use Rattle.std.specs.Prelude.{ℕ, Bool, ◌&&◌, List, Some, None, Ok, Err, Option, Result, ◌==◌, nat_lt}
use Rattle.integrity.specs.Algorithms.{Macs}
use Rattle.association.specs.Asked.{Address, own_is}
use Rattle.association.specs.Opening.{opened_by}
use Rattle.association.specs.declared.faults.Fault as association
use Rattle.association.specs.declared.faults.Fault.TheVariants.{NoSet, NotHis, OtherOffer, WrongSlot}
use Rattle.association.specs.declared.set.Set.{Set}
use Rattle.esp.specs.Asking.{asked}
use Rattle.esp.specs.Window.{bit_at}
use Rattle.esp.specs.declared.segment.Segment.{Segment}
use Rattle.registration.specs.Entering.{entered}
use Rattle.procedure.specs.Offers.{same_offer}
use Rattle.registration.specs.Rows.{ended, slot_for, with_slots}
use Rattle.procedure.specs.declared.chosen.Chosen.{Chosen}
use Rattle.procedure.specs.declared.faults.Fault.{Fault}
use Rattle.procedure.specs.declared.faults.Fault.TheVariants.{Association, WrongStage}
use Rattle.procedure.specs.declared.message.Arrived.{Arrived}
use Rattle.procedure.specs.declared.message.Message.{Message}
use Rattle.procedure.specs.declared.message.Message.TheVariants.{Opening, Ordinary, Response}
use Rattle.procedure.specs.declared.offer.Offer.{Offer}
use Rattle.registration.specs.declared.row.Row.{Row}
use Rattle.procedure.specs.declared.service.Service.{Service}
use Rattle.procedure.specs.declared.stage.Phase.TheVariants as phase
use Rattle.procedure.specs.declared.stage.Stage.{Stage}
use Rattle.procedure.specs.declared.stage.Stage.TheVariants as stage
use Rattle.slots.specs.Numbers.{slot_cover}
use Rattle.slots.specs.Slots.{at, put}
use Rattle.slots.specs.declared.cover.Cover.{Cover}
use Rattle.slots.specs.declared.slot.Slot.{Slot}
use Rattle.slots.specs.declared.slot.Slot.TheVariants as slot

-- an answer by what it says, the segment by its bytes and their place in the packet
pub record Heard : Type 0 where
  pub subscriber : ℕ
  pub slot : Slot
  pub segment : List ℕ
  pub place : ℕ
  -- what an opening REGISTER is answered
  pub chosen : Option Chosen

abbrev pub heard_of : Result Arrived Fault → Result Heard Fault
heard_of (Ok a) =
    Ok (record {
      subscriber = a.subscriber;
      slot = a.slot;
      segment = a.segment.bytes.now;
      place = a.segment.place;
      chosen = a.chosen;
    })
heard_of (Err e) = Err e

abbrev pub shown_segment : Result Segment Fault → Result (List ℕ × ℕ) Fault
shown_segment (Ok s) = Ok (s.bytes.now, s.place)
shown_segment (Err e) = Err e

-- Traffic on slot 2 shows that the handset has taken the new set into use: the old one goes.
abbrev pub settled_on : Slot → Row → Row
settled_on slot.Old r = r
settled_on slot.Current r = with_slots (put slot.Old None r.slots) r
settled_on slot.Registration r = r

-- an opening REGISTER that was accepted on slot k
abbrev pub opened_on : Slot → Row × Result Chosen Fault → Row × Result (Option Chosen) Fault
opened_on k (r, Ok c) = (settled_on k r, Ok (Some c))
opened_on k (r, Err e) = (r, Err e)

-- whether IMPU i is in a mask
abbrev pub in_mask : ℕ → ℕ → Bool
in_mask mask i = nat_lt i 16 && bit_at mask i == 1

abbrev pub opening_on : Option Cover → Service → ℕ → Bool → Address → Slot → ℕ → Offer → Row → Row × Result (Option Chosen) Fault
opening_on None v s taken a k named o r = (r, Err (Association (WrongSlot k)))
opening_on (Some c) v s taken a k named o r =
    asked (named == s) (r, Err (Association (NotHis k))) (opened_on k (entered v s taken a o c r))

-- a response is answered at stage 2, and its offer is the opening REGISTER's: else the procedure ends, since somebody
-- may have changed the offer on its way
abbrev pub answered_on : Stage → Offer → Row → Row × Result (Option Chosen) Fault
answered_on stage.None o r = (r, Err (WrongStage phase.None))
answered_on (stage.Offered p d) o r = (r, Err (WrongStage phase.Offered))
answered_on (stage.Challenged p) o r =
    asked (same_offer o p.offer) (ended r, Err (Association OtherOffer))
    (record { slots = r.slots; mask = r.mask; stage = stage.Answered p }, Ok None)
answered_on (stage.Answered p) o r = (r, Err (WrongStage phase.Answered))

abbrev pub response_on : Slot → Offer → Row → Row × Result (Option Chosen) Fault
response_on slot.Old o r = (r, Err (Association (WrongSlot slot.Old)))
response_on slot.Current o r = (r, Err (Association (WrongSlot slot.Current)))
response_on slot.Registration o r = answered_on r.stage o r

abbrev pub ordinary_on : Option Cover → Slot → ℕ → Row → Row × Result (Option Chosen) Fault
ordinary_on None k i r = (r, Err (Association (WrongSlot k)))
ordinary_on (Some c) k i r =
    asked (in_mask r.mask i) (r, Err (Association (NotHis k))) (settled_on k r, Ok None)

-- What a message does on the row of subscriber s, once its packet is opened on slot k. `taken` says whether the pair
-- of the address and an opening's offered port stands in the table.
unfoldable pub heard : Service → ℕ → Bool → Address → Slot → Message → Row → Row × Result (Option Chosen) Fault
heard v s taken a k (Opening named o) r = opening_on (slot_cover k) v s taken a k named o r
heard v s taken a k (Response o) r = response_on k o r
heard v s taken a k (Ordinary i) r = ordinary_on (slot_cover k) k i r

-- the packet opened by the set x in slot k; the set keeps what the window recorded
abbrev pub admitted_as : Slot → Row → Set × Result (List ℕ × ℕ) association.Fault → Row × Result (List ℕ × ℕ) Fault
admitted_as k r (x, Ok s) = (with_slots (put k (Some x) r.slots) r, Ok s)
admitted_as k r (x, Err e) = (with_slots (put k (Some x) r.slots) r, Err (Association e))

abbrev pub admitted_by : Macs → ℕ → List ℕ → Slot → Option Set → Row → Row × Result (List ℕ × ℕ) Fault
admitted_by m port b k None r = (r, Err (Association NoSet))
admitted_by m port b k (Some x) r = admitted_as k r (opened_by m port b x)

unfoldable pub admitted : Macs → ℕ → List ℕ → Slot → Row → Row × Result (List ℕ × ℕ) Fault
admitted m port b k r = admitted_by m port b k (at k r.slots) r

-- the answer to a message whose segment is known
abbrev pub answered_with : ℕ → Slot → List ℕ × ℕ → Row × Result (Option Chosen) Fault → Row × Result Heard Fault
answered_with s k g (r, Ok c) =
    (r, Ok (record { subscriber = s; slot = k; segment = g.0; place = g.1; chosen = c }))
answered_with s k g (r, Err e) = (r, Err e)

abbrev pub received_as : Service → ℕ → Bool → Address → Slot → Message → Row × Result (List ℕ × ℕ) Fault → Row × Result Heard Fault
received_as v s taken a k message (r, Ok g) = answered_with s k g (heard v s taken a k message r)
received_as v s taken a k message (r, Err e) = (r, Err e)

abbrev pub received_on : Option Slot → Macs → Service → ℕ → Bool → Address → List ℕ → Message → Row → Row × Result Heard Fault
received_on None m v s taken a b message r = (r, Err (Association NoSet))
received_on (Some k) m v s taken a b message r =
    received_as v s taken a k message (admitted m v.port b k r)

-- A packet b from an address to an SPI, on the row of subscriber s: which of his sets is it for, does it open there,
-- what does its message do?
unfoldable pub received : Macs → Service → ℕ → Bool → Address → ℕ → List ℕ → Message → Row → Row × Result Heard Fault
received m v s taken a spi b message r = received_on (slot_for (own_is a spi) r) m v s taken a b message r
