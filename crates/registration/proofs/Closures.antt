-- Each call keeps what holds throughout a row, if it holds of what an opening REGISTER leaves and of what a challenge
-- makes of it.
use Rattle.std.proofs.Common.{◌≡◌, ℕ, ◌+◌, Bool, eqb, ltb, leb, List, is_some, Some, None, Ok, Err, Option, Result, sym, refl, subst}
use Rattle.integrity.specs.Algorithms.{Macs}
use Rattle.association.specs.Asked.{Address, own_is}
use Rattle.association.specs.Expiry.{expiry_of, lasting}
use Rattle.association.specs.Opening.{opened_by}
use Rattle.association.specs.Sealing.{Sealed, sealed_by}
use Rattle.integrity.specs.declared.algorithm.Algorithm.{Algorithm}
use Rattle.association.specs.declared.faults.Fault as association
use Rattle.association.specs.declared.set.Parameters.{Parameters}
use Rattle.association.specs.declared.set.Set.{Set}
use Rattle.registration.specs.Emitting.{Reply, afterwards, emitted, emitted_by, emitted_on}
use Rattle.registration.specs.Entering.{entered, entered_by, proxy_spi}
use Rattle.registration.specs.Keeping.{aged, aged_on, deregistered, refreshed, refreshed_to, with_mask, without}
use Rattle.procedure.specs.Offers.{common}
use Rattle.registration.specs.Receiving.{admitted, admitted_as, admitted_by, answered_on, answered_with, heard, opened_on, opening_on, ordinary_on, received, received_as, received_on, response_on, settled_on}
use Rattle.slots.specs.Numbers.{slot_cover}
use Rattle.registration.specs.Rows.{blank, ended, slot_for, with_slots}
use Rattle.registration.specs.Sending.{challenged, challenged_by, challenged_on, concluded, concluded_on, parameters_of, sent, sent_on, settled, traffic_slot}
use Rattle.registration.specs.Throughout.{InSlot, InStage, Throughout}
use Rattle.procedure.specs.declared.carrier.Carrier.{Carrier}
use Rattle.procedure.specs.declared.carrier.Carrier.TheVariants as carrier
use Rattle.procedure.specs.declared.carrier.Sent.{Sent}
use Rattle.procedure.specs.declared.chosen.Chosen.{Chosen}
use Rattle.procedure.specs.declared.faults.Fault.{Fault}
use Rattle.procedure.specs.declared.message.Message.{Message}
use Rattle.procedure.specs.declared.message.Message.TheVariants as message
use Rattle.procedure.specs.declared.message.Outcome.{Outcome}
use Rattle.procedure.specs.declared.message.Outcome.TheVariants as outcome
use Rattle.procedure.specs.declared.offer.Offer.{Offer}
use Rattle.registration.specs.declared.row.Row.{Row}
use Rattle.procedure.specs.declared.service.Service.{Service}
use Rattle.procedure.specs.declared.stage.Procedure.{Procedure}
use Rattle.procedure.specs.declared.stage.Stage.{Stage}
use Rattle.procedure.specs.declared.stage.Stage.TheVariants as stage
use Rattle.slots.specs.Slots.{at, expired, kept, live, put, raised_on}
use Rattle.slots.specs.declared.cover.Cover.{Cover}
use Rattle.slots.specs.declared.cover.Cover.TheVariants as cover
use Rattle.slots.specs.declared.slot.Slot.{Slot}
use Rattle.slots.specs.declared.slot.Slot.TheVariants as slot
use Rattle.slots.specs.declared.three.Slots.{Slots}
use Rattle.esp.proofs.Asks.{ask_both}
use Rattle.std.proofs.lemmas.Bool.{cond_both}
use Rattle.std.specs.Option.{option_map}

-- the procedure that an opening REGISTER of subscriber s leaves in a row
abbrev pub begun : ℕ → Address → Offer → Cover → Algorithm → Row → Procedure
begun s a o c alg r = record { offer = o; address = a; algorithm = alg; own_spi = proxy_spi s o.spi r; cover = c }

-- sealing and opening leave a set's parameters
pub sealed_same : (m : Macs) (k : Slot) (segment : List ℕ) (room : ℕ) (x : Set)
    → (sealed_by m k segment room x).set.parameters ≡ x.parameters
unfolding sealed_by
sealed_same m k segment room x =
    let F : Sealed → Type 0 = λ s. s.set.parameters ≡ x.parameters in
    ask_both F _ _ _ refl (λ _. ask_both F _ _ _ refl (λ _. ask_both F _ _ _ refl (λ _. refl)))

pub opened_same : (m : Macs) (port : ℕ) (b : List ℕ) (x : Set) → (opened_by m port b x).0.parameters ≡ x.parameters
unfolding opened_by
opened_same m port b x = refl

module _ (P : Parameters → Type 0) (Q : Procedure → Type 0) where
  ended_keeps : (r : Row) → Throughout P Q r → Throughout P Q (ended r)
  ended_keeps r h = record { old = h.old; current = h.current; registration = tt; stage = tt }

  put_keeps : (k : Slot) (o : Option Set) (r : Row) → InSlot P o → Throughout P Q r → Throughout P Q (with_slots (put k o r.slots) r)
  put_keeps slot.Old o r p h = record { old = p; current = h.current; registration = h.registration; stage = h.stage }
  put_keeps slot.Current o r p h = record { old = h.old; current = p; registration = h.registration; stage = h.stage }
  put_keeps slot.Registration o r p h = record { old = h.old; current = h.current; registration = p; stage = h.stage }

  at_keeps : (k : Slot) (r : Row) → Throughout P Q r → InSlot P (at k r.slots)
  at_keeps slot.Old r h = h.old
  at_keeps slot.Current r h = h.current
  at_keeps slot.Registration r h = h.registration

  -- time
  live_keeps : (t : ℕ) (o : Option Set) → InSlot P o → InSlot P (live expiry_of t o)
  live_keeps t None p = tt
  live_keeps t (Some x) p = cond_both (ltb t x.expiry) (Some x) None (InSlot P) (λ _. p) (λ _. tt)

  aged_on_keeps : (g : Stage) (t : ℕ) (r : Row) → Throughout P Q r → Throughout P Q (aged_on g t r)
  aged_on_keeps stage.None t r h = h
  aged_on_keeps (stage.Offered p d) t r h = cond_both (leb d t) (ended r) r (Throughout P Q) (λ _. ended_keeps r h) (λ _. h)
  aged_on_keeps (stage.Challenged p) t r h = cond_both (is_some r.slots.registration) r (ended r) (Throughout P Q) (λ _. h) (λ _. ended_keeps r h)
  aged_on_keeps (stage.Answered p) t r h = cond_both (is_some r.slots.registration) r (ended r) (Throughout P Q) (λ _. h) (λ _. ended_keeps r h)

  pub aged_keeps : (t : ℕ) (r : Row) → Throughout P Q r → Throughout P Q (aged t r)
  unfolding aged
  aged_keeps t r h =
      aged_on_keeps r.stage t (with_slots (expired expiry_of t r.slots) r)
      (record {
        old = live_keeps t r.slots.old h.old;
        current = live_keeps t r.slots.current h.current;
        registration = live_keeps t r.slots.registration h.registration;
        stage = h.stage;
      })

  -- refreshing and deregistering
  refreshed_on : (e : ℕ) (o : Option Set) (r : Row) → InSlot P o → Throughout P Q r
      → Throughout P Q (refreshed_to r (raised_on expiry_of lasting e r.slots o)).0
  refreshed_on e None r p h = h
  refreshed_on e (Some x) r p h =
      cond_both (ltb x.expiry e) (put slot.Current (Some (lasting e x)) r.slots, Some e) (r.slots, Some x.expiry)
      (λ (w : Slots Set × Option ℕ). Throughout P Q (refreshed_to r w).0)
      (λ _. put_keeps slot.Current (Some (lasting e x)) r p h) (λ _. h)

  pub refreshed_keeps : (t timer : ℕ) (r : Row) → Throughout P Q r → Throughout P Q (refreshed t timer r).0
  unfolding refreshed
  refreshed_keeps t timer r h =
      ask_both (λ (w : Row × Result ℕ Fault). Throughout P Q w.0) _ _ _ h
      (λ _. refreshed_on (t + timer + 30) r.slots.current r h.current h)

  pub deregistered_keeps : (gone : ℕ) (r : Row) → Throughout P Q r → Throughout P Q (deregistered gone r).0
  unfolding deregistered
  deregistered_keeps gone r h =
      ask_both (λ (w : Row × Result ℕ Fault). Throughout P Q w.0) _ _ _ h
      (λ _. cond_both (eqb (without r.mask gone) 0) blank (with_mask (without r.mask gone) r) (Throughout P Q)
      (λ _. record { old = tt; current = tt; registration = tt; stage = tt })
      (λ _. record { old = h.old; current = h.current; registration = h.registration; stage = h.stage }))

  -- entering
  entered_by_keeps : (found : Option Algorithm) (v : Service) (s : ℕ) (taken : Bool) (a : Address) (o : Offer) (c : Cover) (r : Row)
      → ((alg : Algorithm) → Q (begun s a o c alg r)) → Throughout P Q r → Throughout P Q (entered_by found v s taken a o c r).0
  entered_by_keeps None v s taken a o c r q h = h
  entered_by_keeps (Some alg) v s taken a o c r q h =
      let F : Row × Result Chosen Fault → Type 0 = λ w. Throughout P Q w.0 in
      ask_both F _ _ _ h
      (λ _. ask_both F _ _ _ h
      (λ _. record { old = h.old; current = h.current; registration = h.registration; stage = q alg }))

  pub entered_keeps : (v : Service) (s : ℕ) (taken : Bool) (a : Address) (o : Offer) (c : Cover) (r : Row)
      → ((alg : Algorithm) → Q (begun s a o c alg r)) → Throughout P Q r → Throughout P Q (entered v s taken a o c r).0
  unfolding entered
  entered_keeps v s taken a o c r q h =
      ask_both (λ (w : Row × Result Chosen Fault). Throughout P Q w.0) _ _ _ h
      (λ _. entered_by_keeps (common v.algorithms o) v s taken a o c r q h)

  -- sending
  emitted_on_keeps : (m : Macs) (k : Slot) (segment : List ℕ) (room : ℕ) (r : Row) (o : Option Set) → InSlot P o → Throughout P Q r
      → Throughout P Q (emitted_on m k segment room r o).row
  emitted_on_keeps m k segment room r None p h = h
  emitted_on_keeps m k segment room r (Some x) p h =
      put_keeps k (Some (sealed_by m k segment room x).set) r (subst P (sym (sealed_same m k segment room x)) p) h

  pub emitted_by_keeps : (m : Macs) (k : Slot) (segment : List ℕ) (room : ℕ) (r : Row) → Throughout P Q r
      → Throughout P Q (emitted_by m k segment room r).row
  unfolding emitted_by
  emitted_by_keeps m k segment room r h = emitted_on_keeps m k segment room r (at k r.slots) (at_keeps k r h) h

  emitted_keeps : (m : Macs) (port : ℕ) (c : Carrier) (segment : List ℕ) (room : ℕ) (r : Row) → Throughout P Q r
      → Throughout P Q (emitted m port c segment room r).row
  unfolding emitted
  emitted_keeps m port carrier.Clear segment room r h = h
  emitted_keeps m port (carrier.By k) segment room r h = emitted_by_keeps m k segment room r h
  emitted_keeps m port carrier.Nothing segment room r h = h

  afterwards_keeps : (w : Result Sent Fault) (act : Row → Row) (r : Row) → (Throughout P Q r → Throughout P Q (act r)) → Throughout P Q r
      → Throughout P Q (afterwards w act r)
  afterwards_keeps (Ok s) act r f h = f h
  afterwards_keeps (Err e) act r f h = h

  challenged_on_keeps : (g : Stage) (m : Macs) (v : Service) (taken : Bool) (ik segment : List ℕ) (room : ℕ) (r : Row)
      → ((p : Procedure) → Q p → P (parameters_of ik p)) → InStage Q g → Throughout P Q r
      → Throughout P Q (challenged_on g m v taken ik segment room r).row
  challenged_on_keeps stage.None m v taken ik segment room r make q h = h
  challenged_on_keeps (stage.Offered p d) m v taken ik segment room r make q h =
      let F : Reply → Type 0 = λ w. Throughout P Q w.row in
      ask_both F _ _ _ (ended_keeps r h)
      (λ _. ask_both F _ _ _ (ended_keeps r h)
      (λ _. afterwards_keeps _ (challenged_by v.clock ik p) _
      (λ g. record { old = g.old; current = g.current; registration = make p q; stage = q }) (emitted_keeps m v.port _ segment room r h)))
  challenged_on_keeps (stage.Challenged p) m v taken ik segment room r make q h = h
  challenged_on_keeps (stage.Answered p) m v taken ik segment room r make q h = h

  pub challenged_keeps : (m : Macs) (v : Service) (taken : Bool) (ik segment : List ℕ) (room : ℕ) (r : Row)
      → ((p : Procedure) → Q p → P (parameters_of ik p)) → Throughout P Q r
      → Throughout P Q (challenged m v taken ik segment room r).row
  unfolding challenged
  challenged_keeps m v taken ik segment room r make h = challenged_on_keeps r.stage m v taken ik segment room r make h.stage h

  failed_keeps : (m : Macs) (v : Service) (c : Carrier) (segment : List ℕ) (room : ℕ) (r : Row) → Throughout P Q r
      → Throughout P Q (afterwards (emitted m v.port c segment room r).result ended (emitted m v.port c segment room r).row)
  failed_keeps m v c segment room r h = afterwards_keeps _ ended _ (ended_keeps _) (emitted_keeps m v.port c segment room r h)

  kept_keeps : (c : Cover) (r : Row) → Throughout P Q r → InSlot P (kept c r.slots)
  kept_keeps cover.Clear r h = tt
  kept_keeps cover.Old r h = h.old
  kept_keeps cover.Current r h = h.current

  moved_keeps : (e : ℕ) (o : Option Set) → InSlot P o → InSlot P (option_map (lasting e) o)
  moved_keeps e None p = tt
  moved_keeps e (Some x) p = p

  concluded_on_keeps : (g : Stage) (w : Outcome) (m : Macs) (v : Service) (segment : List ℕ) (room : ℕ) (r : Row) → Throughout P Q r
      → Throughout P Q (concluded_on g w m v segment room r).row
  concluded_on_keeps stage.None (outcome.Success timer mask) m v segment room r h = h
  concluded_on_keeps stage.None outcome.UserFailure m v segment room r h = h
  concluded_on_keeps stage.None outcome.OtherFailure m v segment room r h = h
  concluded_on_keeps (stage.Offered p d) (outcome.Success timer mask) m v segment room r h = h
  concluded_on_keeps (stage.Offered p d) outcome.UserFailure m v segment room r h = h
  concluded_on_keeps (stage.Offered p d) outcome.OtherFailure m v segment room r h = failed_keeps m v _ segment room r h
  concluded_on_keeps (stage.Challenged p) (outcome.Success timer mask) m v segment room r h = h
  concluded_on_keeps (stage.Challenged p) outcome.UserFailure m v segment room r h = h
  concluded_on_keeps (stage.Challenged p) outcome.OtherFailure m v segment room r h = failed_keeps m v _ segment room r h
  concluded_on_keeps (stage.Answered p) (outcome.Success timer mask) m v segment room r h =
      ask_both (λ (w : Reply). Throughout P Q w.row) _ _ _ h
      (λ _. afterwards_keeps _ (settled v.clock timer mask p.cover) _
      (λ g. record { old = kept_keeps p.cover _ g; current = moved_keeps _ _ g.registration; registration = tt; stage = tt })
      (emitted_by_keeps m slot.Registration segment room r h))
  concluded_on_keeps (stage.Answered p) outcome.UserFailure m v segment room r h = failed_keeps m v _ segment room r h
  concluded_on_keeps (stage.Answered p) outcome.OtherFailure m v segment room r h = failed_keeps m v _ segment room r h

  pub concluded_keeps : (m : Macs) (v : Service) (w : Outcome) (segment : List ℕ) (room : ℕ) (r : Row) → Throughout P Q r
      → Throughout P Q (concluded m v w segment room r).row
  unfolding concluded
  concluded_keeps m v w segment room r h = concluded_on_keeps r.stage w m v segment room r h

  sent_on_keeps : (k : Option Slot) (m : Macs) (segment : List ℕ) (room : ℕ) (r : Row) → Throughout P Q r
      → Throughout P Q (sent_on k m segment room r).row
  sent_on_keeps None m segment room r h = h
  sent_on_keeps (Some k) m segment room r h = emitted_by_keeps m k segment room r h

  pub sent_keeps : (m : Macs) (segment : List ℕ) (room : ℕ) (r : Row) → Throughout P Q r → Throughout P Q (sent m segment room r).row
  unfolding sent
  sent_keeps m segment room r h = sent_on_keeps (traffic_slot r.slots) m segment room r h

  -- receiving
  settled_keeps : (k : Slot) (r : Row) → Throughout P Q r → Throughout P Q (settled_on k r)
  settled_keeps slot.Old r h = h
  settled_keeps slot.Current r h = put_keeps slot.Old None r tt h
  settled_keeps slot.Registration r h = h

  opened_on_keeps : (k : Slot) (w : Row × Result Chosen Fault) → Throughout P Q w.0 → Throughout P Q (opened_on k w).0
  opened_on_keeps k (r, Ok c) h = settled_keeps k r h
  opened_on_keeps k (r, Err e) h = h

  opening_on_keeps : (found : Option Cover) (v : Service) (s : ℕ) (taken : Bool) (a : Address) (k : Slot) (named : ℕ) (o : Offer) (r : Row)
      → ((c : Cover) (alg : Algorithm) → Q (begun s a o c alg r)) → Throughout P Q r
      → Throughout P Q (opening_on found v s taken a k named o r).0
  opening_on_keeps None v s taken a k named o r q h = h
  opening_on_keeps (Some c) v s taken a k named o r q h =
      ask_both (λ (w : Row × Result (Option Chosen) Fault). Throughout P Q w.0) _ _ _ h
      (λ _. opened_on_keeps k (entered v s taken a o c r) (entered_keeps v s taken a o c r (q c) h))

  answered_on_keeps : (g : Stage) (o : Offer) (r : Row) → InStage Q g → Throughout P Q r → Throughout P Q (answered_on g o r).0
  answered_on_keeps stage.None o r q h = h
  answered_on_keeps (stage.Offered p d) o r q h = h
  answered_on_keeps (stage.Challenged p) o r q h =
      ask_both (λ (w : Row × Result (Option Chosen) Fault). Throughout P Q w.0) _ _ _ (ended_keeps r h)
      (λ _. record { old = h.old; current = h.current; registration = h.registration; stage = q })
  answered_on_keeps (stage.Answered p) o r q h = h

  response_on_keeps : (k : Slot) (o : Offer) (r : Row) → Throughout P Q r → Throughout P Q (response_on k o r).0
  response_on_keeps slot.Old o r h = h
  response_on_keeps slot.Current o r h = h
  response_on_keeps slot.Registration o r h = answered_on_keeps r.stage o r h.stage h

  ordinary_on_keeps : (found : Option Cover) (k : Slot) (i : ℕ) (r : Row) → Throughout P Q r → Throughout P Q (ordinary_on found k i r).0
  ordinary_on_keeps None k i r h = h
  ordinary_on_keeps (Some c) k i r h =
      ask_both (λ (w : Row × Result (Option Chosen) Fault). Throughout P Q w.0) _ _ _ h (λ _. settled_keeps k r h)

  heard_keeps : (v : Service) (s : ℕ) (taken : Bool) (a : Address) (k : Slot) (w : Message) (r : Row)
      → ((o : Offer) (c : Cover) (alg : Algorithm) → Q (begun s a o c alg r)) → Throughout P Q r
      → Throughout P Q (heard v s taken a k w r).0
  unfolding heard
  heard_keeps v s taken a k (message.Opening named o) r q h = opening_on_keeps (slot_cover k) v s taken a k named o r (q o) h
  heard_keeps v s taken a k (message.Response o) r q h = response_on_keeps k o r h
  heard_keeps v s taken a k (message.Ordinary i) r q h = ordinary_on_keeps (slot_cover k) k i r h

  admitted_as_keeps : (k : Slot) (r : Row) (w : Set × Result (List ℕ × ℕ) association.Fault) → P w.0.parameters → Throughout P Q r
      → Throughout P Q (admitted_as k r w).0
  admitted_as_keeps k r (x, Ok g) p h = put_keeps k (Some x) r p h
  admitted_as_keeps k r (x, Err e) p h = put_keeps k (Some x) r p h

  admitted_by_keeps : (m : Macs) (port : ℕ) (b : List ℕ) (k : Slot) (o : Option Set) (r : Row) → InSlot P o → Throughout P Q r
      → Throughout P Q (admitted_by m port b k o r).0
  admitted_by_keeps m port b k None r p h = h
  admitted_by_keeps m port b k (Some x) r p h = admitted_as_keeps k r (opened_by m port b x) (subst P (sym (opened_same m port b x)) p) h

  admitted_keeps : (m : Macs) (port : ℕ) (b : List ℕ) (k : Slot) (r : Row) → Throughout P Q r → Throughout P Q (admitted m port b k r).0
  unfolding admitted
  admitted_keeps m port b k r h = admitted_by_keeps m port b k (at k r.slots) r (at_keeps k r h) h

  answered_with_keeps : (s : ℕ) (k : Slot) (g : List ℕ × ℕ) (w : Row × Result (Option Chosen) Fault) → Throughout P Q w.0
      → Throughout P Q (answered_with s k g w).0
  answered_with_keeps s k g (r, Ok c) h = h
  answered_with_keeps s k g (r, Err e) h = h

  received_as_keeps : (v : Service) (s : ℕ) (taken : Bool) (a : Address) (k : Slot) (w : Message) (z : Row × Result (List ℕ × ℕ) Fault)
      → ((o : Offer) (c : Cover) (alg : Algorithm) (r : Row) → Q (begun s a o c alg r)) → Throughout P Q z.0
      → Throughout P Q (received_as v s taken a k w z).0
  received_as_keeps v s taken a k w (r, Ok g) q h =
      answered_with_keeps s k g (heard v s taken a k w r) (heard_keeps v s taken a k w r (λ o c alg. q o c alg r) h)
  received_as_keeps v s taken a k w (r, Err e) q h = h

  received_on_keeps : (k : Option Slot) (m : Macs) (v : Service) (s : ℕ) (taken : Bool) (a : Address) (b : List ℕ) (w : Message) (r : Row)
      → ((o : Offer) (c : Cover) (alg : Algorithm) (r : Row) → Q (begun s a o c alg r)) → Throughout P Q r
      → Throughout P Q (received_on k m v s taken a b w r).0
  received_on_keeps None m v s taken a b w r q h = h
  received_on_keeps (Some k) m v s taken a b w r q h =
      received_as_keeps v s taken a k w (admitted m v.port b k r) q (admitted_keeps m v.port b k r h)

  pub received_keeps : (m : Macs) (v : Service) (s : ℕ) (taken : Bool) (a : Address) (spi : ℕ) (b : List ℕ) (w : Message) (r : Row)
      → ((o : Offer) (c : Cover) (alg : Algorithm) (r : Row) → Q (begun s a o c alg r)) → Throughout P Q r
      → Throughout P Q (received m v s taken a spi b w r).0
  unfolding received
  received_keeps m v s taken a spi b w r q h = received_on_keeps (slot_for (own_is a spi) r) m v s taken a b w r q h
