-- What is printed for each call, and the proxy after it.
use Rattle.std.specs.Prelude.{ℕ, min, List, [], ◌∷◌, replicate, Some, None, Ok, Err, Option, Result}
use Rattle.association.specs.Asked.{Address}
use Rattle.texts.specs.Calls.{arrive_text, deregister_text, fault_text, open_text, refresh_text, register_text, sent_text, tick_text}
use Rattle.calls.specs.declared.line.CallLine.{CallLine}
use Rattle.calls.specs.declared.line.CallLine.TheVariants.{Arrive, Challenge, Conclude, Deregister, Open, Refresh, Register, Send, Tick}
use Rattle.calls.specs.declared.opening.Opening.{Opening}
use Rattle.texts.specs.declared.name.CallName.{CallName}
use Rattle.texts.specs.declared.name.CallName.TheVariants as call
use Rattle.product.specs.Product.{macs}
use Rattle.proxy.specs.Machine.{Sending, arriving, challenging, concluding, deregistering, opened, refreshing, registered, sending, ticked}
use Rattle.proxy.specs.State.{State, count_of}
use Rattle.registration.specs.Receiving.{Heard}
use Rattle.registration.specs.Rows.{blank}
use Rattle.procedure.specs.declared.carrier.Sent.{Sent}
use Rattle.procedure.specs.declared.faults.Fault.{Fault}
use Rattle.procedure.specs.declared.message.Message.{Message}
use Rattle.replies.specs.Packets.{packet_bytes}

-- the answer or the refusal of a call
abbrev pub said : {X : Type 0} → CallName → (X → List ℕ) → Result X Fault → List ℕ
said call text (Ok x) = text x
said call text (Err fault) = fault_text call fault

abbrev pub sent_said : CallName → Result Sent Fault → List ℕ → List ℕ
sent_said call (Ok s) written = sent_text call s.carrier written
sent_said call (Err fault) written = fault_text call fault

abbrev pub sending_said : CallName → Sending → List ℕ
sending_said call p = sent_said call p.result p.written

abbrev pub heard_text : Heard → List ℕ
heard_text h = arrive_text h.subscriber h.slot h.segment h.chosen

-- a packet's bytes, with what its message is
abbrev pub arrive_said : Address → List ℕ → Message → State → List ℕ
arrive_said a b message σ = said call.Arrive heard_text (arriving macs a b message σ).1

abbrev pub arrive_state : Address → List ℕ → Message → State → State
arrive_state a b message σ = (arriving macs a b message σ).0

-- the algorithms that an `open` line names
abbrev pub list_of : ℕ → Option ℕ → List ℕ
list_of a None = a ∷ []
list_of a (Some b) = a ∷ (b ∷ [])

-- No more than 4096 rows are ever used, so that no more are made.
abbrev pub opened_by : Opening → State
opened_by o = opened (replicate (min o.rows 4096) blank) o.port (list_of o.first o.second)

-- the text that is printed for a call
abbrev pub text_for : CallLine (List ℕ) → State → List ℕ
text_for (Open opening) σ = open_text (count_of (opened_by opening))
text_for (Tick t) σ = said call.Tick tick_text (ticked t σ).1
text_for (Register a s o) σ = said call.Register register_text (registered a s o σ).1
text_for (Challenge s ik segment area) σ = sending_said call.Challenge (challenging macs s ik segment area σ)
text_for (Arrive a packet message) σ = arrive_said a (packet_bytes packet) message σ
text_for (Conclude s outcome segment area) σ = sending_said call.Conclude (concluding macs s outcome segment area σ)
text_for (Send s segment area) σ = sending_said call.Send (sending macs s segment area σ)
text_for (Refresh s timer) σ = said call.Refresh refresh_text (refreshing s timer σ).1
text_for (Deregister s mask) σ = said call.Deregister deregister_text (deregistering s mask σ).1

-- the proxy after a call. An `open` line changes nothing of the proxy that stands: another is opened in its place.
abbrev pub state_after : CallLine (List ℕ) → State → State
state_after (Open opening) σ = σ
state_after (Tick t) σ = (ticked t σ).0
state_after (Register a s o) σ = (registered a s o σ).0
state_after (Challenge s ik segment area) σ = (challenging macs s ik segment area σ).state
state_after (Arrive a packet message) σ = arrive_state a (packet_bytes packet) message σ
state_after (Conclude s outcome segment area) σ = (concluding macs s outcome segment area σ).state
state_after (Send s segment area) σ = (sending macs s segment area σ).state
state_after (Refresh s timer) σ = (refreshing s timer σ).0
state_after (Deregister s mask) σ = (deregistering s mask σ).0

-- how many bytes a call wrote
abbrev pub bytes_of : Result Sent Fault → ℕ
bytes_of (Ok s) = s.bytes
bytes_of (Err fault) = 0
