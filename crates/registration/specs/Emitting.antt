-- The sending questions: a segment to the handset, in clear, by a set, or not at all.
use Rattle.std.specs.Prelude.{ℕ, not, List, [], length, Some, None, Ok, Err, Option, Result, ◌==◌, nat_le}
use Rattle.integrity.specs.Algorithms.{Macs}
use Rattle.association.specs.Ports.{source_of}
use Rattle.association.specs.Sealing.{Sealed, sealed_by}
use Rattle.association.specs.declared.faults.Fault as association
use Rattle.association.specs.declared.faults.Fault.TheVariants.{Packet, SendingPort}
use Rattle.association.specs.declared.set.Set.{Set}
use Rattle.esp.specs.Asking.{asked}
use Rattle.esp.specs.Packet.{segment_right}
use Rattle.esp.specs.Sealing.{laid}
use Rattle.esp.specs.declared.faults.Fault.TheVariants.{AreaLength, SegmentLength}
use Rattle.registration.specs.Rows.{with_slots}
use Rattle.procedure.specs.declared.carrier.Carrier.{Carrier}
use Rattle.procedure.specs.declared.carrier.Carrier.TheVariants.{By, Clear, Nothing}
use Rattle.procedure.specs.declared.carrier.Sent.{Sent}
use Rattle.procedure.specs.declared.faults.Fault.{Fault}
use Rattle.procedure.specs.declared.faults.Fault.TheVariants.{Association}
use Rattle.registration.specs.declared.row.Row.{Row}
use Rattle.slots.specs.Slots.{at, put}
use Rattle.slots.specs.declared.slot.Slot.{Slot}

-- a row after a call that may send, its answer, and what was written from the front of the output area on
pub record Reply : Type 0 where
  pub row : Row
  pub result : Result Sent Fault
  pub written : List ℕ

-- a refusal writes nothing
abbrev pub refusal : Row → Fault → Reply
refusal r fault = record { row = r; result = Err fault; written = [] }

-- what the call leaves: the row, its answer and the area
abbrev pub leaves : Reply → List ℕ → Row × Result Sent Fault × List ℕ
leaves p area = (p.row, p.result, laid p.written area)

abbrev pub wrong_length : List ℕ → Fault
wrong_length segment = Association (Packet (SegmentLength (length segment)))

-- In clear the segment is copied. Is its length right, is its source not the protected port, is there room?
unfoldable pub copied : ℕ → List ℕ → ℕ → Result Sent Fault × List ℕ
copied port segment room =
    asked (segment_right (length segment)) (Err (wrong_length segment), [])
    (asked (not (source_of segment == port)) (Err (Association SendingPort), [])
    (asked (nat_le (length segment) room) (Err (Association (Packet (AreaLength room))), [])
    (Ok (record { bytes = length segment; carrier = Clear }), segment)))

-- what copying leaves: its answer and the area
abbrev pub copy_leaves : Result Sent Fault × List ℕ → List ℕ → Result Sent Fault × List ℕ
copy_leaves e area = (e.0, laid e.1 area)

-- nothing is sent, and only the length is asked
unfoldable pub unsent : List ℕ → Result Sent Fault
unsent segment =
    asked (segment_right (length segment)) (Err (wrong_length segment)) (Ok (record { bytes = 0; carrier = Nothing }))

abbrev pub replied : Row → Result Sent Fault × List ℕ → Reply
replied r e = record { row = r; result = e.0; written = e.1 }

abbrev pub sent_by : Slot → Result ℕ association.Fault → Result Sent Fault
sent_by k (Ok n) = Ok (record { bytes = n; carrier = By k })
sent_by k (Err e) = Err (Association e)

-- by the set in slot k
abbrev pub sealed_in : Slot → Row → Sealed → Reply
sealed_in k r s =
    record { row = with_slots (put k (Some s.set) r.slots) r; result = sent_by k s.result; written = s.written }

-- an empty slot sends nothing
abbrev pub emitted_on : Macs → Slot → List ℕ → ℕ → Row → Option Set → Reply
emitted_on m k segment room r None = replied r (unsent segment, [])
emitted_on m k segment room r (Some x) = sealed_in k r (sealed_by m k segment room x)

unfoldable pub emitted_by : Macs → Slot → List ℕ → ℕ → Row → Reply
emitted_by m k segment room r = emitted_on m k segment room r (at k r.slots)

unfoldable pub emitted : Macs → ℕ → Carrier → List ℕ → ℕ → Row → Reply
emitted m port Clear segment room r = replied r (copied port segment room)
emitted m port (By k) segment room r = emitted_by m k segment room r
emitted m port Nothing segment room r = replied r (unsent segment, [])

-- what a call does to the row once the segment is sent
abbrev pub afterwards : Result Sent Fault → (Row → Row) → Row → Row
afterwards (Ok s) act r = act r
afterwards (Err e) act r = r

abbrev pub sending_then : Reply → (Row → Row) → Reply
sending_then p act = record { row = afterwards p.result act p.row; result = p.result; written = p.written }
