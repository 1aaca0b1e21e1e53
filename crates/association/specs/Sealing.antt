-- The sending questions where a segment goes by a set.
use Rattle.std.specs.Prelude.{ℕ, List, [], length, Ok, Err, Result, ◌==◌, nat_lt}
use Rattle.integrity.specs.Algorithms.{Macs, mac_by}
use Rattle.association.specs.Ports.{destination_of}
use Rattle.association.specs.declared.faults.Fault.{Fault}
use Rattle.association.specs.declared.faults.Fault.TheVariants.{CounterSpent, Packet, SendingPort}
use Rattle.association.specs.declared.set.Set.{Set}
use Rattle.esp.specs.Asking.{asked}
use Rattle.esp.specs.Packet.{segment_right}
use Rattle.esp.specs.Sealing.{Sealing, laid, sealing}
use Rattle.esp.specs.declared.faults.Fault as esp
use Rattle.esp.specs.declared.faults.Fault.TheVariants.{SegmentLength}
use Rattle.slots.specs.declared.slot.Slot.{Slot}

pub record Sealed : Type 0 where
  -- the set after the call
  pub set : Set
  -- how many bytes were written, or why not
  pub result : Result ℕ Fault
  -- what was written, from the front of the output area on
  pub written : List ℕ

-- a refusal changes nothing and writes nothing
abbrev pub refused : Set → Fault → Sealed
refused x fault = record { set = x; result = Err fault; written = [] }

-- a fault of the packet layer, as this layer names it
abbrev pub lifted : {X : Type 0} → Result X esp.Fault → Result X Fault
lifted (Ok n) = Ok n
lifted (Err e) = Err (Packet e)

-- the set with another send counter
abbrev pub counted : Set → ℕ → Set
counted x n = record { parameters = x.parameters; expiry = x.expiry; sent = n; window = x.window }

abbrev pub carried : Set → Sealing → Sealed
carried x s = record { set = counted x s.counter; result = lifted s.result; written = s.written }

-- Sealing by the set in slot k, into an output area of `room` bytes: is the segment's length right, is its
-- destination the handset's port, is there a sequence number left, is there room?
unfoldable pub sealed_by : Macs → Slot → List ℕ → ℕ → Set → Sealed
sealed_by m k segment room x =
    asked (segment_right (length segment)) (refused x (Packet (SegmentLength (length segment))))
    (asked (destination_of segment == x.parameters.port) (refused x SendingPort)
    (asked (nat_lt x.sent 4294967295) (refused x (CounterSpent k))
    (carried x (sealing (mac_by m x.parameters.algorithm) x.parameters.ik x.parameters.spi x.sent segment room))))

-- what the call leaves: the set, its answer and the area
abbrev pub leaves : Sealed → List ℕ → Set × Result ℕ Fault × List ℕ
leaves s area = (s.set, s.result, laid s.written area)
