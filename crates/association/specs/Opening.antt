-- Opening a packet by a set.
use Rattle.std.specs.Prelude.{ℕ, ◌&&◌, List, Ok, Err, Result, ◌==◌}
use Rattle.integrity.specs.Algorithms.{Macs, mac_by}
use Rattle.association.specs.Ports.{destination_of, source_of}
use Rattle.association.specs.declared.faults.Fault.{Fault}
use Rattle.association.specs.declared.faults.Fault.TheVariants.{ArrivingPorts, Packet}
use Rattle.association.specs.declared.set.Set.{Set}
use Rattle.esp.specs.Asking.{asked}
use Rattle.esp.specs.Opening as packet
use Rattle.esp.specs.declared.faults.Fault as esp
use Rattle.esp.specs.declared.segment.Segment.{Segment}
use Rattle.esp.specs.declared.window.ReplayWindow.{ReplayWindow}

-- an answer by what it says: the segment's bytes and their place in the packet, or the fault
abbrev pub seen : Result Segment Fault → Result (List ℕ × ℕ) Fault
seen (Ok s) = Ok (s.bytes.now, s.place)
seen (Err e) = Err e

-- the set with another window
abbrev pub recorded : Set → ReplayWindow → Set
recorded x w = record { parameters = x.parameters; expiry = x.expiry; sent = x.sent; window = w }

-- the handset's port sends to the protected one
abbrev pub ports_asked : Set → ℕ → Result (List ℕ × ℕ) esp.Fault → Result (List ℕ × ℕ) Fault
ports_asked x port (Ok s) =
    asked (source_of s.0 == x.parameters.port && destination_of s.0 == port) (Err ArrivingPorts) (Ok s)
ports_asked x port (Err e) = Err (Packet e)

-- Opening a packet b by a set, and then the question about its ports. Once the tag is right its number is
-- recorded, whatever follows.
abbrev pub opened_as : ℕ → packet.Opening → Set → Set × Result (List ℕ × ℕ) Fault
opened_as port o x = (recorded x o.window, ports_asked x port o.result)

unfoldable pub opened_by : Macs → ℕ → List ℕ → Set → Set × Result (List ℕ × ℕ) Fault
opened_by m port b x =
    opened_as port
    (packet.opening (mac_by m x.parameters.algorithm) x.parameters.ik x.parameters.own_spi x.window b) x
