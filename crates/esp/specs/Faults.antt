-- The number and the place of each refusal of the packet layer. The tens digit is the layer that asks:
-- 1 the packet, 2 the association. The place says what was found, or where in the packet.
use Rattle.std.specs.Prelude.{ℕ}
use Rattle.esp.specs.declared.faults.Fault.{Fault}
use Rattle.esp.specs.declared.faults.Fault.TheVariants.{PacketLength, Replayed, WrongTag, WrongTrailer, SegmentLength, AreaLength, OtherSpi, CounterSpent}

abbrev pub number_of : Fault → ℕ
number_of (PacketLength n) = 11
number_of Replayed = 12
number_of (WrongTag n) = 13
number_of (WrongTrailer n) = 14
number_of (SegmentLength n) = 16
number_of (AreaLength n) = 17
number_of OtherSpi = 21
number_of CounterSpent = 26

-- the length found for 11, 16 and 17; the sequence number's place for 12; the place that 13 and 14 carry;
-- 0 for 21 and 26
abbrev pub place_of : Fault → ℕ
place_of (PacketLength n) = n
place_of Replayed = 4
place_of (WrongTag n) = n
place_of (WrongTrailer n) = n
place_of (SegmentLength n) = n
place_of (AreaLength n) = n
place_of OtherSpi = 0
place_of CounterSpent = 0
