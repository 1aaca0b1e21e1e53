-- The number and the place of each refusal that a set, or the lack of one, is the reason of.
use Rattle.std.specs.Prelude.{ℕ}
use Rattle.association.specs.declared.faults.Fault.{Fault}
use Rattle.association.specs.declared.faults.Fault.TheVariants.{Packet, ArrivingPorts, SendingPort, NoSet, WrongSlot, NotHis, OtherOffer, NoTraffic, CounterSpent, NoImpu}
use Rattle.esp.specs.Faults as esp
use Rattle.slots.specs.Numbers.{slot_number}

abbrev pub number_of : Fault → ℕ
number_of (Packet e) = esp.number_of e
number_of ArrivingPorts = 15
number_of SendingPort = 15
number_of NoSet = 21
number_of (WrongSlot k) = 22
number_of (NotHis k) = 23
number_of OtherOffer = 24
number_of NoTraffic = 25
number_of (CounterSpent k) = 26
number_of NoImpu = 27

-- 15 arriving: where the segment stands in the packet; 22, 23 and 26: the slot; 24: slot 3, on which every
-- response arrives; else 0
abbrev pub place_of : Fault → ℕ
place_of (Packet e) = esp.place_of e
place_of ArrivingPorts = 8
place_of SendingPort = 0
place_of NoSet = 0
place_of (WrongSlot k) = slot_number k
place_of (NotHis k) = slot_number k
place_of OtherOffer = 3
place_of NoTraffic = 0
place_of (CounterSpent k) = slot_number k
place_of NoImpu = 0
