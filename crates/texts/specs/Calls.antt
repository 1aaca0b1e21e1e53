-- What is printed of each answer.
use Rattle.std.specs.Prelude.{ℕ, List, [], ◌++◌, length, Some, None, vec_items, codes, decimal, Option}
use Rattle.integrity.specs.Algorithms.{algorithm_number}
use Rattle.texts.specs.Names.{name_of}
use Rattle.texts.specs.declared.call.CallAnswer.{CallAnswer}
use Rattle.texts.specs.declared.call.CallAnswer.TheVariants.{Arrived, Deregistered, Opened, Refreshed, Refused, Registered, Sent, Ticked}
use Rattle.texts.specs.declared.name.CallName.{CallName}
use Rattle.procedure.specs.Carriers.{carrier_number}
use Rattle.procedure.specs.Faults.{number_of, place_of}
use Rattle.procedure.specs.declared.carrier.Carrier.{Carrier}
use Rattle.procedure.specs.declared.chosen.Chosen.{Chosen}
use Rattle.procedure.specs.declared.faults.Fault.{Fault}
use Rattle.script.specs.Hex.{hex_of}
use Rattle.slots.specs.Numbers.{slot_number}
use Rattle.slots.specs.declared.slot.Slot.{Slot}

--   open n=N
abbrev pub open_text : ℕ → List ℕ
open_text n = codes "open n=" ++ decimal n

--   tick clock=T
abbrev pub tick_text : ℕ → List ℕ
tick_text t = codes "tick clock=" ++ decimal t

-- what the proxy chose:  A spi=S
abbrev pub chosen_text : Chosen → List ℕ
chosen_text c = decimal (algorithm_number c.algorithm) ++ (codes " spi=" ++ decimal c.spi)

--   register algorithm=A spi=S
abbrev pub register_text : Chosen → List ℕ
register_text c = codes "register algorithm=" ++ chosen_text c

--   CALL bytes=N carrier=C out=HEX
abbrev pub sent_text : CallName → Carrier → List ℕ → List ℕ
sent_text call carrier out =
    name_of call
    ++ (codes " bytes=" ++ (decimal (length out)
    ++ (codes " carrier=" ++ (decimal (carrier_number carrier) ++ (codes " out=" ++ hex_of out)))))

-- only an opening REGISTER has something chosen for it
abbrev pub maybe_chosen : Option Chosen → List ℕ
maybe_chosen None = []
maybe_chosen (Some c) = codes " algorithm=" ++ chosen_text c

--   arrive subscriber=S slot=K segment=HEX [algorithm=A spi=S]
abbrev pub arrive_text : ℕ → Slot → List ℕ → Option Chosen → List ℕ
arrive_text s k segment chosen =
    codes "arrive subscriber="
    ++ (decimal s ++ (codes " slot=" ++ (decimal (slot_number k) ++ (codes " segment=" ++ (hex_of segment ++ maybe_chosen chosen)))))

--   refresh expiry=E
abbrev pub refresh_text : ℕ → List ℕ
refresh_text e = codes "refresh expiry=" ++ decimal e

--   deregister remaining=N
abbrev pub deregister_text : ℕ → List ℕ
deregister_text n = codes "deregister remaining=" ++ decimal n

--   CALL fault=NUMBER place=P
abbrev pub fault_text : CallName → Fault → List ℕ
fault_text call fault =
    name_of call ++ (codes " fault=" ++ (decimal (number_of fault) ++ (codes " place=" ++ decimal (place_of fault))))

-- the line that an answer makes, without its end
abbrev pub text_of : CallAnswer → List ℕ
text_of (Opened n) = open_text n
text_of (Ticked t) = tick_text t
text_of (Registered c) = register_text c
text_of (Sent call carrier out) = sent_text call carrier (vec_items out)
text_of (Arrived s k segment chosen) = arrive_text s k (vec_items segment) chosen
text_of (Refreshed e) = refresh_text e
text_of (Deregistered n) = deregister_text n
text_of (Refused call fault) = fault_text call fault
