-- The machine: opening, and each call as an act on one row that learns of the rest of the table a single bit.
use Rattle.std.specs.Prelude.{ℕ, suc, ◌-◌, ◌/◌, Bool, false, cond, not, ◌&&◌, List, [], ◌∷◌, map, length, Some, None, Ok, Err, Option, Result, ◌==◌, nat_le, nat_lt, slice_set}
use Rattle.integrity.specs.Algorithms.{Macs}
use Rattle.association.specs.Asked.{Address, own_is, pair_is}
use Rattle.association.specs.declared.faults.Fault.TheVariants.{NoSet, Packet}
use Rattle.association.specs.declared.address.Pair.{Pair}
use Rattle.association.specs.declared.set.Parameters.{Parameters}
use Rattle.esp.specs.Asking.{asked}
use Rattle.esp.specs.Reading.{packet_right, spi_of}
use Rattle.esp.specs.Sealing.{laid}
use Rattle.esp.specs.declared.faults.Fault.TheVariants.{PacketLength}
use Rattle.proxy.specs.State.{State, count_of, in_table, put_row, row_of}
use Rattle.registration.specs.Emitting.{Reply}
use Rattle.registration.specs.Entering.{entered}
use Rattle.registration.specs.Keeping.{aged, deregistered, refreshed}
use Rattle.procedure.specs.Offers.{listed}
use Rattle.registration.specs.Receiving.{Heard, received}
use Rattle.registration.specs.Rows.{blank, ended, in_row, pending_pair}
use Rattle.registration.specs.Sending.{challenged, concluded, sent}
use Rattle.procedure.specs.declared.carrier.Sent.{Sent}
use Rattle.procedure.specs.declared.chosen.Chosen.{Chosen}
use Rattle.procedure.specs.declared.faults.Fault.{Fault}
use Rattle.procedure.specs.declared.faults.Fault.TheVariants.{Association, NoSubscriber, WrongTime}
use Rattle.procedure.specs.declared.message.Message.{Message}
use Rattle.procedure.specs.declared.message.Message.TheVariants.{Opening, Ordinary, Response}
use Rattle.procedure.specs.declared.message.Outcome.{Outcome}
use Rattle.procedure.specs.declared.offer.Offer.{Offer}
use Rattle.registration.specs.declared.row.Row.{Row}
use Rattle.procedure.specs.declared.service.Service.{Service}
use Rattle.slots.specs.declared.cover.Cover.TheVariants.{Clear}

-- Opening. The protected port is neither 0 nor 5060, where SIP in clear arrives.
abbrev pub port_right : ℕ → Bool
port_right port = not (port == 0) && not (port == 5060)

abbrev pub emptied : Row → Row
emptied r = blank

unfoldable pub opened : List Row → ℕ → List ℕ → State
opened rows port list =
    record {
      rows = map emptied rows;
      service = record { clock = 0; port = port; algorithms = cond (port_right port) (listed list) None };
    }

-- Time goes on, to at most 4,000,000,000.
abbrev pub time_right : ℕ → State → Bool
time_right t σ = nat_le σ.service.clock t && nat_le t 4000000000

abbrev pub at_time : ℕ → Service → Service
at_time t v = record { clock = t; port = v.port; algorithms = v.algorithms }

unfoldable pub ticked : ℕ → State → State × Result ℕ Fault
ticked t σ =
    asked (time_right t σ) (σ, Err WrongTime)
    (record { rows = map (aged t) σ.rows; service = at_time t σ.service }, Ok t)

-- a call that names subscriber s works on his row
abbrev pub on_row : {X : Type 0} → ℕ → (Row → Row × Result X Fault) → State → State × Result X Fault
on_row s act σ =
    asked (nat_lt s (count_of σ)) (σ, Err NoSubscriber) (put_row σ s (act (row_of σ s)).0, (act (row_of σ s)).1)

-- the same for a call that may send: the state after it, its answer, and what was written from the front of the
-- output area on
pub record Sending : Type 0 where
  pub state : State
  pub result : Result Sent Fault
  pub written : List ℕ

abbrev pub sending_on : ℕ → (Row → Reply) → State → Sending
sending_on s act σ =
    asked (nat_lt s (count_of σ)) (record { state = σ; result = Err NoSubscriber; written = [] })
    (record {
      state = put_row σ s (act (row_of σ s)).row;
      result = (act (row_of σ s)).result;
      written = (act (row_of σ s)).written;
    })

-- what the call leaves: the state, its answer and the area
abbrev pub leaves : Sending → List ℕ → State × Result Sent Fault × List ℕ
leaves p area = (p.state, p.result, laid p.written area)

-- the same but for the area
abbrev pub answered : Sending → State × Result Sent Fault
answered p = (p.state, p.result)

-- the bit: whether a set of the table has an address and port
abbrev pub taken : Address → ℕ → State → Bool
taken a port σ = in_table (pair_is a port) σ.rows

-- the same for an opening REGISTER that waits for its challenge, outside the row's slot 3, which the challenge fills
-- anew
abbrev pub taken_for : Option Pair → ℕ → State → Bool
taken_for None s σ = false
taken_for (Some p) s σ = in_table (pair_is p.address p.port) (slice_set σ.rows s (ended (row_of σ s)))

-- and for an arriving message
abbrev pub taken_by : Address → Message → State → Bool
taken_by a (Opening s o) σ = taken a o.port σ
taken_by a (Response o) σ = false
taken_by a (Ordinary i) σ = false

unfoldable pub registered : Address → ℕ → Offer → State → State × Result Chosen Fault
registered a s o σ = on_row s (entered σ.service s (taken a o.port σ) a o Clear) σ

unfoldable pub challenging : Macs → ℕ → List ℕ → List ℕ → ℕ → State → Sending
challenging m s ik segment room σ =
    sending_on s (challenged m σ.service (taken_for (pending_pair (row_of σ s).stage) s σ) ik segment room) σ

unfoldable pub concluding : Macs → ℕ → Outcome → List ℕ → ℕ → State → Sending
concluding m s outcome segment room σ = sending_on s (concluded m σ.service outcome segment room) σ

unfoldable pub sending : Macs → ℕ → List ℕ → ℕ → State → Sending
sending m s segment room σ = sending_on s (sent m segment room) σ

unfoldable pub refreshing : ℕ → ℕ → State → State × Result ℕ Fault
refreshing s timer σ = on_row s (refreshed σ.service.clock timer) σ

unfoldable pub deregistering : ℕ → ℕ → State → State × Result ℕ Fault
deregistering s mask σ = on_row s (deregistered mask) σ

-- A packet arrives. Its length is asked first; then its set is looked for in the table.
abbrev pub received_at : Macs → Address → List ℕ → Message → ℕ → State → State × Result Heard Fault
received_at m a b message s σ = (
  put_row σ s (received m σ.service s (taken_by a message σ) a (spi_of b) b message (row_of σ s)).0,
  (received m σ.service s (taken_by a message σ) a (spi_of b) b message (row_of σ s)).1,
)

abbrev pub wrong_length : List ℕ → Fault
wrong_length b = Association (Packet (PacketLength (length b)))

-- the row that can have the set: (SPI − 4096) / 16
abbrev pub home_of : ℕ → ℕ
home_of spi = (spi - 4096) / 16

-- whether an SPI is in a subscriber's block
abbrev pub homed : ℕ → State → Bool
homed spi σ = nat_le 4096 spi && nat_lt (home_of spi) (count_of σ)

unfoldable pub arriving : Macs → Address → List ℕ → Message → State → State × Result Heard Fault
arriving m a b message σ =
    asked (packet_right (length b)) (σ, Err (wrong_length b))
    (asked (homed (spi_of b) σ) (σ, Err (Association NoSet)) (received_at m a b message (home_of (spi_of b)) σ))

-- the number of the first row that has a set of which f is true, or the number of rows
abbrev pub owner : (Parameters → Bool) → List Row → ℕ
owner f [] = 0
owner f (r ∷ rs) = cond (in_row f r) 0 (suc (owner f rs))

-- the same, with the packet's set looked for in the whole table: the first row, and in it the lowest slot, with this
-- address and proxy's SPI
unfoldable pub arriving_wide : Macs → Address → List ℕ → Message → State → State × Result Heard Fault
arriving_wide m a b message σ =
    asked (packet_right (length b)) (σ, Err (wrong_length b))
    (asked (nat_lt (owner (own_is a (spi_of b)) σ.rows) (length σ.rows)) (σ, Err (Association NoSet))
    (received_at m a b message (owner (own_is a (spi_of b)) σ.rows) σ))
