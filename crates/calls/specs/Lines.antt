-- The lines that call the proxy, and the lines of the whole grammar.
use Rattle.std.specs.Prelude.{ℕ, List, [], ◌∷◌, Some, None, Option}
use Rattle.calls.specs.Addresses.{address_of}
use Rattle.calls.specs.Messages.{message_of, offer_of}
use Rattle.texts.specs.Names.{named}
use Rattle.calls.specs.Outcomes.{conclude_line}
use Rattle.calls.specs.declared.line.CallLine.{CallLine}
use Rattle.calls.specs.declared.line.CallLine.TheVariants.{Arrive, Challenge, Conclude, Deregister, Open, Refresh, Register, Send, Tick}
use Rattle.calls.specs.declared.line.Line.{Line}
use Rattle.calls.specs.declared.line.Line.TheVariants.{Call, Packets}
use Rattle.texts.specs.declared.name.CallName.{CallName}
use Rattle.texts.specs.declared.name.CallName.TheVariants as call
use Rattle.script.specs.Fields.{split}
use Rattle.script.specs.Hex.{bytes_of}
use Rattle.script.specs.Lines as packets
use Rattle.script.specs.Packets.{packet_by, packet_of}
use Rattle.script.specs.Words.{and_then, ended, field, ik_of, number16, number32, number8}
use Rattle.script.specs.declared.fields.Separator.TheVariants.{Space}
use Rattle.script.specs.declared.line.Line as packet

-- the number of 8 bits that ends a line or is left out
abbrev pub last_byte : List (List ℕ) → Option (Option ℕ)
last_byte [] = Some None
last_byte (w ∷ ws) = and_then (number8 w) (λ n. ended (Some n) ws)

--   open ROWS PORT ALG [ALG]
abbrev pub open_line : List (List ℕ) → Option (CallLine (List ℕ))
open_line ws =
    field number32 ws (λ rows ws. field number16 ws (λ port ws. field number8 ws (λ a ws.
    and_then (last_byte ws) (λ b. Some (Open (record { rows = rows; port = port; first = a; second = b }))))))

--   tick T
abbrev pub tick_line : List (List ℕ) → Option (CallLine (List ℕ))
tick_line ws = field number32 ws (λ t ws. ended (Tick t) ws)

--   register ADDR SUB PORT SPI A B
abbrev pub register_line : List (List ℕ) → Option (CallLine (List ℕ))
register_line ws =
    field address_of ws (λ a ws. field number32 ws (λ s ws. and_then (offer_of ws) (λ o. Some (Register a s o))))

--   challenge SUB IK SEGMENT AREA
abbrev pub challenge_line : List (List ℕ) → Option (CallLine (List ℕ))
challenge_line ws =
    field number32 ws (λ s ws. field ik_of ws (λ k ws. field bytes_of ws (λ segment ws. field number32 ws (λ area ws.
    ended (Challenge s k segment area) ws))))

--   arrive ADDR PACKET MESSAGE
abbrev pub arrive_line : List (List ℕ) → Option (CallLine (List ℕ))
arrive_line ws =
    field address_of ws (λ a ws. field packet_of ws (λ packet ws. and_then (message_of ws) (λ m. Some (Arrive a packet m))))

--   send SUB SEGMENT AREA
abbrev pub send_line : List (List ℕ) → Option (CallLine (List ℕ))
send_line ws =
    field number32 ws (λ s ws. field bytes_of ws (λ segment ws. field number32 ws (λ area ws. ended (Send s segment area) ws)))

--   refresh SUB TIMER
abbrev pub refresh_line : List (List ℕ) → Option (CallLine (List ℕ))
refresh_line ws = field number32 ws (λ s ws. field number32 ws (λ timer ws. ended (Refresh s timer) ws))

--   deregister SUB MASK
abbrev pub deregister_line : List (List ℕ) → Option (CallLine (List ℕ))
deregister_line ws = field number32 ws (λ s ws. field number16 ws (λ mask ws. ended (Deregister s mask) ws))

-- a call with its fields
abbrev pub called_by : CallName → List (List ℕ) → Option (CallLine (List ℕ))
called_by call.Open ws = open_line ws
called_by call.Tick ws = tick_line ws
called_by call.Register ws = register_line ws
called_by call.Challenge ws = challenge_line ws
called_by call.Arrive ws = arrive_line ws
called_by call.Conclude ws = conclude_line ws
called_by call.Send ws = send_line ws
called_by call.Refresh ws = refresh_line ws
called_by call.Deregister ws = deregister_line ws

-- the words of a line, of which the first names the call
abbrev pub words_call : List (List ℕ) → Option (CallLine (List ℕ))
words_call ws = field named ws called_by

-- what a line calls
unfoldable pub call_of : List ℕ → Option (CallLine (List ℕ))
call_of line = words_call (split Space (packets.body_of line))

-- a line of the packet layer's grammar, or else of the calls'
abbrev pub either : Option (packet.Line (List ℕ)) → Option (CallLine (List ℕ)) → Option (Line (List ℕ))
either (Some p) c = Some (Packets p)
either None None = None
either None (Some c) = Some (Call c)

-- what a line of a script says
unfoldable pub line_of : List ℕ → Option (Line (List ℕ))
line_of line = either (packets.line_of line) (call_of line)

-- the same line, its bytes seen through f
abbrev pub call_by : {X Y : Type 0} → (X → Y) → CallLine X → CallLine Y
call_by f (Open opening) = Open opening
call_by f (Tick t) = Tick t
call_by f (Register a s o) = Register a s o
call_by f (Challenge s k segment area) = Challenge s k (f segment) area
call_by f (Arrive a packet m) = Arrive a (packet_by f packet) m
call_by f (Conclude s o segment area) = Conclude s o (f segment) area
call_by f (Send s segment area) = Send s (f segment) area
call_by f (Refresh s timer) = Refresh s timer
call_by f (Deregister s mask) = Deregister s mask

abbrev pub line_by : {X Y : Type 0} → (X → Y) → Line X → Line Y
line_by f (Packets p) = Packets (packets.line_by f p)
line_by f (Call c) = Call (call_by f c)
