-- A packet in a script: bytes, or what sealing makes of a segment, with a bit flipped or not.
--
--     HEX    seal:ALG:IK:SPI:SEQ:SEGMENT    either with ^OFFSET behind it
use Rattle.std.specs.Prelude.{ℕ, cond, List, length, Some, None, codes, Option, nat_lt}
use Rattle.esp.specs.Packet.{sealed_length, segment_right}
use Rattle.script.specs.Fields.{after, before, split}
use Rattle.script.specs.Hex.{bytes_of}
use Rattle.script.specs.Words.{and_then, association, ended, field, number32}
use Rattle.script.specs.declared.fields.Separator.TheVariants.{Colon}
use Rattle.script.specs.declared.packet.Packet.{Packet}
use Rattle.script.specs.declared.packet.Source.{Source}
use Rattle.script.specs.declared.packet.Source.TheVariants.{Bytes, Sealed}
use Rattle.std.specs.Option.{unwrap_or}
use Rattle.std.specs.Str.{bytes_eq}

-- a sequence number that a packet may carry: at least 1
abbrev pub sequence_of : List ℕ → Option ℕ
sequence_of w = and_then (number32 w) (λ q. cond (nat_lt 0 q) (Some q) None)

-- a segment that can be sealed
abbrev pub segment_of : List ℕ → Option (List ℕ)
segment_of w = and_then (bytes_of w) (λ bs. cond (segment_right (length bs)) (Some bs) None)

-- what stands between the colons after `seal`
abbrev pub sealed_by : List (List ℕ) → Option (Source (List ℕ))
sealed_by ws =
    association ws (λ to ws. field sequence_of ws (λ q ws. field segment_of ws (λ segment ws. ended (Sealed to q segment) ws)))

-- a text whose first piece between colons is `seal` says what to seal; any other is bytes
unfoldable pub source_of : List ℕ → Option (Source (List ℕ))
source_of text =
    cond (bytes_eq (before 58 text) (codes "seal"))
    (and_then (after 58 text) (λ rest. sealed_by (split Colon rest)))
    (and_then (bytes_of text) (λ bs. Some (Bytes bs)))

-- how many bytes the packet has; none where its segment cannot be sealed
abbrev pub length_of : Source (List ℕ) → ℕ
length_of (Bytes bs) = length bs
length_of (Sealed to q segment) = unwrap_or (sealed_length (length segment)) 0

-- with no mark the packet stands as it is; else the mark is followed by the place of a byte of the packet
abbrev pub marked : Source (List ℕ) → Option (List ℕ) → Option (Packet (List ℕ))
marked source None = Some (record { source = source; flip = None })
marked source (Some text) =
    and_then (number32 text) (λ at. cond (nat_lt at (length_of source)) (Some (record { source = source; flip = Some at })) None)

unfoldable pub packet_of : List ℕ → Option (Packet (List ℕ))
packet_of text = and_then (source_of (before 94 text)) (λ source. marked source (after 94 text))

-- the same source or packet, its bytes seen through f
abbrev pub source_by : {X Y : Type 0} → (X → Y) → Source X → Source Y
source_by f (Bytes bs) = Bytes (f bs)
source_by f (Sealed to q segment) = Sealed to q (f segment)

abbrev pub packet_by : {X Y : Type 0} → (X → Y) → Packet X → Packet Y
packet_by f p = record { source = source_by f p.source; flip = p.flip }
