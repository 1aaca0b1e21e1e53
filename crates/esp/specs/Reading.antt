-- The parts of a received packet b.
use Rattle.std.specs.Prelude.{◌≡◌, ℕ, ◌+◌, ◌-◌, ◌*◌, ◌%◌, Bool, ◌&&◌, List, length, take, drop, ◌==◌, nat_le, slice_index}
use Rattle.esp.specs.Packet.{padding, segment_right}
use Rattle.std.specs.Str.{bytes_eq}

-- whether a packet has a right length: 32 to 1424 bytes, a multiple of 4
abbrev pub packet_right : ℕ → Bool
packet_right n = nat_le 32 n && (nat_le n 1424 && n % 4 == 0)

-- the 32-bit number in the four bytes from i on, the highest first
abbrev pub word : List ℕ → ℕ → ℕ
word b i = slice_index b i * 16777216 + slice_index b (i + 1) * 65536 + slice_index b (i + 2) * 256 + slice_index b (i + 3)

abbrev pub spi_of : List ℕ → ℕ
spi_of b = word b 0

abbrev pub number_of : List ℕ → ℕ
number_of b = word b 4

-- what the tag covers, and the tag
abbrev pub covered_of : List ℕ → List ℕ
covered_of b = take (length b - 12) b

abbrev pub tag_of : List ℕ → List ℕ
tag_of b = drop (length b - 12) b

-- the tag is the one that the algorithm gives for what it covers
abbrev pub Authentic : (List ℕ → List ℕ → List ℕ) → List ℕ → List ℕ → Type 0
Authentic mac ik b = tag_of b ≡ mac ik (covered_of b)

-- the two bytes before the tag
abbrev pub pad_length_of : List ℕ → ℕ
pad_length_of b = slice_index b (length b - 14)

abbrev pub next_header_of : List ℕ → ℕ
next_header_of b = slice_index b (length b - 13)

-- how many bytes are left for the segment; 0 where the pad length is more than there is
abbrev pub segment_length_of : List ℕ → ℕ
segment_length_of b = length b - 22 - pad_length_of b

abbrev pub segment_of : List ℕ → List ℕ
segment_of b = take (segment_length_of b) (drop 8 b)

abbrev pub padding_of : List ℕ → List ℕ
padding_of b = take (pad_length_of b) (drop (8 + segment_length_of b) b)

-- next header UDP, a right number of bytes left, and the padding 1, 2, ..
unfoldable pub trailer_right : List ℕ → Bool
trailer_right b =
    (next_header_of b == 17)
    && (segment_right (segment_length_of b) && bytes_eq (padding_of b) (padding (pad_length_of b)))
