-- A sealed packet: ESP in transport mode with integrity only (RFC 2406, clause 2). The payload is a UDP
-- segment, which is not enciphered.
--
--     0     4        8                                              n-14         n-13          n-12      n
--     | SPI | number | segment, 8 to 1400 bytes | padding 1, 2, ..  | pad length | next header | tag, 12 |
--     |<------------------- what the tag covers ------------------------------------------->|
use Rattle.std.specs.Prelude.{◌≡◌, ℕ, ◌+◌, ◌-◌, ◌/◌, ◌%◌, ◌≤◌, Bool, cond, ◌&&◌, List, [], ◌∷◌, ◌++◌, length, Some, None, Option, nat_le}
use Rattle.std.specs.List.{range_with_len}

-- a 32-bit number in four bytes, the highest first
abbrev pub be32 : ℕ → List ℕ
be32 n = (n / 16777216 % 256) ∷ (n / 65536 % 256) ∷ (n / 256 % 256) ∷ (n % 256) ∷ []

-- whether a segment has a right length
abbrev pub segment_right : ℕ → Bool
segment_right n = nat_le 8 n && nat_le n 1400

-- how many bytes of padding follow a segment of n bytes: so many that segment, padding, pad length and next
-- header together are a multiple of 4 bytes,
abbrev pub pad_count : ℕ → ℕ
pad_count n = (4 - (n + 2) % 4) % 4

-- and no fewer bytes would do
abbrev pub Fewest : ℕ → Type 0
Fewest n = ((n + pad_count n + 2) % 4 ≡ 0) × ((k : ℕ) → (n + k + 2) % 4 ≡ 0 → pad_count n ≤ k)

-- k bytes of padding: 1, 2, 3 and so on (RFC 2406, clause 2.4)
abbrev pub padding : ℕ → List ℕ
padding k = range_with_len 1 k

-- the length of the packet that carries a segment of n bytes, if it may be sealed
abbrev pub sealed_length : ℕ → Option ℕ
sealed_length n = cond (segment_right n) (Some (n + pad_count n + 22)) None

-- what the tag covers: the receiver's SPI, the sequence number, the segment, its padding, the pad length, and
-- 17, the protocol number of UDP
unfoldable pub covered : ℕ → ℕ → List ℕ → List ℕ
covered spi q segment =
    be32 spi
    ++ (be32 q ++ (segment ++ (padding (pad_count (length segment)) ++ (pad_count (length segment) ∷ 17 ∷ []))))

-- the packet under an algorithm and an IK
unfoldable pub sealed : (List ℕ → List ℕ → List ℕ) → List ℕ → ℕ → ℕ → List ℕ → List ℕ
sealed mac ik spi q segment = covered spi q segment ++ mac ik (covered spi q segment)
