-- Bytes in hexadecimal, two digits a byte, and `-` for none.
use Rattle.std.specs.Prelude.{ℕ, ◌+◌, ◌-◌, ◌*◌, ◌/◌, ◌%◌, cond, ◌&&◌, List, [], ◌∷◌, length, Some, None, Option, nat_le, nat_lt}
use Rattle.std.specs.Str.{bytes_eq}

-- the value of a digit: 0 to 9, a to f, or A to F
abbrev pub digit_of : ℕ → Option ℕ
digit_of c =
    cond (nat_le 48 c && nat_le c 57) (Some (c - 48))
    (cond (nat_le 97 c && nat_le c 102) (Some (c - 87))
    (cond (nat_le 65 c && nat_le c 70) (Some (c - 55)) None))

-- the byte that two digits write
abbrev pub byte_of : Option ℕ → Option ℕ → Option ℕ
byte_of None low = None
byte_of (Some h) None = None
byte_of (Some h) (Some l) = Some (16 * h + l)

-- a byte in front of more bytes, where all could be read
abbrev pub joined : Option ℕ → Option (List ℕ) → Option (List ℕ)
joined None bs = None
joined (Some b) None = None
joined (Some b) (Some bs) = Some (b ∷ bs)

-- the bytes of digits, two and two; there is none for a last digit alone
unfoldable pub paired : List ℕ → Option (List ℕ)
paired [] = Some []
paired (h ∷ []) = None
paired (h ∷ (l ∷ cs)) = joined (byte_of (digit_of h) (digit_of l)) (paired cs)

-- the bytes that a text writes
unfoldable pub bytes_of : List ℕ → Option (List ℕ)
bytes_of text = cond (bytes_eq text (45 ∷ [])) (Some []) (cond (nat_lt 0 (length text)) (paired text) None)

-- the digit of a value below 16, in lower case
abbrev pub glyph : ℕ → ℕ
glyph d = cond (nat_lt d 10) (48 + d) (87 + d)

-- the digits of bytes
abbrev pub spelled : List ℕ → List ℕ
spelled [] = []
spelled (b ∷ bs) = glyph (b / 16) ∷ (glyph (b % 16) ∷ spelled bs)

-- what is printed of bytes
unfoldable pub hex_of : List ℕ → List ℕ
hex_of [] = 45 ∷ []
hex_of (b ∷ bs) = spelled (b ∷ bs)
