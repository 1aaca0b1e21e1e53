-- Words of 32 bits, as numbers below 2 ^ 32, and the bytes that they are written in.
-- RFC 1321, clause 2, and FIPS 180-4, clauses 2.2.2 and 3.2.
use Rattle.std.specs.Prelude.{ℕ, ◌+◌, ◌-◌, ◌*◌, ◌/◌, ◌%◌, ◌^◌, List, [], ◌∷◌, ◌++◌, map, bit_or, slice_index}
use Rattle.std.specs.List.{range_with_len}

-- the sum modulo 2 ^ 32: "+" of both texts
abbrev pub add32 : ℕ → ℕ → ℕ
add32 x y = (x + y) % 2 ^ 32

-- the bit-wise complement: "not" of RFC 1321, "¬" of FIPS 180-4
abbrev pub not32 : ℕ → ℕ
not32 x = 2 ^ 32 - 1 - x

-- x turned left by n bits, 0 < n < 32: "X <<< n" of RFC 1321, ROTL n of FIPS 180-4,
-- (x << n) ∨ (x >> (32 - n))
unfoldable pub rotl : ℕ → ℕ → ℕ
rotl n x = bit_or ((x * 2 ^ n) % 2 ^ 32) (x / 2 ^ (32 - n))

-- the word in four bytes, the low byte first: RFC 1321
abbrev pub low_first : ℕ → ℕ → ℕ → ℕ → ℕ
low_first a b c d = a + b * 256 + c * 65536 + d * 16777216

-- the same, the high byte first: FIPS 180-4
abbrev pub high_first : ℕ → ℕ → ℕ → ℕ → ℕ
high_first a b c d = a * 16777216 + b * 65536 + c * 256 + d

-- the word in the four bytes from the place i on, where `word` makes a word of four bytes
abbrev pub word_at : (ℕ → ℕ → ℕ → ℕ → ℕ) → List ℕ → ℕ → ℕ
word_at word bs i = word (slice_index bs i) (slice_index bs (i + 1)) (slice_index bs (i + 2)) (slice_index bs (i + 3))

-- the sixteen words of a block of 64 bytes
unfoldable pub words_of : (ℕ → ℕ → ℕ → ℕ → ℕ) → List ℕ → List ℕ
words_of word block = map (λ j. word_at word block (4 * j)) (range_with_len 0 16)

-- the four bytes of a word, the low byte first
abbrev pub low_bytes : ℕ → List ℕ
low_bytes x = (x % 256) ∷ (x / 256 % 256) ∷ (x / 65536 % 256) ∷ (x / 16777216 % 256) ∷ []

-- the same, the high byte first
abbrev pub high_bytes : ℕ → List ℕ
high_bytes x = (x / 16777216 % 256) ∷ (x / 65536 % 256) ∷ (x / 256 % 256) ∷ (x % 256) ∷ []

-- the low 64 bits of a number as two words, the low word first
abbrev pub low_count : ℕ → List ℕ
low_count x = low_bytes x ++ low_bytes (x / 2 ^ 32)

-- the same, the high word first
abbrev pub high_count : ℕ → List ℕ
high_count x = high_bytes (x / 2 ^ 32) ++ high_bytes x
