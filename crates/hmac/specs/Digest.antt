-- What MD5 and SHA-1 share: a message is padded, cut into blocks of 64 bytes, and each block in turn
-- changes a chaining state. RFC 1321, clauses 3.1 to 3.4, and FIPS 180-4, clauses 5.1.1, 5.2.1 and 6.1.2.
use Rattle.std.specs.Prelude.{ℕ, ◌-◌, ◌*◌, ◌/◌, ◌%◌, List, ◌∷◌, ◌++◌, length, replicate, fold}
use Rattle.std.specs.Simd.{first_chunks}

-- what is appended to a message of n bytes: a single 1 bit, as the byte 0x80; as few zeros as bring the
-- length to 56 bytes modulo 64; the length in bits, of which `count` writes the low 64 in 8 bytes
unfoldable pub padding : (ℕ → List ℕ) → ℕ → List ℕ
padding count n = 0x80 ∷ (replicate ((119 - n % 64) % 64) 0 ++ count (8 * n))

-- the blocks of 64 bytes, first to last
unfoldable pub blocks : List ℕ → List (List ℕ)
blocks bs = first_chunks 64 (length bs / 64) bs

-- the chaining state after the padded message, from the state `initial` on
unfoldable pub chained : {S : Type 0} → S → (S → List ℕ → S) → (ℕ → List ℕ) → List ℕ → S
chained initial step count m = fold step initial (blocks (m ++ padding count (length m)))
