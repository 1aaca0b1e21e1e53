-- SHA-1 in the order of FIPS 180-4: clauses 4.1.1, 4.2.1, 5.3.1 and 6.1.2.
use Rattle.std.specs.Prelude.{ℕ, zero, suc, ◌+◌, ◌-◌, cond, List, [], ◌∷◌, ◌++◌, bit_and, bit_xor, nat_lt, slice_index}
use Rattle.hmac.specs.Digest.{chained}
use Rattle.hmac.specs.Words.{add32, not32, rotl, high_first, high_bytes, high_count, words_of}
use Rattle.hmac.specs.declared.fips180.Working.{Working}

-- 4.1.1: Ch(x, y, z) = (x ∧ y) ⊕ (¬x ∧ z)
abbrev pub ch : ℕ → ℕ → ℕ → ℕ
ch x y z = bit_xor (bit_and x y) (bit_and (not32 x) z)

-- Parity(x, y, z) = x ⊕ y ⊕ z
abbrev pub parity : ℕ → ℕ → ℕ → ℕ
parity x y z = bit_xor (bit_xor x y) z

-- Maj(x, y, z) = (x ∧ y) ⊕ (x ∧ z) ⊕ (y ∧ z)
abbrev pub maj : ℕ → ℕ → ℕ → ℕ
maj x y z = bit_xor (bit_xor (bit_and x y) (bit_and x z)) (bit_and y z)

-- f of round t: Ch below 20, Parity below 40, Maj below 60, and Parity again
abbrev pub function : ℕ → ℕ → ℕ → ℕ → ℕ
function t x y z =
    cond (nat_lt t 20) (ch x y z) (cond (nat_lt t 40) (parity x y z) (cond (nat_lt t 60) (maj x y z) (parity x y z)))

-- 4.2.1: K of round t
abbrev pub constant : ℕ → ℕ
constant t =
    cond (nat_lt t 20) 0x5a827999 (cond (nat_lt t 40) 0x6ed9eba1 (cond (nat_lt t 60) 0x8f1bbcdc 0xca62c1d6))

-- 5.3.1: the initial hash value
abbrev pub initial : Working
initial = record { a = 0x67452301; b = 0xefcdab89; c = 0x98badcfe; d = 0x10325476; e = 0xc3d2e1f0 }

-- 6.1.2, step 1: the message schedule W. Its first sixteen words are those of the block,
abbrev pub words : List ℕ → List ℕ
words = words_of high_first

-- and each later one is ROTL 1 (W[t-3] ⊕ W[t-8] ⊕ W[t-14] ⊕ W[t-16])
unfoldable pub next : List ℕ → ℕ → ℕ
next ws t =
    rotl 1 (bit_xor (bit_xor (bit_xor (slice_index ws (t - 3)) (slice_index ws (t - 8))) (slice_index ws (t - 14))) (slice_index ws (t - 16)))

-- n words more than sixteen
unfoldable pub extended : ℕ → List ℕ → List ℕ
extended zero ws = ws
extended (suc n) ws = extended n ws ++ next (extended n ws) (16 + n) ∷ []

-- all eighty
unfoldable pub schedule : List ℕ → List ℕ
schedule block = extended 64 (words block)

-- step 3: T = ROTL 5 (a) + f(b, c, d) + e + K + W; e = d; d = c; c = ROTL 30 (b); b = a; a = T
unfoldable pub round : ℕ → List ℕ → Working → Working
round t ws r = record {
  a = add32 (add32 (add32 (add32 (rotl 5 r.a) (function t r.b r.c r.d)) r.e) (constant t)) (slice_index ws t);
  b = r.a;
  c = rotl 30 r.b;
  d = r.c;
  e = r.d;
}

-- the first t rounds
unfoldable pub rounds : ℕ → List ℕ → Working → Working
rounds zero ws r = r
rounds (suc t) ws r = round t ws (rounds t ws r)

-- step 4: the sums with the hash value before the block
abbrev pub added : Working → Working → Working
added hash r = record {
  a = add32 r.a hash.a;
  b = add32 r.b hash.b;
  c = add32 r.c hash.c;
  d = add32 r.d hash.d;
  e = add32 r.e hash.e;
}

-- one block
unfoldable pub compressed : Working → List ℕ → Working
compressed hash block = added hash (rounds 80 (schedule block) hash)

-- the five words of the hash value, each with its high byte first
abbrev pub output : Working → List ℕ
output r = high_bytes r.a ++ (high_bytes r.b ++ (high_bytes r.c ++ (high_bytes r.d ++ high_bytes r.e)))

-- the digest of a message
abbrev pub sha1 : List ℕ → List ℕ
sha1 m = output (chained initial compressed high_count m)
