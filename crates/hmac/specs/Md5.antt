-- MD5 in the order of RFC 1321, clause 3.
use Rattle.std.specs.Prelude.{ℕ, zero, suc, cond, List, [], ◌∷◌, ◌++◌, bit_and, bit_or, bit_xor, nat_lt, slice_index}
use Rattle.hmac.specs.Digest.{chained}
use Rattle.hmac.specs.Words.{add32, not32, rotl, low_first, low_bytes, low_count, words_of}
use Rattle.hmac.specs.declared.rfc1321.Abcd.{Abcd}

-- 3.3: the buffer before the first block
--   word A: 01 23 45 67, B: 89 ab cd ef, C: fe dc ba 98, D: 76 54 32 10, low byte first
abbrev pub initial : Abcd
initial = record { a = 0x67452301; b = 0xefcdab89; c = 0x98badcfe; d = 0x10325476 }

-- 3.4: the four auxiliary functions
--   F(X,Y,Z) = XY v not(X) Z
abbrev pub f : ℕ → ℕ → ℕ → ℕ
f x y z = bit_or (bit_and x y) (bit_and (not32 x) z)

--   G(X,Y,Z) = XZ v Y not(Z)
abbrev pub g : ℕ → ℕ → ℕ → ℕ
g x y z = bit_or (bit_and x z) (bit_and y (not32 z))

--   H(X,Y,Z) = X xor Y xor Z
abbrev pub h : ℕ → ℕ → ℕ → ℕ
h x y z = bit_xor (bit_xor x y) z

--   I(X,Y,Z) = Y xor (X v not(Z))
abbrev pub i : ℕ → ℕ → ℕ → ℕ
i x y z = bit_xor y (bit_or x (not32 z))

-- the function of step t, counted from 0: sixteen steps in each of the four rounds
abbrev pub auxiliary : ℕ → ℕ → ℕ → ℕ → ℕ
auxiliary t x y z =
    cond (nat_lt t 16) (f x y z) (cond (nat_lt t 32) (g x y z) (cond (nat_lt t 48) (h x y z) (i x y z)))

-- T[1 .. 64]: the integer part of 4294967296 times abs(sin(i)), i in radians
abbrev pub sines : List ℕ
sines =
    0xd76aa478 ∷ 0xe8c7b756 ∷ 0x242070db ∷ 0xc1bdceee ∷ 0xf57c0faf ∷ 0x4787c62a ∷ 0xa8304613 ∷ 0xfd469501
    ∷ 0x698098d8 ∷ 0x8b44f7af ∷ 0xffff5bb1 ∷ 0x895cd7be ∷ 0x6b901122 ∷ 0xfd987193 ∷ 0xa679438e ∷ 0x49b40821
    ∷ 0xf61e2562 ∷ 0xc040b340 ∷ 0x265e5a51 ∷ 0xe9b6c7aa ∷ 0xd62f105d ∷ 0x02441453 ∷ 0xd8a1e681 ∷ 0xe7d3fbc8
    ∷ 0x21e1cde6 ∷ 0xc33707d6 ∷ 0xf4d50d87 ∷ 0x455a14ed ∷ 0xa9e3e905 ∷ 0xfcefa3f8 ∷ 0x676f02d9 ∷ 0x8d2a4c8a
    ∷ 0xfffa3942 ∷ 0x8771f681 ∷ 0x6d9d6122 ∷ 0xfde5380c ∷ 0xa4beea44 ∷ 0x4bdecfa9 ∷ 0xf6bb4b60 ∷ 0xbebfbc70
    ∷ 0x289b7ec6 ∷ 0xeaa127fa ∷ 0xd4ef3085 ∷ 0x04881d05 ∷ 0xd9d4d039 ∷ 0xe6db99e5 ∷ 0x1fa27cf8 ∷ 0xc4ac5665
    ∷ 0xf4292244 ∷ 0x432aff97 ∷ 0xab9423a7 ∷ 0xfc93a039 ∷ 0x655b59c3 ∷ 0x8f0ccc92 ∷ 0xffeff47d ∷ 0x85845dd1
    ∷ 0x6fa87e4f ∷ 0xfe2ce6e0 ∷ 0xa3014314 ∷ 0x4e0811a1 ∷ 0xf7537e82 ∷ 0xbd3af235 ∷ 0x2ad7d2bb ∷ 0xeb86d391 ∷ []

-- k of each step, a row to a round: which word X[k] of the block it takes
abbrev pub picks : List ℕ
picks =
    0 ∷ 1 ∷ 2 ∷ 3 ∷ 4 ∷ 5 ∷ 6 ∷ 7 ∷ 8 ∷ 9 ∷ 10 ∷ 11 ∷ 12 ∷ 13 ∷ 14 ∷ 15
    ∷ 1 ∷ 6 ∷ 11 ∷ 0 ∷ 5 ∷ 10 ∷ 15 ∷ 4 ∷ 9 ∷ 14 ∷ 3 ∷ 8 ∷ 13 ∷ 2 ∷ 7 ∷ 12
    ∷ 5 ∷ 8 ∷ 11 ∷ 14 ∷ 1 ∷ 4 ∷ 7 ∷ 10 ∷ 13 ∷ 0 ∷ 3 ∷ 6 ∷ 9 ∷ 12 ∷ 15 ∷ 2
    ∷ 0 ∷ 7 ∷ 14 ∷ 5 ∷ 12 ∷ 3 ∷ 10 ∷ 1 ∷ 8 ∷ 15 ∷ 6 ∷ 13 ∷ 4 ∷ 11 ∷ 2 ∷ 9 ∷ []

-- s of each step, a row to a round: by how many bits it turns
abbrev pub turns : List ℕ
turns =
    7 ∷ 12 ∷ 17 ∷ 22 ∷ 7 ∷ 12 ∷ 17 ∷ 22 ∷ 7 ∷ 12 ∷ 17 ∷ 22 ∷ 7 ∷ 12 ∷ 17 ∷ 22
    ∷ 5 ∷ 9 ∷ 14 ∷ 20 ∷ 5 ∷ 9 ∷ 14 ∷ 20 ∷ 5 ∷ 9 ∷ 14 ∷ 20 ∷ 5 ∷ 9 ∷ 14 ∷ 20
    ∷ 4 ∷ 11 ∷ 16 ∷ 23 ∷ 4 ∷ 11 ∷ 16 ∷ 23 ∷ 4 ∷ 11 ∷ 16 ∷ 23 ∷ 4 ∷ 11 ∷ 16 ∷ 23
    ∷ 6 ∷ 10 ∷ 15 ∷ 21 ∷ 6 ∷ 10 ∷ 15 ∷ 21 ∷ 6 ∷ 10 ∷ 15 ∷ 21 ∷ 6 ∷ 10 ∷ 15 ∷ 21 ∷ []

-- the sixteen words X[0 .. 15] of a block
abbrev pub words : List ℕ → List ℕ
words = words_of low_first

-- step t, [abcd k s i]: a = b + ((a + F(b,c,d) + X[k] + T[i]) <<< s).
-- The text writes the next step as [dabc ..]: what it calls a is then the d of this one, and so on. So
-- here the registers change places after each step:
--
--     a   b   c   d
--      \   \   \   \___ the new a
--       \   \   \______ the new d
--        \   \_________ the new c
--         \____________ goes into the new b
unfoldable pub step : ℕ → List ℕ → Abcd → Abcd
step t xs r = record {
  a = r.d;
  b = add32 r.b (rotl (slice_index turns t)
      (add32 (add32 (add32 r.a (auxiliary t r.b r.c r.d)) (slice_index xs (slice_index picks t))) (slice_index sines t)));
  c = r.b;
  d = r.c;
}

-- the first t steps
unfoldable pub steps : ℕ → List ℕ → Abcd → Abcd
steps zero xs r = r
steps (suc t) xs r = step t xs (steps t xs r)

-- A = A + AA, B = B + BB, C = C + CC, D = D + DD
abbrev pub added : Abcd → Abcd → Abcd
added saved r = record {
  a = add32 r.a saved.a;
  b = add32 r.b saved.b;
  c = add32 r.c saved.c;
  d = add32 r.d saved.d;
}

-- one block: 64 steps, and then the sums with the buffer as it stood before
unfoldable pub compressed : Abcd → List ℕ → Abcd
compressed saved block = added saved (steps 64 (words block) saved)

-- 3.5: the digest is A, B, C, D, each with its low byte first
abbrev pub output : Abcd → List ℕ
output r = low_bytes r.a ++ (low_bytes r.b ++ (low_bytes r.c ++ low_bytes r.d))

-- the digest of a message
abbrev pub md5 : List ℕ → List ℕ
md5 m = output (chained initial compressed low_count m)
