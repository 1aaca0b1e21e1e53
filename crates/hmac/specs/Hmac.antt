-- HMAC in the order of RFC 2104, clause 2, over a digest h whose blocks have B = 64 bytes.
use Rattle.std.specs.Prelude.{ℕ, ◌-◌, cond, List, ◌++◌, map, length, replicate, bit_xor, nat_lt}

-- a key of more than B bytes is hashed first
abbrev pub shortened : (List ℕ → List ℕ) → List ℕ → List ℕ
shortened h k = cond (nat_lt 64 (length k)) (h k) k

-- zeros are appended to the key up to B bytes, and each byte is xored with x
unfoldable pub keyed : ℕ → List ℕ → List ℕ
keyed x k = map (λ b. bit_xor b x) (k ++ replicate (64 - length k) 0)

-- H(K XOR opad, H(K XOR ipad, text)), with ipad the byte 0x36 and opad the byte 0x5C, B times each
unfoldable pub hmac_of : (List ℕ → List ℕ) → List ℕ → List ℕ → List ℕ
hmac_of h k text = h (keyed 0x5c (shortened h k) ++ h (keyed 0x36 (shortened h k) ++ text))
