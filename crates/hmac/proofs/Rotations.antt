-- The rotation of a word as the library states it, and as the standards write it.
use Rattle.std.proofs.Common.{◌≡◌, ℕ, ◌-◌, ◌*◌, ◌/◌, ◌%◌, ◌^◌, ◌<◌, arith}
use lib.Bits.{bit_or}
use Rattle.hmac.specs.Words.{rotl}

-- by between 1 and 31 bits the two are the same
pub rotl_std : (n x : ℕ) → 0 < n → n < 32 → bit_or ((x * 2 ^ (n % 32)) % 2 ^ 32) (x / 2 ^ ((32 - n % 32) % 32)) ≡ rotl n x
unfolding rotl
rotl_std n x p h =
    let m : n % 32 ≡ n = omega arith in
    let k : (32 - n) % 32 ≡ 32 - n = omega arith in
    rw (m, k)
