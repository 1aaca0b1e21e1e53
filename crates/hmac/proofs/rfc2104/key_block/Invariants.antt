use Rattle.std.proofs.Common.{◌≡◌, ◌++◌, map, take, drop}
use lib.Bits.{bit_xor}
use Rattle.hmac.proofs.rfc2104.key_block.Given as goal

abbrev pub invariant-loop-byte : goal.invariant-loop-byte
invariant-loop-byte l = l.byte-items ≡ map (λ b. bit_xor b l.pad) (take l.byte-index l.initial.byte-items) ++ drop l.byte-index l.initial.byte-items
