use lib.Bits.{bit_xor}
use Rattle.std.proofs.Common.{rules}
use Rattle.std.proofs.lemmas.List.{take_all, drop_all, append-nil}
use Rattle.std.proofs.lemmas.List.Edits.{map_over_more}
use Rattle.hmac.specs.Hmac.{keyed}
use Rattle.hmac.proofs.rfc2104.key_block.Goals as goal

pub loop-byte-preserved : goal.loop-byte-preserved
loop-byte-preserved c = search (rules, map_over_more (λ b. bit_xor b c.args.pad))

pub returns : goal.returns
unfolding keyed
returns c = search (rules, take_all, drop_all, append-nil)
