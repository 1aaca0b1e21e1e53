use Rattle.std.proofs.Common.{◌≡◌, ◌++◌, length, rules}
use Rattle.hmac.proofs.Blocks.{chained_after}
use Rattle.hmac.proofs.rfc2104.digest_after.Goals as goal

-- the law `made` at the block and the message together
pub returns : goal.returns
returns g c =
    let d = g.D.Digest in
    let b = c.args.block.now in
    let m = c.args.message.now in
    let long : length b ≡ 64 = search rules in
    let made = g.met.D.Digest.made (b ++ m) in
    let parts = chained_after d.initial d.step d.count b m long in
    cc
