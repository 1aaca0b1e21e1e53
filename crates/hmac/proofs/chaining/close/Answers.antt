use Rattle.std.proofs.Common.{◌≡◌, ◌*◌, ◌<◌, ◌≤◌, length, ap, ◌∙◌, rules}
use Rattle.hmac.proofs.Blocks.{one_block, two_blocks}
use Rattle.hmac.proofs.chaining.close.Goals as goal
use Rattle.hmac.proofs.chaining.close.Goals.{then-rest-ge56, else-rest-ge56}

-- the law `cut` ties the written bits to the whole length; the end of the message takes two blocks or one
pub returns : goal.returns
returns g c n is low =
    let count = g.D.Digest.count in
    let eight : length c.bit_count.result ≡ 8 = search rules in
    let written = c.bit_count.ensures ∙ ap count low ∙ g.met.D.Digest.cut (8 * n) in
    elim c.if-rest-ge56.branch [
      | then-rest-ge56 w ↦
          let h : 56 ≤ length c.args.rest.now = w.if-rest-ge56.true in
          rw (two_blocks count c.args.rest.now c.bit_count.result n is eight written h)
          (simp (c.absorb-2.ensures, c.copy_from_slice.ensures.after, w.state-is, w.last-is, w.absorb.ensures, c.filled-last.ensures))
      | else-rest-ge56 w ↦
          let h : length c.args.rest.now < 56 = w.if-rest-ge56.false in
          rw (one_block count c.args.rest.now c.bit_count.result n is eight written h)
          (simp (c.absorb-2.ensures, c.copy_from_slice.ensures.after, w.state-is, w.last-is, c.filled-last.ensures))
    ]
