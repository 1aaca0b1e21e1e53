use Rattle.std.proofs.Common.{◌≡◌, ℕ, ◌+◌, ◌*◌, ◌%◌, ◌^◌, length, ap, ◌∙◌, arith}
use Rattle.hmac.specs.Digest.{padding}
use Rattle.hmac.proofs.Blocks.{blocks_parts, folded_append}
use Rattle.hmac.proofs.chaining.digest_from.Goals as goal

-- the whole blocks bring the state to where the end begins, whose length is counted modulo 2 ^ 64
pub returns : goal.returns
returns g c =
    let d = g.D.Digest in
    let m = c.args.message.now in
    let n : ℕ = c.args.before + length m in
    let left : length c.as_chunks.result.1.now ≡ n % 64 = omega (arith, c.as_chunks.ensures.back_len, c.requires) in
    let low : n % 2 ^ 64 * 8 % 2 ^ 64 ≡ (8 * n) % 2 ^ 64 = omega arith in
    c.finish.ensures
    ∙ ap d.bytes
    (rw (blocks_parts m (padding d.count n))
    (rw (folded_append d.step)
    (simp (c.close.ensures n left low, c.absorb_all.ensures, c.as_chunks.ensures.front, c.as_chunks.ensures.back))))
