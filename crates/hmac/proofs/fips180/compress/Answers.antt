use Rattle.std.proofs.Common.{◌≡◌, refl, ap, arith}
use Rattle.hmac.specs.Words.{rotl}
use Rattle.hmac.specs.Sha1.{added, compressed, round, rounds, schedule}
use Rattle.hmac.proofs.Turns.{turn_more}
use Rattle.hmac.proofs.fips180.compress.Goals as goal

pub loop-t-init : goal.loop-t-init
unfolding rounds
loop-t-init c = refl

pub loop-t-preserved : goal.loop-t-preserved
unfolding rotl round rounds
loop-t-preserved c =
    let ws = schedule c.args.block.now in
    simp (c.rotate_left.ensures, c.mix.ensures, c.constant_of.ensures, c.rotate_left-c.ensures, c.expand-w.ensures)
    (turn_more (λ k. rounds k ws c.args.hash) (λ k. round k ws) (λ k. refl) c.loop-t.t _ c.loop-t.invariant)

pub returns : goal.returns
unfolding compressed
returns c =
    let e : c.loop-t.t ≡ 80 = omega arith in
    ap (added c.args.hash) (rw e at c.loop-t.invariant)
