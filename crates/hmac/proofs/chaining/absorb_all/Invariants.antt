use Rattle.std.proofs.Common.{◌≡◌, drop, fold}
use Rattle.hmac.proofs.chaining.absorb_all.Given as goal

-- the blocks that are left bring the state to where all of them bring the first one
abbrev pub invariant-loop-block : goal.invariant-loop-block
invariant-loop-block g l =
    fold g.D.Digest.step l.state (drop l.block-index l.whole) ≡ fold g.D.Digest.step l.initial.state l.whole
