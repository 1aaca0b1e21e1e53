use Rattle.proxy.proofs.Lengths.{challenging_clipped, within}
use Rattle.proxy.proofs.proxy.Proxy.challenge_within.Goals as goal
use Rattle.proxy.specs.Stated.{state_of}
use Rattle.std.proofs.Common.{arith}

pub returns : goal.returns
returns g c =
    let w = within _ c.args.area c.min-room.result c.args.out.now c.challenge.new.out _ _ (omega (arith, c.min-room.ensures)) c.told-out
    (challenging_clipped g.S.Suite.macs g.met.S.Suite.twelve c.args.subscriber c.args.segment.now c.args.area (state_of c.args.self.now) c.args.ik.now) c.challenge.ensures.machine c.challenge.auto.out in
    record { machine = w.0; wrote = w.1; stays = c.challenge.ensures.stays }
