use Rattle.proxy.proofs.Lengths.{concluding_clipped, within}
use Rattle.proxy.proofs.proxy.Proxy.outcome_within.Goals as goal
use Rattle.proxy.specs.Stated.{state_of}
use Rattle.std.proofs.Common.{arith}

pub returns : goal.returns
returns g c =
    let w = within _ c.args.area c.min-room.result c.args.out.now c.outcome.new.out _ _ (omega (arith, c.min-room.ensures)) c.told-out
    (concluding_clipped g.S.Suite.macs g.met.S.Suite.twelve c.args.subscriber c.args.segment.now c.args.area (state_of c.args.self.now) c.args.outcome) c.outcome.ensures.machine c.outcome.auto.out in
    record { machine = w.0; wrote = w.1; stays = c.outcome.ensures.stays }
