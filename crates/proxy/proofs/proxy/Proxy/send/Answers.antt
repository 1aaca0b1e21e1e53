use Rattle.proxy.proofs.Housed.{row_housed}
use Rattle.proxy.proofs.proxy.Proxy.send.Goals as goal
use Rattle.registration.proofs.Closures.{sent_keeps}
use Rattle.std.proofs.Common.{ap}

pub invariant_of-self : goal.invariant_of-self
invariant_of-self g c =
    record { housed = row_housed _ _ _ _ (ap (λ w. w.0) c.send.ensures) (sent_keeps _ _ _ _ _ _) c.args.self.now.housed }
