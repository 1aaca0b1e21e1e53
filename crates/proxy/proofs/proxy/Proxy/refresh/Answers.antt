use Rattle.proxy.proofs.Housed.{row_housed}
use Rattle.proxy.proofs.proxy.Proxy.refresh.Goals as goal
use Rattle.registration.proofs.Closures.{refreshed_keeps}
use Rattle.std.proofs.Common.{ap}

pub invariant_of-self : goal.invariant_of-self
invariant_of-self c =
    record { housed = row_housed _ _ _ _ (ap (λ w. w.0) c.refresh.ensures) (refreshed_keeps _ _ _ _ _) c.args.self.now.housed }
