use Rattle.proxy.proofs.Housed.{row_housed}
use Rattle.proxy.proofs.proxy.Proxy.challenge.Goals as goal
use Rattle.registration.proofs.Closures.{challenged_keeps}
use Rattle.std.proofs.Common.{ap}

pub invariant_of-self : goal.invariant_of-self
invariant_of-self g c =
    record { housed = row_housed _ _ _ _ (ap (λ w. w.0) c.challenge.ensures) (challenged_keeps _ _ _ _ _ _ _ _ _ (λ p own. own)) c.args.self.now.housed }
