use Rattle.proxy.proofs.Housed.{chosen_own, row_housed}
use Rattle.proxy.proofs.proxy.Proxy.register.Goals as goal
use Rattle.proxy.specs.State.{count_of}
use Rattle.proxy.specs.Stated.{state_of}
use Rattle.registration.proofs.Closures.{entered_keeps}
use Rattle.std.proofs.Common.{arith, ◌<◌, ap}

pub invariant_of-self : goal.invariant_of-self
invariant_of-self c =
    let lt : c.in_ok-i.i < count_of (state_of c.args.self.now) = grind (arith, c.in_ok-i.ensures) in
    record {
      housed = row_housed _ _ _ _ (ap (λ w. w.0) c.enter.ensures)
          (entered_keeps _ _ _ _ _ _ _ _ _ (λ alg. chosen_own _ _ _ _ lt)) c.args.self.now.housed;
    }
