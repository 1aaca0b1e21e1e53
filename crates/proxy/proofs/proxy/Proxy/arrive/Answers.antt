use Rattle.esp.specs.Asking.{asked}
use Rattle.proxy.proofs.Housed.{arriving_wide_same, chosen_own, row_housed}
use Rattle.proxy.proofs.proxy.Proxy.arrive.Goals as goal
use Rattle.proxy.specs.Machine.{arriving}
use Rattle.proxy.specs.State.{count_of}
use Rattle.proxy.specs.Stated.{state_of}
use Rattle.registration.proofs.Closures.{received_keeps}
use Rattle.std.proofs.Common.{arith, ◌<◌, ap, ◌∙◌, rules}

pub invariant_of-self : goal.invariant_of-self
invariant_of-self g c =
    let lt : c.in_ok-i.i < count_of (state_of c.args.self.now) = grind (arith, c.in_ok-i.ensures) in
    record {
      housed = row_housed _ _ _ _ (ap (λ w. w.0) c.receive.ensures)
          (received_keeps _ _ _ _ _ _ _ _ _ _ _ (λ o k alg r. chosen_own _ _ _ _ lt)) c.args.self.now.housed;
    }

pub returns-in_err-new-clause-wide : goal.returns-in_err-new-clause-wide
unfolding arriving asked
returns-in_err-new-clause-wide g c = search rules ∙ arriving_wide_same _ _ _ _ _ c.args.self.now.housed

pub returns-in_err-i-clause-wide : goal.returns-in_err-i-clause-wide
unfolding arriving asked
returns-in_err-i-clause-wide g c = search rules ∙ arriving_wide_same _ _ _ _ _ c.args.self.now.housed

pub returns-clause-wide : goal.returns-clause-wide
unfolding arriving asked
returns-clause-wide g c = search rules ∙ arriving_wide_same _ _ _ _ _ c.args.self.now.housed
