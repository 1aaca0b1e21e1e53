use Rattle.std.proofs.Common.{◌≡◌, true, rules}
use Rattle.esp.proofs.Marks.{passes_by_numbers}
use Rattle.esp.proofs.window.ReplayWindow.passes.Goals as goal
use Rattle.esp.specs.Window.{passing}

pub returns-then-number-self-clause-numbers : goal.returns-then-number-self-clause-numbers
unfolding passing
returns-then-number-self-clause-numbers c =
    let e : true ≡ passing c.args.self.now c.args.number = search rules in passes_by_numbers _ _ _ e
