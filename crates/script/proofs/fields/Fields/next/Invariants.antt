use Rattle.script.proofs.fields.Fields.next.Given as goal
use Rattle.script.specs.Fields.{left}
use Rattle.script.proofs.Cuts.{room}
use Rattle.std.proofs.Common.{◌≡◌}

-- the same fields are still to come
abbrev pub invariant-loop-self : goal.invariant-loop-self
invariant-loop-self l = left l.self-inside.separator l.self-inside.rest ≡ l.fn.self

abbrev pub decreases-loop-self : goal.decreases-loop-self
decreases-loop-self l = room l.self-inside.rest
