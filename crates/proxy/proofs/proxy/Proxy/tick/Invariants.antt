use Rattle.proxy.proofs.proxy.Proxy.tick.Given as goal
use Rattle.registration.specs.Keeping.{aged}
use Rattle.std.proofs.Common.{◌≡◌, ◌++◌, map, take, drop}

abbrev pub invariant-loop-row : goal.invariant-loop-row
invariant-loop-row l = l.row-items ≡ map (aged l.t) (take l.row-index l.initial.row-items) ++ drop l.row-index l.initial.row-items
