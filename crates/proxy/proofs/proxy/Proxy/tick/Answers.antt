use Rattle.proxy.proofs.Housed.{aged_housed}
use Rattle.proxy.proofs.proxy.Proxy.tick.Goals as goal
use Rattle.proxy.specs.Stated.{state_of}
use Rattle.registration.specs.Keeping.{aged}
use Rattle.registration.specs.Rows.{blank}
use Rattle.std.proofs.Common.{◌≡◌, get_or, map, arith, rules}
use Rattle.std.proofs.lemmas.Grind.{common_steps}
use Rattle.std.proofs.lemmas.List.{get_or_default}
use Rattle.std.proofs.lemmas.List.Edits.{map_over_more}

pub loop-row-preserved : goal.loop-row-preserved
loop-row-preserved c =
    let i = c.loop-row.row-index in
    let row = get_or c.loop-row.row-items i blank in
    rw c.expire.ensures (map_over_more (aged c.args.t) _ _ i row (search rules) c.loop-row.invariant (get_or_default c.loop-row.row-items i blank row (search rules)))

pub invariant_of-self-in-loop-row : goal.invariant_of-self-in-loop-row
invariant_of-self-in-loop-row c =
    let e : c.loop-row.row-items ≡ map (aged c.args.t) c.args.self.now.rows.now = grind (arith, common_steps) in
    record { housed = aged_housed c.args.t (state_of c.args.self.now) _ e c.args.self.now.housed }
