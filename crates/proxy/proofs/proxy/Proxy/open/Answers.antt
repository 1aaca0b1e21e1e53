use Rattle.proxy.proofs.Housed.{emptied_housed}
use Rattle.proxy.proofs.proxy.Proxy.open.Goals as goal

pub invariant_of-result : goal.invariant_of-result
invariant_of-result c = record { housed = emptied_housed c.args.rows.now _ _ c.clear.ensures }
