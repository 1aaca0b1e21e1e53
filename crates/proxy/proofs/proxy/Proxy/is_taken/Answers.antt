use Rattle.association.specs.Asked.{pair_is}
use Rattle.proxy.proofs.proxy.Proxy.is_taken.Goals as goal
use Rattle.proxy.specs.State.{in_table}
use Rattle.registration.specs.Rows.{blank, in_row}
use Rattle.std.proofs.Common.{refl, rules}
use Rattle.std.proofs.lemmas.List.Recursion.{or_is}

pub returns : goal.returns
returns c =
    let f = pair_is c.args.pair.address c.args.pair.port in
    or_is (in_table f) (in_row f) refl (λ _ _. refl) c.args.self.now.rows.now blank _ (search rules) (search rules)
