use Rattle.association.specs.Asked.{pair_is}
use Rattle.proxy.proofs.Tables.{beside, beside_any}
use Rattle.proxy.proofs.proxy.Proxy.is_taken_beside.Goals as goal
use Rattle.std.proofs.Common.{◌∙◌, rules, tests, arith}
use Rattle.std.proofs.lemmas.Iterator.{YieldsList-from_slice}
use Rattle.std.proofs.lemmas.Iterator.Consumers.{YieldsList-from_enumerate}
use Rattle.std.proofs.lemmas.Iterator.Search.{any_from_yields_List}

pub returns : goal.returns
returns c =
    let f = pair_is c.args.pair.address c.args.pair.port in
    any_from_yields_List (beside f c.args.place) _ _ c.any.result c.any.ensures.ran
    (YieldsList-from_enumerate (YieldsList-from_slice c.args.self.now.rows.now (cc)) (search rules)) (λ x b q k. search (rules, tests))
    ∙ beside_any f c.args.place 0 c.args.place c.args.self.now.rows.now (omega arith)
