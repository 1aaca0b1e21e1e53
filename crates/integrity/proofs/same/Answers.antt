use Rattle.std.proofs.Common.{eqb, ap, ◌∙◌, arith, rules}
use Rattle.std.proofs.lemmas.Iterator.{YieldsList-from_slice, YieldsList-from_zip}
use Rattle.std.proofs.lemmas.Iterator.Consumers.{fold_from_yields_List}
use Rattle.integrity.proofs.Differences.{join, same_by_differences}
use Rattle.integrity.proofs.same.Goals as goal

pub returns : goal.returns
returns c =
    let xs = c.args.found.now in
    let ys = c.args.due.now in
    ap (λ d. eqb d 0)
    (fold_from_yields_List _ join 0 c.fold.result c.fold.ensures.ran
    (YieldsList-from_zip (YieldsList-from_slice xs (cc)) (YieldsList-from_slice ys (cc)))
    (λ d p r f k. search rules))
    ∙ same_by_differences xs ys (omega arith)
