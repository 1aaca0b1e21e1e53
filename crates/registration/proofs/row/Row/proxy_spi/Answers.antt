use Rattle.std.proofs.Common.{◌≡◌, ◌+◌, ◌*◌, true, false, rules, tests, ap, ◌∙◌}
use Rattle.std.proofs.lemmas.Iterator.{first_from_Range}
use Rattle.registration.proofs.Frees.{found}
use Rattle.registration.specs.Entering.{in_use, lowest_free, proxy_spi}
use Rattle.registration.proofs.row.Row.proxy_spi.Goals as goal

pub returns : goal.returns
unfolding proxy_spi
returns c =
    let used = in_use c.args.offered c.args.self.now in
    let first = 4096 + 16 * c.from.result in
    c.unwrap_or.ensures
    ∙ found used 15 first c.find.result
    (first_from_Range _ _ _ _ (λ i. used i ≡ false) (λ i. used i ≡ true) c.find.ensures.ran
    (λ x q k. search (rules, tests))
    (λ x q k. (search rules, search (rules, tests))))
    ∙ ap (λ s. lowest_free used 15 (4096 + 16 * s)) c.from.ensures
