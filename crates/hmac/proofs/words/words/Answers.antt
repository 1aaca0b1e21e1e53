use Rattle.std.proofs.Common.{◌≡◌, [], map, length, sym, ap, ◌∙◌, arith, rules}
use Rattle.std.proofs.lemmas.List.{ext_get_or, get_or-map, length-map}
use Rattle.hmac.proofs.Orders.{words_by_fours}
use Rattle.hmac.specs.Words.{word_at}
use Rattle.hmac.proofs.words.words.Goals as goal

pub returns : goal.returns
returns g c =
    let word = g.B.ByteOrder.word in
    let fours = c.as_chunks.result.0.now in
    let long : length fours ≡ 16 = search rules in
    ext_get_or 0 c.loop-i.all (map (λ four. word_at word four 0) fours)
    (c.loop-i.invariant.0 ∙ sym (length-map fours (λ four. word_at word four 0) ∙ long))
    (λ k h. c.loop-i.invariant.1 k (omega arith) ∙ sym (get_or-map (λ four. word_at word four 0) fours k [] 0 (omega arith)))
    ∙ ap (map (λ four. word_at word four 0)) c.as_chunks.ensures.front
    ∙ words_by_fours word c.args.block.now (search rules)
