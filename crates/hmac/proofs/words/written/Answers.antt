use Rattle.std.proofs.Common.{[], ap, ◌∙◌, rules}
use Rattle.std.specs.List.{flat_map}
use Rattle.hmac.proofs.Orders.{joined_map, mapped}
use Rattle.hmac.proofs.words.written.Goals as goal

pub returns : goal.returns
returns g c =
    let bytes = g.B.ByteOrder.bytes in
    let fours = mapped bytes 0 [] c.map-fours.ensures.items (search rules) (λ x p q y k. search rules) in
    c.copy_from_slice.ensures.after ∙ c.as_flattened.ensures.value ∙ ap (flat_map (λ x. x)) fours ∙ joined_map bytes c.args.words
