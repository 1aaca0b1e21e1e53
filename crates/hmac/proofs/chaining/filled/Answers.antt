use Rattle.std.proofs.lemmas.List.{drop-replicate}
use Rattle.hmac.proofs.chaining.filled.Goals as goal

pub returns : goal.returns
returns c = simp (drop-replicate, c.copy_from_slice.ensures.after)
