use Rattle.proxy.proofs.opening.clear.Goals as goal
use Rattle.std.proofs.Common.{length, refl, ◌∙◌}
use Rattle.std.proofs.lemmas.Simd.{splat_is_map}
use Rattle.registration.specs.Rows.{blank}

pub returns : goal.returns
returns c =
    c.fill.ensures.after (λ y e. e) ∙ rw c.new.ensures (splat_is_map c.args.rows.now (length c.args.rows.now) blank refl)
