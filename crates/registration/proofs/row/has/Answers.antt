use Rattle.std.proofs.Common.{refl, sym, ap, ◌∙◌}
use Rattle.registration.specs.Rows.{passes}
use Rattle.registration.proofs.row.has.Goals as goal

pub returns-in-Some : goal.returns-in-Some
returns-in-Some g c f told =
    told c.in-Some.set c.is_such.result (record { shown = _; shows = refl; says = record { met = c.is_such.ensures } })
    ∙ sym (ap (passes f) c.in-Some.is)
