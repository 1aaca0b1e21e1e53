-- The stages by name and number.
use Rattle.std.specs.Prelude.{ℕ}
use Rattle.association.specs.declared.address.Pair.{Pair}
use Rattle.procedure.specs.declared.stage.Phase.{Phase}
use Rattle.procedure.specs.declared.stage.Phase.TheVariants as phase
use Rattle.procedure.specs.declared.stage.Procedure.{Procedure}
use Rattle.procedure.specs.declared.stage.Stage.{Stage}
use Rattle.procedure.specs.declared.stage.Stage.TheVariants as stage

-- 0 none, 1 offered, 2 challenged, 3 answered
abbrev pub phase_number : Phase → ℕ
phase_number phase.None = 0
phase_number phase.Offered = 1
phase_number phase.Challenged = 2
phase_number phase.Answered = 3

abbrev pub phase_of : Stage → Phase
phase_of stage.None = phase.None
phase_of (stage.Offered p d) = phase.Offered
phase_of (stage.Challenged p) = phase.Challenged
phase_of (stage.Answered p) = phase.Answered

-- the address of a procedure and the port of its offer
abbrev pub pair_of : Procedure → Pair
pair_of p = record { address = p.address; port = p.offer.port }
