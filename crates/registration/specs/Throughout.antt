-- What holds of every set of a row, and of its running procedure.
use Rattle.association.specs.declared.set.Parameters.{Parameters}
use Rattle.association.specs.declared.set.Set.{Set}
use Rattle.registration.specs.declared.row.Row.{Row}
use Rattle.procedure.specs.declared.stage.Procedure.{Procedure}
use Rattle.procedure.specs.declared.stage.Stage.{Stage}
use Rattle.procedure.specs.declared.stage.Stage.TheVariants as stage
use Rattle.std.specs.Prelude.{Some, None, Option}

-- P holds of the set in a slot, if there is one
abbrev pub InSlot : (Parameters → Type 0) → Option Set → Type 0
InSlot P None = Unit {0}
InSlot P (Some x) = P x.parameters

-- Q holds of the procedure that runs, if one does
abbrev pub InStage : (Procedure → Type 0) → Stage → Type 0
InStage Q stage.None = Unit {0}
InStage Q (stage.Offered p d) = Q p
InStage Q (stage.Challenged p) = Q p
InStage Q (stage.Answered p) = Q p

pub record Throughout (P : Parameters → Type 0) (Q : Procedure → Type 0) (r : Row) : Type 0 where
  pub old : InSlot P r.slots.old
  pub current : InSlot P r.slots.current
  pub registration : InSlot P r.slots.registration
  pub stage : InStage Q r.stage
