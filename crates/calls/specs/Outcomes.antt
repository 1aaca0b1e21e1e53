-- The line that concludes a registration.
use Rattle.std.specs.Prelude.{ℕ, cond, List, None, Some, codes, Option}
use Rattle.calls.specs.declared.line.CallLine.{CallLine}
use Rattle.calls.specs.declared.line.CallLine.TheVariants.{Conclude}
use Rattle.procedure.specs.declared.message.Outcome.{Outcome}
use Rattle.procedure.specs.declared.message.Outcome.TheVariants as outcome
use Rattle.calls.specs.declared.outcomes.Kind.{Kind}
use Rattle.calls.specs.declared.outcomes.Kind.TheVariants.{OtherFailure, Success, UserFailure}
use Rattle.script.specs.Hex.{bytes_of}
use Rattle.script.specs.Words.{ended, field, number16, number32}
use Rattle.std.specs.Str.{bytes_eq}

--   SEGMENT AREA
abbrev pub told_line : ℕ → Outcome → List (List ℕ) → Option (CallLine (List ℕ))
told_line s o ws = field bytes_of ws (λ segment ws. field number32 ws (λ area ws. ended (Conclude s o segment area) ws))

--   TIMER MASK SEGMENT AREA
abbrev pub success_line : ℕ → List (List ℕ) → Option (CallLine (List ℕ))
success_line s ws = field number32 ws (λ timer ws. field number16 ws (λ mask ws. told_line s (outcome.Success timer mask) ws))

-- the kind of outcome that a word names
abbrev pub kind_of : List ℕ → Option Kind
kind_of w =
    cond (bytes_eq w (codes "success")) (Some Success)
    (cond (bytes_eq w (codes "user-failure")) (Some UserFailure)
    (cond (bytes_eq w (codes "other-failure")) (Some OtherFailure) None))

-- an outcome of a kind
abbrev pub conclude_by : ℕ → Kind → List (List ℕ) → Option (CallLine (List ℕ))
conclude_by s Success ws = success_line s ws
conclude_by s UserFailure ws = told_line s outcome.UserFailure ws
conclude_by s OtherFailure ws = told_line s outcome.OtherFailure ws

abbrev pub conclude_as : ℕ → List (List ℕ) → Option (CallLine (List ℕ))
conclude_as s ws = field kind_of ws (conclude_by s)

--   outcome SUB success ..   outcome SUB user-failure ..   outcome SUB other-failure ..
abbrev pub conclude_line : List (List ℕ) → Option (CallLine (List ℕ))
conclude_line ws = field number32 ws conclude_as
