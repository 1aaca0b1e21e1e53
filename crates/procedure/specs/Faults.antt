-- The number and the place of each refusal. Its tens digit is the layer that asks: 1 the packet, 2 the association,
-- 3 the registration.
use Rattle.std.specs.Prelude.{ℕ}
use Rattle.association.specs.Faults as association
use Rattle.procedure.specs.Stages.{phase_number}
use Rattle.procedure.specs.declared.faults.Fault.{Fault}
use Rattle.procedure.specs.declared.faults.Fault.TheVariants.{Association, NoSubscriber, WrongTime, BadOffer, NoAlgorithm, SpiInUse, PairInUse, WrongStage, CoverGone, BadTerms}

abbrev pub number_of : Fault → ℕ
number_of (Association e) = association.number_of e
number_of NoSubscriber = 31
number_of WrongTime = 32
number_of (BadOffer p) = 33
number_of (NoAlgorithm p) = 34
number_of (SpiInUse p) = 35
number_of (PairInUse p) = 36
number_of (WrongStage p) = 37
number_of (CoverGone p) = 38
number_of (BadTerms p) = 39

-- for 33 to 39 the stage before the call
abbrev pub place_of : Fault → ℕ
place_of (Association e) = association.place_of e
place_of NoSubscriber = 0
place_of WrongTime = 0
place_of (BadOffer p) = phase_number p
place_of (NoAlgorithm p) = phase_number p
place_of (SpiInUse p) = phase_number p
place_of (PairInUse p) = phase_number p
place_of (WrongStage p) = phase_number p
place_of (CoverGone p) = phase_number p
place_of (BadTerms p) = phase_number p
