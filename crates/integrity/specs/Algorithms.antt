-- The two algorithms that a product is put together from, by number and by their meaning alone.
use Rattle.std.specs.Prelude.{◌≡◌, ℕ, cond, List, Some, None, Option, Result, ◌==◌}
use Rattle.integrity.specs.declared.algorithm.Algorithm.{Algorithm}
use Rattle.integrity.specs.declared.algorithm.Algorithm.TheVariants.{One, Two}
use Rattle.integrity.specs.declared.algorithm.UnknownAlgorithm.{UnknownAlgorithm}
use Rattle.std.specs.Option.{ok_or}

-- the tag of a text under an IK, both byte by byte
abbrev pub Mac : Type 0
Mac = List ℕ → List ℕ → List ℕ

pub record Macs : Type 0 where
  pub one : Mac
  pub two : Mac

abbrev pub algorithm_number : Algorithm → ℕ
algorithm_number One = 1
algorithm_number Two = 2

-- the algorithm of a number
abbrev pub algorithm_by : ℕ → Option Algorithm
algorithm_by n = cond (n == 1) (Some One) (cond (n == 2) (Some Two) None)

-- an answer that names the algorithm of a number, or gives the number back
abbrev pub Decodes : ℕ → Result Algorithm UnknownAlgorithm → Type 0
Decodes n r = r ≡ ok_or (algorithm_by n) (record { number = n })

abbrev pub mac_by : Macs → Algorithm → Mac
mac_by m One = m.one
mac_by m Two = m.two
