-- What each kind of field says.
use Rattle.std.specs.Prelude.{ℕ, cond, List, [], ◌∷◌, length, Some, None, Option, ◌==◌}
use Rattle.script.specs.Decimal.{number_of}
use Rattle.script.specs.Fields.{first, others}
use Rattle.script.specs.Hex.{bytes_of}
use Rattle.esp.specs.declared.association.Association.{Association}
use Rattle.integrity.specs.Algorithms.{algorithm_by}
use Rattle.integrity.specs.declared.algorithm.Algorithm.{Algorithm}

-- one reading after another: where the first gives nothing, there is nothing
abbrev pub and_then : {X Y : Type 0} → Option X → (X → Option Y) → Option Y
and_then None k = None
and_then (Some x) k = k x

-- a number of 32, 16 or 8 bits
abbrev pub number32 : List ℕ → Option ℕ
number32 w = number_of 4294967295 w

abbrev pub number16 : List ℕ → Option ℕ
number16 w = number_of 65535 w

abbrev pub number8 : List ℕ → Option ℕ
number8 w = number_of 255 w

-- one of the product's two algorithms, by its number
abbrev pub algorithm_of : List ℕ → Option Algorithm
algorithm_of w = and_then (number_of 255 w) algorithm_by

-- an IK: 16 bytes
abbrev pub ik_of : List ℕ → Option (List ℕ)
ik_of w = and_then (bytes_of w) (λ bs. cond (length bs == 16) (Some bs) None)

-- the first of some fields, read as `read` reads it, and then the others
abbrev pub first_as : {X : Type 0} → (List ℕ → Option X) → List (List ℕ) → Option X
first_as read ws = and_then (first ws) read

abbrev pub field : {X Y : Type 0} → (List ℕ → Option X) → List (List ℕ) → (X → List (List ℕ) → Option Y) → Option Y
field read ws k = and_then (first_as read ws) (λ x. k x (others ws))

-- the three fields of an association, and those after them
--   ALG IK SPI
abbrev pub association_of : List (List ℕ) → Option (Association × List (List ℕ))
association_of ws =
    field algorithm_of ws (λ a ws. field ik_of ws (λ k ws. field number32 ws (λ spi ws. Some (record { algorithm = a; ik = k; spi = spi }, ws))))

abbrev pub association : {Y : Type 0} → List (List ℕ) → (Association → List (List ℕ) → Option Y) → Option Y
association ws k = and_then (association_of ws) (λ p. k p.0 p.1)

-- no field is left
abbrev pub no_more : List (List ℕ) → Option (Unit {0})
no_more [] = Some tt
no_more (w ∷ ws) = None

abbrev pub ended : {Y : Type 0} → Y → List (List ℕ) → Option Y
ended y ws = and_then (no_more ws) (λ _. Some y)
