-- Every set stands in the row whose block its proxy's SPI is from: that is why a packet's row can be computed from its
-- SPI.
use Rattle.association.specs.declared.set.Set.{Set}
use Rattle.procedure.specs.declared.stage.Stage.{Stage}
use Rattle.procedure.specs.declared.stage.Stage.TheVariants as stage
use Rattle.std.specs.Coded.{Coded-set, Unit-prop, coded_ℕ, le_prop}
use Rattle.std.specs.Prelude.{◌≡◌, ℕ, ◌<◌, ◌≤◌, Some, None, Option}
use Rattle.proxy.specs.Machine.{home_of}
use Rattle.proxy.specs.State.{State, count_of, row_of}
use Rattle.registration.specs.Throughout.{InSlot, InStage, Throughout}
use Rattle.registration.specs.declared.row.Row.{Row}

-- the SPI is of subscriber k's block, and k is one of n subscribers
pub record Own (n k spi : ℕ) : Type 0 where
  pub subscriber : k < n
  pub low : 4096 ≤ spi
  pub home : home_of spi ≡ k

-- of row k, every set's proxy's SPI and the one that a running procedure chose are of subscriber k's block
abbrev pub HousedAt : ℕ → ℕ → Row → Type 0
HousedAt n k r = Throughout (λ x. Own n k x.own_spi) (λ p. Own n k p.own_spi) r

pub record Housed (σ : State) : Type 0 where
  pub rows : (k : ℕ) → HousedAt (count_of σ) k (row_of σ k)

-- a state is housed in one way only, as the proxy's type asks
own_prop : (n k spi : ℕ) → IsProp (Own n k spi)
own_prop n k spi = hlevel (le_prop, Coded-set coded_ℕ)

slot_prop : (n k : ℕ) (o : Option Set) → IsProp (InSlot (λ x. Own n k x.own_spi) o)
slot_prop n k None = Unit-prop
slot_prop n k (Some x) = own_prop n k x.parameters.own_spi

stage_prop : (n k : ℕ) (z : Stage) → IsProp (InStage (λ p. Own n k p.own_spi) z)
stage_prop n k stage.None = Unit-prop
stage_prop n k (stage.Offered p d) = own_prop n k p.own_spi
stage_prop n k (stage.Challenged p) = own_prop n k p.own_spi
stage_prop n k (stage.Answered p) = own_prop n k p.own_spi

pub housed_prop : (σ : State) → IsProp (Housed σ)
housed_prop σ = hlevel (slot_prop, stage_prop)
