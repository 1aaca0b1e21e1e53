-- An opening REGISTER on one row: its questions, what the proxy chooses, and the stage that it leaves.
use Rattle.std.specs.Prelude.{ℕ, zero, suc, ◌+◌, ◌*◌, Bool, cond, not, ◌||◌, Some, None, Ok, Err, Option, Result, ◌==◌}
use Rattle.association.specs.Asked.{Address, spi_is}
use Rattle.integrity.specs.declared.algorithm.Algorithm.{Algorithm}
use Rattle.esp.specs.Asking.{asked}
use Rattle.procedure.specs.Offers.{common, offer_right}
use Rattle.registration.specs.Rows.{in_row}
use Rattle.procedure.specs.Stages.{phase_of}
use Rattle.procedure.specs.declared.chosen.Chosen.{Chosen}
use Rattle.procedure.specs.declared.faults.Fault.{Fault}
use Rattle.procedure.specs.declared.faults.Fault.TheVariants.{BadOffer, NoAlgorithm, PairInUse, SpiInUse}
use Rattle.procedure.specs.declared.offer.Offer.{Offer}
use Rattle.registration.specs.declared.row.Row.{Row}
use Rattle.procedure.specs.declared.service.Service.{Service}
use Rattle.procedure.specs.declared.stage.Stage.TheVariants.{Offered}
use Rattle.slots.specs.declared.cover.Cover.{Cover}

-- the first of the 16 SPIs that subscriber s has: 4096 + 16 × s
abbrev pub block_of : ℕ → ℕ
block_of s = 4096 + 16 * s

-- the lowest number from q on, at most k further, that is not in use
unfoldable pub lowest_free : (ℕ → Bool) → ℕ → ℕ → ℕ
lowest_free used zero q = q
lowest_free used (suc k) q = cond (used q) (lowest_free used k (q + 1)) q

-- not to be chosen: the offered SPI, and either SPI of a set in the row
abbrev pub in_use : ℕ → Row → ℕ → Bool
in_use offered r q = q == offered || in_row (spi_is q) r

-- the proxy's SPI for an offer of subscriber s: the lowest of his 16 that is free. At most 7 are in use.
unfoldable pub proxy_spi : ℕ → ℕ → Row → ℕ
proxy_spi s offered r = lowest_free (in_use offered r) 15 (block_of s)

-- a REGISTER is to be challenged within 240 seconds
abbrev pub deadline_at : ℕ → ℕ
deadline_at t = t + 240

-- the row in which the procedure of a REGISTER runs from now on; slot 3 stays
abbrev pub offered_in : Service → ℕ → Address → Offer → Cover → Algorithm → Row → Row
offered_in v s a o cover alg r =
    record {
      slots = r.slots;
      mask = r.mask;
      stage = Offered
          (record { offer = o; address = a; algorithm = alg; own_spi = proxy_spi s o.spi r; cover = cover })
          (deadline_at v.clock);
    }

abbrev pub chosen_for : ℕ → Offer → Algorithm → Row → Chosen
chosen_for s o alg r = record { algorithm = alg; spi = proxy_spi s o.spi r }

abbrev pub entered_by : Option Algorithm → Service → ℕ → Bool → Address → Offer → Cover → Row → Row × Result Chosen Fault
entered_by None v s taken a o cover r = (r, Err (NoAlgorithm (phase_of r.stage)))
entered_by (Some alg) v s taken a o cover r =
    asked (not (in_row (spi_is o.spi) r)) (r, Err (SpiInUse (phase_of r.stage)))
    (asked (not taken) (r, Err (PairInUse (phase_of r.stage)))
    (offered_in v s a o cover alg r, Ok (chosen_for s o alg r)))

-- The opening REGISTER of subscriber s from an address, with an offer, under a cover. `taken` says whether the
-- pair of that address and the offered port stands in the table. Is the offer right, is there an algorithm in
-- common, is the SPI new among his sets, is the pair new in the table?
unfoldable pub entered : Service → ℕ → Bool → Address → Offer → Cover → Row → Row × Result Chosen Fault
entered v s taken a o cover r =
    asked (offer_right o) (r, Err (BadOffer (phase_of r.stage))) (entered_by (common v.algorithms o) v s taken a o cover r)
