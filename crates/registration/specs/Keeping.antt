-- Time, refreshing and deregistering, on one row.
use Rattle.std.specs.Prelude.{ℕ, ◌+◌, ◌-◌, Bool, cond, not, ◌&&◌, is_some, Some, None, Ok, Err, Option, Result, ◌==◌, bit_and, count_ones, nat_le}
use Rattle.association.specs.Expiry.{expiry_of, lasting}
use Rattle.association.specs.declared.faults.Fault.TheVariants.{NoImpu, NoTraffic}
use Rattle.association.specs.declared.set.Set.{Set}
use Rattle.esp.specs.Asking.{asked}
use Rattle.registration.specs.Rows.{blank, ended, with_slots}
use Rattle.procedure.specs.Stages.{phase_of}
use Rattle.procedure.specs.declared.faults.Fault.{Fault}
use Rattle.procedure.specs.declared.faults.Fault.TheVariants.{Association, BadTerms}
use Rattle.registration.specs.declared.row.Row.{Row}
use Rattle.procedure.specs.declared.stage.Stage.{Stage}
use Rattle.procedure.specs.declared.stage.Stage.TheVariants as stage
use Rattle.slots.specs.Slots.{expired, raised}
use Rattle.slots.specs.declared.three.Slots.{Slots}

-- a procedure is over at stage 1 when its deadline has come, and at stages 2 and 3 when its set is gone
abbrev pub aged_on : Stage → ℕ → Row → Row
aged_on stage.None t r = r
aged_on (stage.Offered p deadline) t r = cond (nat_le deadline t) (ended r) r
aged_on (stage.Challenged p) t r = cond (is_some r.slots.registration) r (ended r)
aged_on (stage.Answered p) t r = cond (is_some r.slots.registration) r (ended r)

-- the row at the second t: sets that are over go first
unfoldable pub aged : ℕ → Row → Row
aged t r = aged_on r.stage t (with_slots (expired expiry_of t r.slots) r)

-- a timer of 1 to 1,000,000 seconds
abbrev pub timer_right : ℕ → Bool
timer_right timer = nat_le 1 timer && nat_le timer 1000000

-- the expiry that a timer gives at the second t: 30 seconds past it
abbrev pub expiry_after : ℕ → ℕ → ℕ
expiry_after t timer = t + timer + 30

abbrev pub refreshed_to : Row → Slots Set × Option ℕ → Row × Result ℕ Fault
refreshed_to r (z, None) = (with_slots z r, Err (Association NoTraffic))
refreshed_to r (z, Some e) = (with_slots z r, Ok e)

-- refresh at the second t
unfoldable pub refreshed : ℕ → ℕ → Row → Row × Result ℕ Fault
refreshed t timer r =
    asked (timer_right timer) (r, Err (BadTerms (phase_of r.stage)))
    (refreshed_to r (raised expiry_of lasting (expiry_after t timer) r.slots))

-- the IMPUs of a mask that are not in another
abbrev pub without : ℕ → ℕ → ℕ
without mask gone = bit_and mask (65535 - gone)

abbrev pub with_mask : ℕ → Row → Row
with_mask mask r = record { slots = r.slots; mask = mask; stage = r.stage }

-- with no IMPU left all slots are emptied and the procedure ends
abbrev pub remaining : ℕ → Row → Row
remaining mask r = cond (mask == 0) blank (with_mask mask r)

unfoldable pub deregistered : ℕ → Row → Row × Result ℕ Fault
deregistered gone r =
    asked (not (r.mask == 0)) (r, Err (Association NoImpu))
    (remaining (without r.mask gone) r, Ok (count_ones (without r.mask gone)))
