-- Opening puts every set into the row of its block, and every call keeps it there.
use Rattle.std.proofs.Common.{◌≡◌, ℕ, zero, suc, ◌+◌, ◌<◌, ◌≤◌, min, Bool, true, false, cond, ◌&&◌, ◌||◌, eqb, ltb, leb, List, map, length, get_or, set, Some, None, Err, Option, Result, sym, refl, ap, ◌∙◌, subst, inl, inr, arith, length-set}
use Rattle.integrity.specs.Algorithms.{Macs}
use Rattle.association.specs.Asked.{Address, own_is}
use Rattle.association.specs.declared.faults.Fault.TheVariants.{NoSet}
use Rattle.association.specs.declared.set.Parameters.{Parameters}
use Rattle.association.specs.declared.set.Set.{Set}
use Rattle.esp.proofs.Asks.{ask_no, ask_yes}
use Rattle.esp.specs.Asking.{asked}
use Rattle.esp.specs.Reading.{packet_right, spi_of}
use Rattle.proxy.proofs.Owners.{owner_none, owner_one, rows_set}
use Rattle.proxy.specs.Housing.{Housed, HousedAt, Own}
use Rattle.proxy.specs.Machine.{arriving, at_time, arriving_wide, emptied, home_of, homed, owner, received_at, wrong_length}
use Rattle.proxy.specs.State.{State, count_of, put_row, row_of}
use Rattle.registration.proofs.Closures.{aged_keeps}
use Rattle.registration.specs.Entering.{block_of, in_use, lowest_free, proxy_spi}
use Rattle.registration.specs.Keeping.{aged}
use Rattle.procedure.specs.Offers.{serves}
use Rattle.registration.specs.Receiving.{Heard, received}
use Rattle.registration.specs.Rows.{blank, in_row, passes, slot_for}
use Rattle.registration.specs.Throughout.{InSlot}
use Rattle.procedure.specs.declared.faults.Fault.{Fault}
use Rattle.procedure.specs.declared.faults.Fault.TheVariants.{Association}
use Rattle.procedure.specs.declared.message.Message.{Message}
use Rattle.registration.specs.declared.row.Row.{Row}
use Rattle.procedure.specs.declared.service.Service.{Service}
use Rattle.std.proofs.lemmas.List.{set-get_or}
use Rattle.std.proofs.lemmas.Bool.{and_parts, both_ways, cases_Bool, cond_both, eqb-true, le-leb, le-ltb, lt-ltb, ltb-true, or_parts}
use lib.ListN.{get_or-map, length-map}

-- the number of subscribers depends on the number of rows alone
count_by : (σ : State) (rows : List Row) → length rows ≡ length σ.rows
    → count_of (record { rows = rows; service = σ.service }) ≡ count_of σ
count_by σ rows e = ap (λ n. cond (serves σ.service.algorithms) (min n 4096) 0) e

put_housed : (σ : State) (s : ℕ) (r : Row) → HousedAt (count_of σ) s r → Housed σ → Housed (put_row σ s r)
put_housed σ s r q h =
    let e : count_of (put_row σ s r) ≡ count_of σ = count_by σ (set σ.rows s r) (length-set σ.rows s r) in
    record {
      rows = subst (λ n. (k : ℕ) → HousedAt n k (get_or (set σ.rows s r) k blank)) (sym e)
          (rows_set (HousedAt (count_of σ)) σ.rows s r h.rows q);
    }

-- a call writes one row, and keeps it housed
pub row_housed : (σ : State) (s : ℕ) (r w : Row) → r ≡ w → (HousedAt (count_of σ) s (row_of σ s) → HousedAt (count_of σ) s w)
    → Housed σ → Housed (put_row σ s r)
row_housed σ s r w e f h = put_housed σ s r (subst (HousedAt (count_of σ) s) (sym e) (f (h.rows s))) h

-- the SPI that is chosen is of the block
in_block : (used : ℕ → Bool) (k q : ℕ) → (q ≤ lowest_free used k q) × (lowest_free used k q ≤ q + k)
unfolding lowest_free
in_block used zero q = (omega arith, omega arith)
in_block used (suc k) q =
    let ih = in_block used k (q + 1) in
    cond_both (used q) (lowest_free used k (q + 1)) q (λ (z : ℕ). (q ≤ z) × (z ≤ q + suc k)) (λ _. (omega arith, omega arith)) (λ _. (omega arith, omega arith))

pub chosen_own : (n s offered : ℕ) (r : Row) → s < n → Own n s (proxy_spi s offered r)
unfolding proxy_spi
chosen_own n s offered r lt =
    let b = in_block (in_use offered r) 15 (block_of s) in
    record { subscriber = lt; low = omega (arith, b.0); home = omega (arith, b.0, b.1) }

-- opening empties all rows
pub emptied_housed : (old rows : List Row) (v : Service) → rows ≡ map emptied old → Housed (record { rows = rows; service = v })
emptied_housed old rows v e =
    let blank_housed : (k : ℕ) → HousedAt (count_of (record { rows = rows; service = v })) k (get_or rows k blank)
    = λ k. subst (HousedAt _ k) (sym (ap (λ z. get_or z k blank) e ∙ get_or-map emptied old k blank))
    (record { old = tt; current = tt; registration = tt; stage = tt }) in
    record { rows = blank_housed }

-- time works on all rows
aged_blank : (t : ℕ) → aged t blank ≡ blank
unfolding aged
aged_blank t = refl

pub aged_housed : (t : ℕ) (σ : State) (rows : List Row) → rows ≡ map (aged t) σ.rows
    → Housed σ → Housed (record { rows = rows; service = at_time t σ.service })
aged_housed t σ rows e h =
    let n : count_of (record { rows = rows; service = at_time t σ.service }) ≡ count_of σ = rw (e, length-map σ.rows (aged t)) in
    record {
      rows = λ k. rw (n, e, ← aged_blank t, get_or-map (aged t) σ.rows k blank) (aged_keeps _ _ t (row_of σ k) (h.rows k));
    }

-- Where every set stands in the row of its block, the row computed from the SPI is the one that has the set.
slot_own : (a : Address) (spi : ℕ) (n k : ℕ) (o : Option Set) → InSlot (λ x. Own n k x.own_spi) o → passes (own_is a spi) o ≡ true → Own n k spi
slot_own a spi n k None p e = absurd (both_ways false refl e)
slot_own a spi n k (Some x) p e =
    let q = and_parts (eqb x.parameters.address.1 a.1) (eqb x.parameters.own_spi spi)
    (and_parts (eqb x.parameters.address.0 a.0) (eqb x.parameters.address.1 a.1 && eqb x.parameters.own_spi spi) e).1 in
    subst (Own n k) (eqb-true x.parameters.own_spi spi q.1) p

row_own : (a : Address) (spi n k : ℕ) (r : Row) → HousedAt n k r → in_row (own_is a spi) r ≡ true → Own n k spi
row_own a spi n k r h e =
    let f = own_is a spi in
    elim (cases_Bool (passes f r.slots.old)) [
      | inl x ↦ slot_own a spi n k r.slots.old h.old x
      | inr x ↦ elim (cases_Bool (passes f r.slots.current)) [
        | inl y ↦ slot_own a spi n k r.slots.current h.current y
        | inr y ↦ slot_own a spi n k r.slots.registration h.registration
            (sym (ap (λ b. b || (passes f r.slots.current || passes f r.slots.registration)) x
            ∙ ap (λ b. b || passes f r.slots.registration) y) ∙ e)
      ]
    ]

-- a row that is not the SPI's own has no such set
no_other : (a : Address) (spi : ℕ) (σ : State) (k : ℕ) → Housed σ → (Own (count_of σ) k spi → ⊥) → in_row (own_is a spi) (row_of σ k) ≡ false
no_other a spi σ k h no_own =
    elim (cases_Bool (in_row (own_is a spi) (row_of σ k))) [
      | inl e ↦ absurd (no_own (row_own a spi (count_of σ) k (row_of σ k) (h.rows k) e))
      | inr e ↦ e
    ]

no_slot : (f : Parameters → Bool) (r : Row) → in_row f r ≡ false → slot_for f r ≡ None
no_slot f r e =
    let p = or_parts (passes f r.slots.old) (passes f r.slots.current || passes f r.slots.registration) e in
    let q = or_parts (passes f r.slots.current) (passes f r.slots.registration) p.1 in
    rw (p.0, q.0, q.1)

count_rows : (σ : State) → count_of σ ≤ length σ.rows
count_rows σ = cond_both (serves σ.service.algorithms) (min (length σ.rows) 4096) 0 (λ (n : ℕ). n ≤ length σ.rows) (λ _. omega arith) (λ _. omega arith)

-- the packet's set is looked for in the row of its SPI's block, and found where it stands in the table
module _ (m : Macs) (a : Address) (b : List ℕ) (w : Message) (σ : State) (h : Housed σ) where
  abbrev nowhere : State × Result Heard Fault
  nowhere = (σ, Err (Association NoSet))

  -- in the row, or in none
  at_home : homed (spi_of b) σ ≡ true → owner (own_is a (spi_of b)) σ.rows
      ≡ cond (in_row (own_is a (spi_of b)) (row_of σ (home_of (spi_of b)))) (home_of (spi_of b)) (length σ.rows)
  at_home e =
      owner_one (own_is a (spi_of b)) σ.rows (home_of (spi_of b))
      (λ k ne. no_other a (spi_of b) σ k h (λ own. ne (sym own.home)))

  homeless : homed (spi_of b) σ ≡ false → owner (own_is a (spi_of b)) σ.rows ≡ length σ.rows
  homeless e =
      owner_none (own_is a (spi_of b)) σ.rows
      (λ k. no_other a (spi_of b) σ k h
      (λ own. both_ways (homed (spi_of b) σ) e
      (let l : leb 4096 (spi_of b) ≡ true = le-leb 4096 (spi_of b) own.low in
      let t : ltb (home_of (spi_of b)) (count_of σ) ≡ true = lt-ltb _ _ (subst (λ j. j < count_of σ) (sym own.home) own.subscriber) in
      rw (l, t))))

  nobody : owner (own_is a (spi_of b)) σ.rows ≡ length σ.rows
      → asked (ltb (owner (own_is a (spi_of b)) σ.rows) (length σ.rows)) nowhere (received_at m a b w (owner (own_is a (spi_of b)) σ.rows) σ) ≡ nowhere
  nobody e = ask_no _ nowhere _ (rw e (le-ltb (length σ.rows) (length σ.rows) (omega arith)))

  -- a row without the set answers that there is none, and stays
  not_there : in_row (own_is a (spi_of b)) (row_of σ (home_of (spi_of b))) ≡ false → received_at m a b w (home_of (spi_of b)) σ ≡ nowhere
  unfolding received
  not_there e =
      rw (no_slot (own_is a (spi_of b)) (row_of σ (home_of (spi_of b))) e)
      (ap (λ rows. (record { rows = rows; service = σ.service }, Err (Association NoSet))) (set-get_or σ.rows (home_of (spi_of b)) blank))

  looked_up : asked (homed (spi_of b) σ) nowhere (received_at m a b w (home_of (spi_of b)) σ)
      ≡ asked (ltb (owner (own_is a (spi_of b)) σ.rows) (length σ.rows)) nowhere (received_at m a b w (owner (own_is a (spi_of b)) σ.rows) σ)
  looked_up =
      elim (cases_Bool (homed (spi_of b) σ)) [
        | inl yes_home ↦ elim (cases_Bool (in_row (own_is a (spi_of b)) (row_of σ (home_of (spi_of b))))) [
          | inl there ↦
              let o : owner (own_is a (spi_of b)) σ.rows ≡ home_of (spi_of b)
              = at_home yes_home ∙ ap (λ t. cond t (home_of (spi_of b)) (length σ.rows)) there in
              let lt : home_of (spi_of b) < length σ.rows
              = omega (arith, count_rows σ, ltb-true (home_of (spi_of b)) (count_of σ) (and_parts (leb 4096 (spi_of b)) (ltb (home_of (spi_of b)) (count_of σ)) yes_home).1) in
              ask_yes _ nowhere _ yes_home
              ∙ sym (ap (λ k. asked (ltb k (length σ.rows)) nowhere (received_at m a b w k σ)) o
              ∙ ask_yes _ nowhere _ (lt-ltb (home_of (spi_of b)) (length σ.rows) lt))
          | inr gone ↦
              ask_yes _ nowhere _ yes_home ∙ not_there gone
              ∙ sym (nobody (at_home yes_home ∙ ap (λ t. cond t (home_of (spi_of b)) (length σ.rows)) gone))
        ]
        | inr no_home ↦ ask_no _ nowhere _ no_home ∙ sym (nobody (homeless no_home))
      ]

pub arriving_wide_same : (m : Macs) (a : Address) (b : List ℕ) (w : Message) (σ : State) → Housed σ → arriving m a b w σ ≡ arriving_wide m a b w σ
unfolding arriving arriving_wide
arriving_wide_same m a b w σ h = ap (λ z. asked (packet_right (length b)) (σ, Err (wrong_length b)) z) (looked_up m a b w σ h)
