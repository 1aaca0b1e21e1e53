-- Parts written one after another into the front of an area.
use Rattle.std.proofs.Common.{◌≡◌, ℕ, ◌+◌, ◌≤◌, List, [], ◌++◌, length, take, drop, sym, refl, ap, ◌∙◌, arith}
use Rattle.esp.specs.Sealing.{laid}
use Rattle.std.proofs.lemmas.List.{append_assoc, length-append, take_at}
use Rattle.std.proofs.lemmas.Slice.{drop-append-drop}

-- the area, once `area`, has `written` at its front, up to `end`
pub record Written (area written : List ℕ) (end : ℕ) (now : List ℕ) : Type 0 where
  pub holds : now ≡ written ++ drop end area
  pub long : length written ≡ end

-- before the first part
pub nothing : (area : List ℕ) → Written area [] 0 area
nothing area = record { holds = refl; long = refl }

-- one more part after what was written
pub grow : {area written now after part : List ℕ} {at end : ℕ} (q : List ℕ) → Written area written at now → part ≡ q
    → after ≡ take at now ++ (part ++ drop (at + length part) now) → end ≡ at + length part
    → Written area (written ++ q) end after
grow {area} {written} {now} {after} {part} {at} {end} q h p e f =
    let t = take_at written (drop at area) at h.long in
    let k : at ≤ end = omega arith in
    let d = drop-append-drop at area written end k h.long in
    let a = append_assoc written q (drop end area) in
    let g = ap length p in
    record { holds = cc; long = simp length-append (omega arith) }

-- the area as it is left
pub laid_by : {area written now : List ℕ} {end : ℕ} (w : List ℕ) → Written area written end now → written ≡ w → now ≡ laid w area
laid_by {area} {written} {now} {end} w h e = h.holds ∙ ap (λ (n : ℕ). written ++ drop n area) (sym h.long) ∙ ap (λ (x : List ℕ). laid x area) e

-- an area that is left so has just that written
pub written_by : {area now : List ℕ} {end : ℕ} (w : List ℕ) → now ≡ laid w area → length w ≡ end → Written area w end now
written_by {area} {now} {end} w e l = record { holds = e ∙ ap (λ (n : ℕ). w ++ drop n area) l; long = l }

-- up to the end stands what was written
pub front : {area written now : List ℕ} {end : ℕ} → Written area written end now → take end now ≡ written
front {area} {written} {now} {end} h = rw h.holds (take_at written (drop end area) end h.long)
