-- Sealing into an area that is cut to what was written.
use Rattle.esp.proofs.Rooms.{refused_writes_nothing, room_enough}
use Rattle.esp.specs.Sealing.{laid}
use Rattle.esp.specs.declared.association.Association.{Association}
use Rattle.esp.specs.declared.faults.Fault.{Fault}
use Rattle.integrity.specs.Algorithms.{mac_by}
use Rattle.product.specs.Product.{macs}
use Rattle.replies.specs.Packets.{packet_of, sealing_to}
use Rattle.std.proofs.Common.{◌≡◌, ℕ, List, [], ◌++◌, length, take, drop, min, Vec, Global, vec_items, Result, Ok, Err, sym, ap, ◌∙◌}
use Rattle.std.proofs.lemmas.List.{take_at}
use Rattle.std.specs.Result.{result_map_both, result_unwrap_or}

-- no packet needs more room than the longest
pub sealed_within : (to : Association) (count : ℕ) (segment : List ℕ) (area room : ℕ) → room ≡ min 1424 area
    → sealing_to to count segment room ≡ sealing_to to count segment area
sealed_within to count segment area room e = room_enough (mac_by macs to.algorithm) to.ik to.spi count segment area room e

-- the first n bytes of what stands in the area's place, where n were written
pub kept : (n len : ℕ) (w area out rest : List ℕ) → n ≡ length w → out ≡ laid w area → length out ≡ len
    → take n (take len (out ++ rest)) ≡ w
kept n len w area out rest few e long =
    ap (take n) (take_at out rest len long ∙ e) ∙ take_at w (drop (length w) area) n (sym few)

written : (r : Result ℕ Fault) (v w : List ℕ) → ◌≡◌ {A = Result (List ℕ) Fault} (Ok v) (result_map_both (λ _. w) (λ f. f) r) → v ≡ w
written (Ok n) v w is = cc
written (Err f) v w is = cc

refused : (r : Result ℕ Fault) (f : Fault) (w : List ℕ) → ◌≡◌ {A = Result (List ℕ) Fault} (Err f) (result_map_both (λ _. w) (λ f. f) r) → Err f ≡ r
refused (Ok n) f w is = cc
refused (Err g) f w is = cc

-- the packet, or no bytes where none was written
pub packet_or_none : (p : Result (Vec ℕ Global) Fault) (empty : Vec ℕ Global) (to : Association) (count : ℕ) (segment : List ℕ) (area : ℕ)
    → vec_items empty ≡ [] → result_map_both vec_items (λ f. f) p ≡ packet_of (sealing_to to count segment area)
    → vec_items (result_unwrap_or p empty) ≡ (sealing_to to count segment area).written
packet_or_none (Ok v) empty to count segment area none is = written (sealing_to to count segment area).result (vec_items v) _ is
packet_or_none (Err f) empty to count segment area none is =
    none ∙ sym (refused_writes_nothing (mac_by macs to.algorithm) to.ik to.spi count segment area f (refused (sealing_to to count segment area).result f _ is))
