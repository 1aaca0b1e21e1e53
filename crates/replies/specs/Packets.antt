-- The bytes of a packet that a script gives, and what the product's packet layer makes of a segment or a packet.
use Rattle.std.specs.Prelude.{ℕ, ◌-◌, List, Some, None, Option, Result, bit_xor, slice_index, slice_set}
use Rattle.esp.specs.Opening.{Opening, opening}
use Rattle.esp.specs.Sealing.{Sealing, sealing}
use Rattle.esp.specs.declared.association.Association.{Association}
use Rattle.esp.specs.declared.faults.Fault.{Fault}
use Rattle.esp.specs.declared.window.ReplayWindow.{ReplayWindow}
use Rattle.integrity.specs.Algorithms.{mac_by}
use Rattle.product.specs.Product.{macs}
use Rattle.script.specs.declared.packet.Packet.{Packet}
use Rattle.script.specs.declared.packet.Source.{Source}
use Rattle.script.specs.declared.packet.Source.TheVariants.{Bytes, Sealed}
use Rattle.std.specs.Result.{result_map_both}

-- a segment sealed under the count after `count`, into an area of so many bytes
abbrev pub sealing_to : Association → ℕ → List ℕ → ℕ → Sealing
sealing_to to count segment area = sealing (mac_by macs to.algorithm) to.ik to.spi count segment area

-- the packet that a sealing wrote, or why it wrote none
abbrev pub packet_of : Sealing → Result (List ℕ) Fault
packet_of s = result_map_both (λ _. s.written) (λ e. e) s.result

-- a packet opened under a replay window
abbrev pub opening_from : Association → ReplayWindow → List ℕ → Opening
opening_from from w packet = opening (mac_by macs from.algorithm) from.ik from.spi w packet

-- the packet that carries the number q is sealed under the count before it
abbrev pub source_bytes : Source (List ℕ) → List ℕ
source_bytes (Bytes bs) = bs
source_bytes (Sealed to q segment) = (sealing_to to (q - 1) segment 1424).written

-- the lowest bit of the byte at a place turned, if there is a place
abbrev pub flipped : Option ℕ → List ℕ → List ℕ
flipped None bs = bs
flipped (Some at) bs = slice_set bs at (bit_xor (slice_index bs at) 1)

abbrev pub packet_bytes : Packet (List ℕ) → List ℕ
packet_bytes p = flipped p.flip (source_bytes p.source)
