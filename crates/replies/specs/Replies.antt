-- What is printed for each line of the packet layer, and the replay window that is kept from line to line.
use Rattle.std.specs.Prelude.{ℕ, List, take, Some, None, Ok, Err, Option, Result}
use Rattle.esp.specs.Faults.{number_of, place_of}
use Rattle.esp.specs.Sealing.{Sealing}
use Rattle.esp.specs.Window.{empty}
use Rattle.esp.specs.declared.faults.Fault.{Fault}
use Rattle.esp.specs.declared.window.ReplayWindow.{ReplayWindow}
use Rattle.integrity.specs.Algorithms.{mac_by}
use Rattle.product.specs.Product.{macs}
use Rattle.replies.specs.Packets.{opening_from, packet_bytes, sealing_to}
use Rattle.script.specs.Answers.{fault_text, seal_text, tag_text, unseal_text, window_text}
use Rattle.script.specs.declared.answer.Call.TheVariants.{Seal as SealCall, Unseal as UnsealCall}
use Rattle.script.specs.declared.line.Line.{Line}
use Rattle.script.specs.declared.line.Line.TheVariants.{Seal, Skipped, Tag, Unseal, Window}

-- what a line leads to: the text that is printed, if any, and the window after it
pub record Reply : Type 0 where
  pub text : Option (List ℕ)
  pub window : ReplayWindow

-- what is printed of a sealing, and of an opening
abbrev pub seal_reply : Result ℕ Fault → ℕ → List ℕ → List ℕ
seal_reply (Ok n) count packet = seal_text count packet
seal_reply (Err fault) count packet = fault_text SealCall (number_of fault) (place_of fault)

abbrev pub sealing_reply : Sealing → List ℕ
sealing_reply s = seal_reply s.result s.counter s.written

abbrev pub open_reply : Result (List ℕ × ℕ) Fault → List ℕ
open_reply (Ok segment) = unseal_text segment.1 segment.0
open_reply (Err fault) = fault_text UnsealCall (number_of fault) (place_of fault)

-- the reply to a line of the packet layer. None changes the window but `window` and `unseal`.
abbrev pub reply_to : ReplayWindow → Line (List ℕ) → Reply
reply_to w Skipped = record { text = None; window = w }
reply_to w (Tag a ik text) = record { text = Some (tag_text (mac_by macs a ik (take 4096 text))); window = w }
reply_to w (Seal to count segment area) = record { text = Some (sealing_reply (sealing_to to count segment area)); window = w }
reply_to w Window = record { text = Some window_text; window = empty }
reply_to w (Unseal from packet) = record {
  text = Some (open_reply (opening_from from w (packet_bytes packet)).result);
  window = (opening_from from w (packet_bytes packet)).window;
}
