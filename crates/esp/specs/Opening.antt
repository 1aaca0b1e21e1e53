-- What opening does, question by question, and that it gives back what sealing wrote.
use Rattle.std.specs.Prelude.{◌≡◌, ℕ, ◌-◌, true, List, length, Ok, Err, Result, ◌==◌}
use Rattle.esp.specs.Asking.{ask}
use Rattle.esp.specs.Reading.{covered_of, number_of, packet_right, segment_of, spi_of, tag_of, trailer_right}
use Rattle.esp.specs.Window.{noted, passing}
use Rattle.esp.specs.declared.faults.Fault.{Fault}
use Rattle.esp.specs.declared.faults.Fault.TheVariants.{OtherSpi, PacketLength, Replayed, WrongTag, WrongTrailer}
use Rattle.esp.specs.declared.segment.Segment.{Segment}
use Rattle.esp.specs.declared.window.ReplayWindow.{ReplayWindow}
use Rattle.std.specs.Str.{bytes_eq}

-- an answer by what it says: the segment's bytes and their place in the packet, or the fault
abbrev pub shown : Result Segment Fault → Result (List ℕ × ℕ) Fault
shown (Ok s) = Ok (s.bytes.now, s.place)
shown (Err e) = Err e

-- the segment at its place, if what follows it is right
unfoldable pub unwrapped : List ℕ → Result (List ℕ × ℕ) Fault
unwrapped b = ask (trailer_right b) (Err (WrongTrailer (length b - 14))) (Ok (segment_of b, 8))

pub record Opening : Type 0 where
  -- the segment and its place, or why not
  pub result : Result (List ℕ × ℕ) Fault
  -- the replay window after the call
  pub window : ReplayWindow

-- a refusal before the tag is compared leaves the window
abbrev pub stopped : ReplayWindow → Fault → Opening
stopped w fault = record { result = Err fault; window = w }

-- Opening a packet for an SPI. Once the tag is right the number is recorded, whatever the trailer says: the
-- packet came from the holder of the key, and must not come again.
unfoldable pub opening : (List ℕ → List ℕ → List ℕ) → List ℕ → ℕ → ReplayWindow → List ℕ → Opening
opening mac ik spi w b =
    ask (packet_right (length b)) (stopped w (PacketLength (length b)))
    (ask (spi_of b == spi) (stopped w OtherSpi)
    (ask (passing w (number_of b)) (stopped w Replayed)
    (ask (bytes_eq (tag_of b) (mac ik (covered_of b))) (stopped w (WrongTag (length b - 12)))
    (record { result = unwrapped b; window = noted w (number_of b) }))))

-- a packet opens as a segment sent under the number q, by every window that lets q pass
abbrev pub OpensAs : (List ℕ → List ℕ → List ℕ) → List ℕ → ℕ → ℕ → List ℕ → List ℕ → Type 0
OpensAs mac ik spi q segment b =
    (w : ReplayWindow) → passing w q ≡ true
    → opening mac ik spi w b ≡ record { result = Ok (segment, 8); window = noted w q }
