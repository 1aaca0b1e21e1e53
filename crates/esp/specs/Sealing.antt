-- What sealing does, question by question.
use Rattle.std.specs.Prelude.{ℕ, ◌+◌, List, [], ◌++◌, length, drop, Ok, Err, Result, nat_le, nat_lt}
use Rattle.esp.specs.Asking.{ask}
use Rattle.esp.specs.Packet.{pad_count, sealed, segment_right}
use Rattle.esp.specs.declared.faults.Fault.{Fault}
use Rattle.esp.specs.declared.faults.Fault.TheVariants.{AreaLength, CounterSpent, SegmentLength}

pub record Sealing : Type 0 where
  -- how many bytes were written, or why not
  pub result : Result ℕ Fault
  -- the send counter after the call
  pub counter : ℕ
  -- what was written, from the front of the output area on
  pub written : List ℕ

-- a refusal writes nothing and leaves the counter
abbrev pub refused_at : ℕ → Fault → Sealing
refused_at counter fault = record { result = Err fault; counter = counter; written = [] }

-- Sealing a segment into an output area of `room` bytes. Each question is asked only where the ones before it
-- were answered yes, and the packet carries the new count.
unfoldable pub sealing : (List ℕ → List ℕ → List ℕ) → List ℕ → ℕ → ℕ → List ℕ → ℕ → Sealing
sealing mac ik spi counter segment room =
    ask (segment_right (length segment)) (refused_at counter (SegmentLength (length segment)))
    (ask (nat_lt counter 4294967295) (refused_at counter CounterSpent)
    (ask (nat_le (length segment + pad_count (length segment) + 22) room) (refused_at counter (AreaLength room))
    (record {
      result = Ok (length segment + pad_count (length segment) + 22);
      counter = counter + 1;
      written = sealed mac ik spi (counter + 1) segment;
    })))

-- an area after something was written at its front: the bytes after it stay
abbrev pub laid : List ℕ → List ℕ → List ℕ
laid written area = written ++ drop (length written) area
