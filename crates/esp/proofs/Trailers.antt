-- The trailer of a packet, and the segment before it.
use Rattle.std.proofs.Common.{◌≡◌, ℕ, ◌≤◌, true, List, Ok}
use Rattle.esp.specs.Opening.{unwrapped}
use Rattle.esp.specs.Packet.{padding}
use Rattle.esp.specs.Reading.{next_header_of, pad_length_of, padding_of, segment_length_of, segment_of, trailer_right}
use Rattle.std.proofs.lemmas.Bool.{and_from, eq-eqb, le-leb}
use Rattle.std.specs.Str.{bytes_eq}

-- a trailer is right where each part of the test is
pub all_right : (b : List ℕ) → next_header_of b ≡ 17 → 8 ≤ segment_length_of b → segment_length_of b ≤ 1400
    → bytes_eq (padding_of b) (padding (pad_length_of b)) ≡ true → trailer_right b ≡ true
unfolding trailer_right
all_right b h l m e =
    and_from _ _ (eq-eqb (next_header_of b) 17 h)
    (and_from _ _ (and_from _ _ (le-leb 8 (segment_length_of b) l) (le-leb (segment_length_of b) 1400 m)) e)

-- unwrapping, by the test
pub unwrapped_right : (b : List ℕ) → trailer_right b ≡ true → unwrapped b ≡ Ok (segment_of b, 8)
unfolding unwrapped
unwrapped_right b e = rw e
