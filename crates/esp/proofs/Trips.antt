-- What was sealed opens again as its segment.
use Rattle.std.proofs.Common.{◌≡◌, ℕ, ◌+◌, ◌-◌, ◌*◌, ◌/◌, ◌%◌, ◌^◌, ◌<◌, ◌≤◌, true, List, [], ◌∷◌, ◌++◌, length, get_or, take, drop, Ok, sym, refl, ap, ◌∙◌, arith}
use Rattle.esp.proofs.Packets.{covered_long}
use Rattle.esp.proofs.Questions.{accepted}
use Rattle.esp.proofs.Trailers.{all_right, unwrapped_right}
use Rattle.esp.specs.Opening.{OpensAs, unwrapped}
use Rattle.esp.specs.Packet.{be32, covered, pad_count, padding, sealed}
use Rattle.esp.specs.Reading.{next_header_of, number_of, packet_right, pad_length_of, padding_of, segment_length_of, segment_of, spi_of}
use Rattle.esp.specs.Window.{passing}
use Rattle.std.proofs.lemmas.Nat.{mod-pow-add}
use Rattle.std.proofs.lemmas.List.FromFn.{length-range_with_len}
use Rattle.std.proofs.lemmas.Slice.Eq.{bytes_eq-Decides}
use Rattle.std.proofs.lemmas.List.{append_assoc, drop_at, get_or_at, length-append, take_at}
use Rattle.std.proofs.lemmas.Bool.{and_from, eq-eqb, le-leb}
use Rattle.std.specs.Str.{bytes_eq}
use lib.Pow.{recompose}

-- a number by its highest byte and what is left, three times
sum_of_four : (a b c d x n y : ℕ) → a + x ≡ n → x ≡ b + y → y ≡ c + d → a + b + c + d ≡ n
sum_of_four a b c d x n y h k l = omega arith

-- the four bytes of a number give it back
word_back : (n : ℕ) → n < 2 ^ 32
    → (n / 16777216 % 256) * 16777216 + (n / 65536 % 256) * 65536 + (n / 256 % 256) * 256 + n % 256 ≡ n
word_back n h =
    let a : (n / 16777216 % 256) * 16777216 + n % 16777216 ≡ n = recompose 8 24 h in
    let b : n % 16777216 ≡ (n / 65536 % 256) * 65536 + n % 65536 = mod-pow-add n 8 16 in
    let c : n % 65536 ≡ (n / 256 % 256) * 256 + n % 256 = mod-pow-add n 8 8 in
    sum_of_four _ _ _ _ _ n _ a b c

-- a part of joined bytes, and one byte of them
part_back : (whole front part rest : List ℕ) (i k : ℕ) → whole ≡ front ++ (part ++ rest) → length front ≡ i → length part ≡ k
    → take k (drop i whole) ≡ part
part_back whole front part rest i k e l h = rw (e, drop_at front (part ++ rest) i l) (take_at part rest k h)

byte_back : (whole front : List ℕ) (x : ℕ) (rest : List ℕ) (i : ℕ) → whole ≡ front ++ (x ∷ rest) → length front ≡ i → get_or whole i 0 ≡ x
byte_back whole front x rest i e l = rw e (get_or_at front x rest 0 i l)

-- a tag after what it covers is the tag of what it covers
tag_back : (mac : List ℕ → List ℕ → List ℕ) (ik text : List ℕ) (k : ℕ) → length text ≡ k
    → bytes_eq (drop k (text ++ mac ik text)) (mac ik (take k (text ++ mac ik text))) ≡ true
tag_back mac ik text k l =
    (bytes_eq-Decides _ _).1 (drop_at text (mac ik text) k l ∙ ap (mac ik) (sym (take_at text (mac ik text) k l)))

-- the length of a packet that carries n bytes is right
length_fits : (n : ℕ) → 8 ≤ n → n ≤ 1400 → packet_right (n + pad_count n + 22) ≡ true
length_fits n h1 h2 =
    and_from _ _ (le-leb 32 (n + pad_count n + 22) (omega arith))
    (and_from _ _ (le-leb (n + pad_count n + 22) 1424 (omega arith)) (eq-eqb ((n + pad_count n + 22) % 4) 0 (omega arith)))

-- a packet with any tag of 12 bytes
module _ (spi q : ℕ) (segment tag : List ℕ) (lt : length tag ≡ 12) (h1 : 8 ≤ length segment) (h2 : length segment ≤ 1400) where
  abbrev whole : List ℕ
  whole = covered spi q segment ++ tag

  abbrev n : ℕ
  n = length segment

  abbrev k : ℕ
  k = pad_count (length segment)

  whole_long : length whole ≡ n + k + 22
  whole_long = length-append (covered spi q segment) tag ∙ omega (arith, covered_long spi q segment, lt)

  -- the parts in a row: after the segment, after the padding, and after the pad length
  abbrev head : List ℕ
  head = be32 spi ++ be32 q

  abbrev upto_padding : List ℕ
  upto_padding = head ++ segment

  abbrev upto_trailer : List ℕ
  upto_trailer = upto_padding ++ padding k

  row : whole ≡ head ++ (segment ++ (padding k ++ (k ∷ 17 ∷ tag)))
  unfolding covered
  row = simp append_assoc

  padding_row : whole ≡ upto_padding ++ (padding k ++ (k ∷ 17 ∷ tag))
  padding_row = row

  trailer_row : whole ≡ upto_trailer ++ (k ∷ 17 ∷ tag)
  trailer_row = padding_row ∙ sym (append_assoc upto_padding (padding k) (k ∷ 17 ∷ tag))

  header_row : whole ≡ (upto_trailer ++ (k ∷ [])) ++ (17 ∷ tag)
  header_row = trailer_row ∙ sym (append_assoc upto_trailer (k ∷ []) (17 ∷ tag))

  trailer_at : length upto_trailer ≡ length whole - 14
  trailer_at = length-append upto_padding (padding k) ∙ omega (arith, whole_long, length-range_with_len 1 k)

  -- SPI and number
  spi_back : spi < 2 ^ 32 → spi_of whole ≡ spi
  spi_back h = rw row (word_back spi h)

  number_back : q < 2 ^ 32 → number_of whole ≡ q
  number_back h = rw row (word_back q h)

  -- the trailer
  pads_back : pad_length_of whole ≡ k
  pads_back = byte_back whole upto_trailer k (17 ∷ tag) (length whole - 14) trailer_row trailer_at

  header_back : next_header_of whole ≡ 17
  header_back =
      byte_back whole (upto_trailer ++ (k ∷ [])) 17 tag (length whole - 13) header_row
      (length-append upto_trailer (k ∷ []) ∙ omega (arith, trailer_at, whole_long))

  long_back : segment_length_of whole ≡ n
  long_back = omega (arith, whole_long, pads_back)

  segment_back : segment_of whole ≡ segment
  segment_back = rw long_back (part_back whole head segment (padding k ++ (k ∷ 17 ∷ tag)) 8 n row refl refl)

  padding_back : padding_of whole ≡ padding k
  padding_back =
      let cut : length whole - 22 - k ≡ n = omega (arith, whole_long) in
      rw (pads_back, cut)
      (part_back whole upto_padding (padding k) (k ∷ 17 ∷ tag) (8 + n) k padding_row (omega arith) (length-range_with_len 1 k))

  padding_same : bytes_eq (padding_of whole) (padding (pad_length_of whole)) ≡ true
  padding_same = rw (padding_back, pads_back) ((bytes_eq-Decides (padding k) (padding k)).1 refl)

  segment_opens : unwrapped whole ≡ Ok (segment, 8)
  segment_opens =
      unwrapped_right whole (all_right whole header_back (omega (arith, long_back)) (omega (arith, long_back)) padding_same)
      ∙ ap (λ (x : List ℕ). Ok (x, 8)) segment_back

-- a sealed packet opens as its segment, by every window that lets its number pass
pub trip : (mac : List ℕ → List ℕ → List ℕ) (ik : List ℕ) (spi q : ℕ) (segment : List ℕ)
    → length (mac ik (covered spi q segment)) ≡ 12 → spi < 2 ^ 32 → q < 2 ^ 32 → 8 ≤ length segment → length segment ≤ 1400
    → OpensAs mac ik spi q segment (sealed mac ik spi q segment)
unfolding sealed
trip mac ik spi q segment l hs hq h1 h2 w p =
    let text = covered spi q segment in
    let tag = mac ik text in
    let b = text ++ tag in
    let m = whole_long spi q segment tag l h1 h2 in
    let number = number_back spi q segment tag l h1 h2 hq in
    let at : length text ≡ length b - 12 = omega (arith, m, covered_long spi q segment) in
    accepted mac ik spi w b (ap packet_right m ∙ length_fits (length segment) h1 h2) (spi_back spi q segment tag l h1 h2 hs)
    (ap (passing w) number ∙ p) (tag_back mac ik text (length b - 12) at)
    ∙ rw (segment_opens spi q segment tag l h1 h2, number)
