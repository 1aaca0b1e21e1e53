-- What the questions of sealing and opening say where each is answered with yes.
use Rattle.std.proofs.Common.{◌≡◌, ℕ, ◌+◌, ◌-◌, ◌%◌, ◌≤◌, true, false, eqb, leb, List, length, take, Some, sym, ap, ◌∙◌, arith}
use Rattle.esp.specs.Opening.{opening, stopped, unwrapped}
use Rattle.esp.specs.Packet.{pad_count, sealed_length, segment_right}
use Rattle.esp.specs.Reading.{Authentic, covered_of, number_of, packet_right, spi_of, tag_of}
use Rattle.esp.specs.Window.{noted, passing}
use Rattle.esp.specs.declared.faults.Fault.TheVariants.{WrongTag}
use Rattle.esp.specs.declared.window.ReplayWindow.{ReplayWindow}
use Rattle.std.proofs.lemmas.Slice.Eq.{bytes_eq-Decides}
use Rattle.std.proofs.lemmas.List.{length-take, take_all}
use Rattle.std.proofs.lemmas.Bool.{and_parts, eq-eqb, leb-true}
use Rattle.std.specs.Str.{bytes_eq}

-- what the packet's length says of the segment's
pub length_right : (n m : ℕ) → Some m ≡ sealed_length n → (segment_right n ≡ true) × (m ≡ n + pad_count n + 22)
length_right n m e = grind arith

pub length_fit : (n : ℕ) → segment_right n ≡ true → (8 ≤ n) × (n ≤ 1400)
length_fit n e = let p = and_parts (leb 8 n) (leb n 1400) e in (leb-true 8 n p.0, leb-true n 1400 p.1)

-- opening a packet of a right length
module _ (mac : List ℕ → List ℕ → List ℕ) (ik : List ℕ) (spi : ℕ) (w : ReplayWindow) (b : List ℕ) where
  module _ (right : packet_right (length b) ≡ true) where
    pub accepted : spi_of b ≡ spi → passing w (number_of b) ≡ true → bytes_eq (tag_of b) (mac ik (covered_of b)) ≡ true
        → opening mac ik spi w b ≡ record { result = unwrapped b; window = noted w (number_of b) }
    unfolding opening
    accepted same passes e = rw (right, eq-eqb (spi_of b) spi same, passes, e)

    -- the same by what was read of the packet: its bytes, its SPI s,
    module _ {bytes : List ℕ} {s : ℕ} (eb : bytes ≡ b) (es : s ≡ spi_of bytes) where
      spi_read : spi_of b ≡ s
      spi_read = rw (es, eb)

      -- its number q,
      module _ {q : ℕ} (same : s ≡ spi) (eq : q ≡ number_of bytes) where
        number_read : number_of b ≡ q
        number_read = rw (eq, eb)

        -- and its tag with the text that the tag covers, all of which the algorithm reads
        module _ {text tag : List ℕ} (passes : true ≡ passing w q) (et : text ≡ covered_of bytes) (eg : tag ≡ tag_of bytes) where
          tag_read : bytes_eq (tag_of b) (mac ik (covered_of b)) ≡ bytes_eq tag (mac ik (take 4096 text))
          tag_read =
              let l : length b ≤ 1424 = leb-true (length b) 1424 (and_parts _ (eqb (length b % 4) 0) (and_parts (leb 32 (length b)) _ right).1).0 in
              let a : take 4096 (covered_of b) ≡ covered_of b = take_all 4096 (covered_of b) (simp length-take (omega arith)) in
              rw (eg, et, eb, a)

          pub wrong_tag : false ≡ bytes_eq tag (mac ik (take 4096 text)) → opening mac ik spi w b ≡ stopped w (WrongTag (length b - 12))
          unfolding opening
          wrong_tag e = rw (right, eq-eqb (spi_of b) spi (spi_read ∙ same), number_read, ← passes, tag_read, ← e)

          pub right_tag : true ≡ bytes_eq tag (mac ik (take 4096 text))
              → (opening mac ik spi w b ≡ record { result = unwrapped bytes; window = noted w q }) × Authentic mac ik b
          right_tag e =
              let t = tag_read ∙ sym e in (
                accepted (spi_read ∙ same) (ap (passing w) number_read ∙ sym passes) t ∙ rw (number_read, eb),
                (bytes_eq-Decides (tag_of b) (mac ik (covered_of b))).0 t,
              )
