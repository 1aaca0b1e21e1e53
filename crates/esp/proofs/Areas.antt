-- The packet in the area: what the tag is taken of, and that it opens again.
use Rattle.std.proofs.Common.{◌≡◌, ℕ, ◌+◌, ◌^◌, ◌<◌, ◌≤◌, List, ◌++◌, length, take, sym, refl, ap, ◌∙◌, subst, arith}
use Rattle.esp.proofs.Packets.{covered_long}
use Rattle.esp.proofs.Trips.{trip}
use Rattle.esp.proofs.Writes.{Written, front}
use Rattle.esp.specs.Opening.{OpensAs}
use Rattle.esp.specs.Packet.{covered, pad_count, sealed}
use Rattle.std.proofs.lemmas.List.{length-append, take_all}

-- the algorithm reads all of a text of no more than 4096 bytes
pub text_read : {area text now : List ℕ} {end : ℕ} → Written area text end now → end ≤ 4096 → take 4096 (take end now) ≡ text
text_read {area} {text} {now} {end} h l = ap (take 4096) (front h) ∙ take_all 4096 text (omega (arith, h.long))

-- the packet under the number q, its length, and that the front of an area with it opens as the segment
module _ (mac : List ℕ → List ℕ → List ℕ) (ik : List ℕ) (spi q : ℕ) (segment : List ℕ) (twelve : length (mac ik (covered spi q segment)) ≡ 12) where
  pub sealed_joined : covered spi q segment ++ mac ik (covered spi q segment) ≡ sealed mac ik spi q segment
  unfolding sealed
  sealed_joined = refl

  pub sealed_long : length (covered spi q segment ++ mac ik (covered spi q segment)) ≡ length segment + pad_count (length segment) + 22
  sealed_long = length-append (covered spi q segment) (mac ik (covered spi q segment)) ∙ omega (arith, twelve, covered_long spi q segment)

  pub sealed_opens : {area now : List ℕ} {end : ℕ} (len : ℕ) → Written area (covered spi q segment ++ mac ik (covered spi q segment)) end now
      → len ≡ length segment + pad_count (length segment) + 22 → spi < 2 ^ 32 → q < 2 ^ 32 → 8 ≤ length segment → length segment ≤ 1400
      → OpensAs mac ik spi q segment (take len now)
  sealed_opens {area} {now} {end} len h e hs hq h1 h2 =
      let at : len ≡ end = e ∙ sym sealed_long ∙ h.long in
      let b : take len now ≡ sealed mac ik spi q segment = ap (λ (k : ℕ). take k now) at ∙ front h ∙ sealed_joined in
      subst (λ (x : List ℕ). OpensAs mac ik spi q segment x) (sym b) (trip mac ik spi q segment twelve hs hq h1 h2)
