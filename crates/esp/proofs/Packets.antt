-- The parts of a packet that its tag covers, joined, and their length.
use Rattle.std.proofs.Common.{◌≡◌, ℕ, zero, suc, ◌+◌, ◌<◌, List, [], ◌∷◌, ◌++◌, length, take, refl, arith}
use Rattle.esp.specs.Packet.{be32, covered, pad_count, padding}
use Rattle.std.proofs.lemmas.List.FromFn.{length-range_with_len}
use Rattle.std.proofs.lemmas.List.{append_assoc, length-append}

-- up to three bytes of padding are a part of 1, 2, 3
pub padding_cut : (k : ℕ) → k < 4 → take {A = ℕ} k (1 ∷ 2 ∷ 3 ∷ []) ≡ padding k
padding_cut zero h = refl
padding_cut (suc zero) h = refl
padding_cut (suc (suc zero)) h = refl
padding_cut (suc (suc (suc zero))) h = refl
padding_cut (suc (suc (suc (suc n)))) h = absurd (omega arith)

-- the five parts that the tag covers, one after another
pub covered_joined : (spi q : ℕ) (segment : List ℕ)
    → (((([] ++ be32 spi) ++ be32 q) ++ segment) ++ padding (pad_count (length segment))) ++ (pad_count (length segment) ∷ 17 ∷ [])
    ≡ covered spi q segment
unfolding covered
covered_joined spi q segment = simp append_assoc

-- and how long they are
pub covered_long : (spi q : ℕ) (segment : List ℕ) → length (covered spi q segment) ≡ length segment + pad_count (length segment) + 10
unfolding covered
covered_long spi q segment = simp (length-append, length-range_with_len) (omega arith)
