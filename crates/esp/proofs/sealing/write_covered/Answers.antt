use Rattle.std.proofs.Common.{ℕ, [], ◌∷◌, length, sym, refl, ap, ◌∙◌}
use Rattle.esp.proofs.Packets.{covered_joined, covered_long, padding_cut}
use Rattle.esp.proofs.Writes.{grow, laid_by, nothing}
use Rattle.esp.proofs.sealing.write_covered.Goals as goal
use Rattle.esp.specs.Packet.{be32, pad_count, padding}

pub returns : goal.returns
returns c =
    let spi = c.args.spi in
    let q = c.args.number in
    let segment = c.args.segment.now in
    let k = pad_count (length segment) in
    let p = c.pad_len-pads.ensures.value in
    let s1 = grow (be32 spi) (nothing c.args.out.now) c.to_be_bytes.ensures c.put-end.ensures.after c.put-end.ensures.next in
    let s2 = grow (be32 q) s1 c.to_be_bytes-2.ensures c.put-end-2.ensures.after c.put-end-2.ensures.next in
    let s3 = grow segment s2 refl c.put-end-3.ensures.after c.put-end-3.ensures.next in
    let s4 = grow (padding k) s3 (padding_cut _ c.pad_len-pads.ensures.few ∙ ap padding p) c.put-end-4.ensures.after c.put-end-4.ensures.next in
    let s5 = grow (k ∷ 17 ∷ []) s4 (ap (λ (n : ℕ). n ∷ 17 ∷ []) p) c.put.ensures.after c.put.ensures.next in
    let j = covered_joined spi q segment in
    record { end = sym s5.long ∙ ap length j ∙ covered_long spi q segment; area = laid_by _ s5 j }
