use Rattle.std.proofs.Common.{◌≡◌, ◌≤◌, length, Ok, sym, ap, ◌∙◌, arith, rules}
use Rattle.esp.proofs.Packets.{covered_long}
use Rattle.esp.proofs.Questions.{length_right, length_fit}
use Rattle.esp.proofs.Areas.{sealed_joined, sealed_long, sealed_opens, text_read}
use Rattle.esp.proofs.Writes.{grow, laid_by, written_by}
use Rattle.esp.proofs.sealing.seal.Goals as goal
use Rattle.esp.specs.Packet.{covered, sealed}
use Rattle.esp.specs.Sealing.{Sealing, laid, sealing}

pub returns : goal.returns
unfolding sealing
returns g c =
    let mac = g.I.Integrity.mac in
    let ik = c.args.ik.now in
    let spi = c.args.spi in
    let segment = c.args.segment.now in
    let out = c.args.out.now in
    let q = c.in_ok-number.number in
    let len = c.in_ok-len.len in
    let text = covered spi q segment in
    let twelve = g.met.I.Integrity.twelve ik text in
    let right = length_right (length segment) len (search rules) in
    let long = length_fit (length segment) right.0 in
    let s1 = written_by {area = out} text c.write_covered-end.ensures.area (covered_long spi q segment ∙ sym c.write_covered-end.ensures.end) in
    let few : c.write_covered-end.result ≤ 4096 = omega (arith, c.write_covered-end.ensures.end, long.1) in
    let t : c.tag-tag.result ≡ mac ik text = c.tag-tag.ensures ∙ ap (mac ik) (text_read s1 few) in
    let s2 = grow (mac ik text) s1 t c.put.ensures.after c.put.ensures.next in
    let e : sealing mac ik spi c.args.counter.now segment (length out) ≡ record { result = Ok len; counter = q; written = sealed mac ik spi q segment } =
    search rules in
    record {
      result = ap (λ (s : Sealing). s.result) (sym e);
      count = ap (λ (s : Sealing). s.counter) (sym e);
      area = laid_by _ s2 (sealed_joined mac ik spi q segment twelve) ∙ ap (λ (s : Sealing). laid s.written out) (sym e);
      wrote = right.1 ∙ sym (sealed_long mac ik spi q segment twelve) ∙ ap length (sealed_joined mac ik spi q segment twelve) ∙ ap (λ (s : Sealing). length s.written) (sym e);
      opens = sealed_opens mac ik spi q segment twelve len s2 right.1 (search rules) (search rules) long.0 long.1;
    }
