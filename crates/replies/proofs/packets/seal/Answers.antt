use Rattle.esp.specs.Sealing.{Sealing}
use Rattle.esp.specs.declared.faults.Fault.{Fault}
use Rattle.replies.proofs.Sealings.{kept, sealed_within}
use Rattle.replies.proofs.packets.seal.Goals as goal
use Rattle.replies.specs.Packets.{packet_of, sealing_to}
use Rattle.std.proofs.Common.{◌≡◌, ℕ, List, Ok, length, min, ap, ◌∙◌, arith}
use Rattle.std.specs.Result.{result_map_both}

pub returns-in-Ok : goal.returns-in-Ok
returns-in-Ok c =
    let lent : List ℕ = c.as_mut_slice.result.now in
    let long : length lent ≡ min 1424 c.args.area = omega (arith, c.min.ensures, c.as_mut_slice.ensures.len, c.in_ok-packet.ensures.len) in
    let e = sealed_within c.args.to.now c.args.counter.now c.args.segment.now c.args.area (length lent) long in
    let s : Sealing = sealing_to c.args.to.now c.args.counter.now c.args.segment.now (length lent) in
    let front = c.truncate.ensures.items ∙ kept _ _ _ _ _ _ c.in-Ok.ensures.wrote c.in-Ok.ensures.area (omega (arith, c.seal.auto.out, c.as_mut_slice.ensures.len)) in (
      ap Ok front ∙ ap (result_map_both {E = Fault} (λ _. s.written) (λ f. f)) c.in-Ok.ensures.result ∙ ap packet_of e,
      c.seal.ensures.count ∙ ap (λ (s : Sealing). s.counter) e,
    )

pub returns-in-Err : goal.returns-in-Err
returns-in-Err c =
    let lent : List ℕ = c.as_mut_slice.result.now in
    let long : length lent ≡ min 1424 c.args.area = omega (arith, c.min.ensures, c.as_mut_slice.ensures.len, c.in_ok-packet.ensures.len) in
    let e = sealed_within c.args.to.now c.args.counter.now c.args.segment.now c.args.area (length lent) long in
    let s : Sealing = sealing_to c.args.to.now c.args.counter.now c.args.segment.now (length lent) in (
      ap (result_map_both {E = Fault} (λ _. s.written) (λ f. f)) c.in-Err.ensures.result ∙ ap packet_of e,
      c.seal.ensures.count ∙ ap (λ (s : Sealing). s.counter) e,
    )
