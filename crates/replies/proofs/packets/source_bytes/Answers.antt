use Rattle.replies.proofs.Sealings.{packet_or_none}
use Rattle.replies.proofs.packets.source_bytes.Goals as goal
use Rattle.replies.specs.Packets.{sealing_to, source_bytes}
use Rattle.script.specs.Packets.{source_by}
use Rattle.std.proofs.Common.{◌-◌, vec_items, sym, ap, ◌∙◌}

pub returns-in_ok-packet-in-Sealed : goal.returns-in_ok-packet-in-Sealed
returns-in_ok-packet-in-Sealed c =
    let to = c.in-Sealed.to in
    ap vec_items c.unwrap_or.ensures
    ∙ packet_or_none c.in_ok-packet-in-Sealed.packet c.new.result to c.saturating_sub-counter.result c.as_slice.result.now 1424 c.new.ensures.items (c.in_ok-packet-in-Sealed.ensures).0
    ∙ ap (λ q. (sealing_to to q c.as_slice.result.now 1424).written) c.saturating_sub-counter.ensures
    ∙ ap (λ bs. (sealing_to to (c.in-Sealed.number - 1) bs 1424).written) c.as_slice.ensures.value
    ∙ ap (λ s. source_bytes (source_by vec_items s)) (sym c.in-Sealed.is)
