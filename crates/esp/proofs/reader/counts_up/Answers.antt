use Rattle.std.proofs.Common.{◌≡◌, ◌+◌, length, sym, Decides, arith, rules}
use Rattle.std.proofs.lemmas.Iterator.{YieldsList-from_range, YieldsList-from_slice, YieldsList-from_zip, same_from_all}
use Rattle.std.proofs.lemmas.List.FromFn.{length-range_with_len}
use Rattle.std.proofs.lemmas.Slice.Eq.{bytes_eq-Decides}
use Rattle.esp.specs.Packet.{padding}
use Rattle.esp.proofs.reader.counts_up.Goals as goal
use borrow.Author.Tests.{tests}

pub returns : goal.returns
returns c =
    let pads = c.args.pads.now in
    let n = length pads in
    let same : Decides c.all.result (pads ≡ padding n) =
    same_from_all c.all.new.self _ _ pads (padding n) c.all.ensures.ran
    (YieldsList-from_zip (YieldsList-from_slice pads (cc)) (YieldsList-from_range 1 (n + 1) n (cc) (omega arith)))
    (sym (length-range_with_len 1 n)) (λ x q k. search (rules, tests)) (λ x q k. search (rules, tests)) in
    search (rules, bytes_eq-Decides)
