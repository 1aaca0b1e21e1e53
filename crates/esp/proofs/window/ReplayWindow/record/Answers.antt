use Rattle.esp.proofs.Marks.{records_by_numbers}
use Rattle.esp.proofs.window.ReplayWindow.record.Goals as goal
use Rattle.esp.proofs.window.ReplayWindow.record.Goals.{else-ahead-lt-WIDTH, then-ahead-lt-WIDTH}
use Rattle.esp.specs.Window.{noted}
use Rattle.esp.specs.declared.window.ReplayWindow.{ReplayWindow}
use Rattle.std.proofs.Common.{◌≡◌, ◌-◌, ◌*◌, ◌%◌, ◌^◌, rules}
use lib.Bits.{bit_or}

pub returns-after-ahead-lt-WIDTH-clause-numbers : goal.returns-after-ahead-lt-WIDTH-clause-numbers
unfolding noted
returns-after-ahead-lt-WIDTH-clause-numbers c =
    let v : ReplayWindow = record { highest = c.args.number; bitmap = c.if-ahead-lt-WIDTH.self } in
    let e : v ≡ noted c.args.self.now c.args.number = search rules in
    records_by_numbers _ _ _ e

pub returns-then-back-lt-WIDTH-clause-numbers : goal.returns-then-back-lt-WIDTH-clause-numbers
unfolding noted
returns-then-back-lt-WIDTH-clause-numbers c =
    let w : ReplayWindow = c.args.self.now in
    let e : record { highest = w.highest; bitmap = bit_or w.bitmap ((1 * 2 ^ (w.highest - c.args.number)) % 2 ^ 64) } ≡ noted w c.args.number = search rules in
    records_by_numbers _ _ _ e
