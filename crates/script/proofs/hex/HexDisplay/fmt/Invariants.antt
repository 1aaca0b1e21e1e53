use Rattle.script.proofs.hex.HexDisplay.fmt.Given as goal
use Rattle.script.specs.Hex.{spelled}
use Rattle.std.specs.Fmt.{IsPlainFormatter, HasWritten}
use Rattle.std.proofs.Common.{take}

abbrev pub invariant-loop-b : goal.invariant-loop-b
invariant-loop-b g l = IsPlainFormatter l.initial.f → HasWritten g.W.Write.write_str_gives l.initial.f (spelled (take l.b-index l.self.0.now)) l.f
