use Rattle.std.proofs.Common.{◌≡◌, drop, Some}
use Rattle.script.proofs.Digits.{read_on}
use Rattle.script.proofs.decimal.read_digits.Given as goal

abbrev pub invariant-loop-b : goal.invariant-loop-b
invariant-loop-b l = read_on l.most (Some 0) l.text ≡ read_on l.most (Some l.number) (drop l.b-index l.text)
