use Rattle.std.proofs.Common.{◌≡◌, drop, vec_items}
use Rattle.script.proofs.Pairs.{paired_on, prefixed}
use Rattle.script.proofs.hex.read_pairs.Given as goal
use Rattle.script.specs.Hex.{paired}

abbrev pub invariant-loop-high : goal.invariant-loop-high
invariant-loop-high l = paired l.text ≡ prefixed (vec_items l.bytes) (paired_on (drop l.high-index l.pairs) l.odd)
