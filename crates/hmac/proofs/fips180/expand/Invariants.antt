use Rattle.std.proofs.Common.{◌≡◌, ◌-◌, length, take}
use Rattle.hmac.specs.Sha1.{extended, words}
use Rattle.hmac.proofs.fips180.expand.Given as goal

abbrev pub invariant-loop-j : goal.invariant-loop-j
invariant-loop-j l = (length l.w ≡ 80) × (take l.j l.w ≡ extended (l.j - 16) (words l.block))
