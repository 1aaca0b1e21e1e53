use Rattle.std.proofs.Common.{◌≡◌}
use Rattle.hmac.specs.Md5.{steps, words}
use Rattle.hmac.specs.declared.rfc1321.Abcd.{Abcd}
use Rattle.hmac.proofs.rfc1321.compress.Given as goal

abbrev pub invariant-loop-t : goal.invariant-loop-t
invariant-loop-t l =
    ◌≡◌ {A = Abcd} (record { a = l.a; b = l.b; c = l.c; d = l.d }) (steps l.t (words l.block) l.saved)
