use Rattle.std.proofs.Common.{◌≡◌}
use Rattle.hmac.specs.Sha1.{rounds, schedule}
use Rattle.hmac.specs.declared.fips180.Working.{Working}
use Rattle.hmac.proofs.fips180.compress.Given as goal

abbrev pub invariant-loop-t : goal.invariant-loop-t
invariant-loop-t l =
    ◌≡◌ {A = Working} (record { a = l.a; b = l.b; c = l.c; d = l.d; e = l.e }) (rounds l.t (schedule l.block) l.hash)
