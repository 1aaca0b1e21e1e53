use Rattle.std.proofs.Common.{◌≡◌, ◌+◌, replicate, sym, ap, ◌∙◌, arith, length-set}
use Rattle.std.proofs.lemmas.List.{length-append, take_all, take_at}
use Rattle.hmac.specs.Words.{rotl}
use Rattle.hmac.specs.Sha1.{extended, schedule, next}
use Rattle.hmac.proofs.Schedules.{extended_step}
use Rattle.hmac.proofs.fips180.expand.Goals as goal

pub loop-j-init : goal.loop-j-init
unfolding extended
loop-j-init c =
    let ws = c.copy_from_slice.new.self in
    let n = c.copy_from_slice.ensures.len in (
      length-append ws (replicate 64 0) ∙ ap (λ k. k + 64) n,
      take_at ws (replicate 64 0) 16 n ∙ c.copy_from_slice.ensures.after ∙ c.words.ensures,
    )

pub loop-j-preserved : goal.loop-j-preserved
unfolding next rotl
loop-j-preserved c = (
  simp length-set c.loop-j.invariant.0,
  extended_step c.loop-j.w _ c.loop-j.j c.rotate_left.result (omega arith) (omega arith) c.loop-j.invariant.1 c.rotate_left.ensures,
)

pub returns : goal.returns
unfolding schedule
returns c =
    let e : c.loop-j.j ≡ 80 = omega arith in
    sym (take_all 80 c.loop-j.w (omega arith)) ∙ (rw e at c.loop-j.invariant.1)
