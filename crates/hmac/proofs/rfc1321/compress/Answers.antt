use Rattle.std.proofs.Common.{◌≡◌, ℕ, ◌/◌, ◌%◌, ◌<◌, ◌&&◌, ltb, [], map, get_or, take, refl, ap, ◌∙◌, arith}
use Rattle.std.specs.Simd.{first_chunks}
use Rattle.std.proofs.lemmas.Bool.{and_parts, ltb-true}
use Rattle.hmac.specs.Md5.{added, compressed, picks, sines, step, steps, turns, words}
use Rattle.hmac.proofs.Rotations.{rotl_std}
use Rattle.hmac.proofs.Tables.{passes_at, reads_at}
use Rattle.hmac.proofs.Turns.{turn_more}
use Rattle.hmac.proofs.rfc1321.compress.Goals as goal

-- the tables as the code has them, in rows
abbrev pick : ℕ → ℕ
pick t = get_or (get_or (first_chunks 16 4 picks) (t / 16) []) (t % 16) 0

abbrev sine : ℕ → ℕ
sine t = get_or (get_or (first_chunks 4 16 sines) (t / 4) []) (t % 4) 0

abbrev turn : ℕ → ℕ
turn t = get_or (get_or (map (take 4) (first_chunks 16 4 turns)) (t / 16) []) (t % 4) 0

-- a step picks one of the sixteen words
pick_below : (t : ℕ) → t < 64 → pick t < 16
pick_below t h =
    rw (reads_at pick picks refl t h) (ltb-true (get_or picks t 0) 16 (passes_at (λ x. ltb x 16) picks refl t h))

-- a step turns by between 1 and 31 bits
turn_within : (t : ℕ) → t < 64 → (0 < turn t) × (turn t < 32)
turn_within t h =
    let n : ℕ = get_or turns t 0 in
    let both = and_parts (ltb 0 n) (ltb n 32) (passes_at (λ x. ltb 0 x && ltb x 32) turns refl t h) in
    rw (reads_at turn turns refl t h) (ltb-true 0 n both.0, ltb-true n 32 both.1)

pub offset_bounds-w-t : goal.offset_bounds-w-t
offset_bounds-w-t c = omega (arith, pick_below c.loop-t.t c.loop-t-test.true)

pub bounds-w-t : goal.bounds-w-t
bounds-w-t c = pick_below c.loop-t.t c.loop-t-test.true

pub loop-t-init : goal.loop-t-init
unfolding steps
loop-t-init c = refl

pub loop-t-preserved : goal.loop-t-preserved
unfolding step steps
loop-t-preserved c =
    let t = c.loop-t.t in
    let h = c.loop-t-test.true in
    let xs = words c.args.block.now in
    let within = turn_within t h in
    let turned = c.rotate_left.ensures ∙ rotl_std (turn t) _ within.0 within.1 in
    simp (turned, c.mix.ensures, c.words-w.ensures, reads_at turn turns refl t h, reads_at pick picks refl t h, reads_at sine sines refl t h)
    (turn_more (λ k. steps k xs c.args.saved) (λ k. step k xs) (λ k. refl) t _ c.loop-t.invariant)

pub returns : goal.returns
unfolding compressed
returns c =
    let e : c.loop-t.t ≡ 64 = omega arith in
    ap (added c.args.saved) (rw e at c.loop-t.invariant)
