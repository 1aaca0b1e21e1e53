use Rattle.std.proofs.Common.{◌≡◌, ℕ, List, Option, Some, false, ◌/◌, ◌%◌, ◌+◌, [], ◌∷◌, get_or, take, Ok, refl, subst, sym, ap, ◌∙◌, arith, true-eqb, false-eqb}
use Rattle.script.proofs.Pairs.{hex_none, hex_some, spelled_more}
use Rattle.script.proofs.hex.HexDisplay.fmt.Goals as goal
use Rattle.script.specs.Hex.{glyph, spelled}
use Rattle.std.specs.Fmt.{DisplaysOnOk, styled_digits_output}
use Rattle.std.proofs.Output.{has_written_of_eq, has_written_append}
use Rattle.std.proofs.lemmas.Fmt.{hex_byte}
use Rattle.std.proofs.lemmas.List.{take_all}

pub returns-then-is_empty-clause-writes : goal.returns-then-is_empty-clause-writes
returns-then-is_empty-clause-writes g c p e =
    has_written_of_eq g.W.Write.write_str_gives _ (45 ∷ []) _ _ (hex_none c.args.self.now.0.now (true-eqb _ _ c.if-is_empty.ensures)) (c.write_str.ensures.writes p e)

pub loop-b-preserved : goal.loop-b-preserved
loop-b-preserved g c p =
    let bs = c.args.self.now.0.now in
    let i = c.loop-b.b-index in
    let took = g.W.Write.write_str_gives in
    let x = c.loop-b.invariant p in
    let b = get_or bs i 0 in
    let o : styled_digits_output c.in_radix.result c.laid_out.result ≡ Some (glyph (b / 16) ∷ (glyph (b % 16) ∷ [])) =
    rw (c.laid_out.ensures, c.in_radix.ensures) (ap Some (hex_byte false b (omega arith))) in
    let y = subst (λ (t : Option (List ℕ)). DisplaysOnOk took c.loop-b.f (Ok c.in_ok-write.field-0) t c.write.new.self) o c.in_ok-write.ensures.writes in
    has_written_of_eq took _ _ (spelled (take (i + 1) bs)) _ (sym (spelled_more bs i c.loop-b-test.true)) (has_written_append took _ _ _ _ _ x (y x.plain refl))

pub returns-clause-writes : goal.returns-clause-writes
returns-clause-writes g c p e =
    let bs = c.args.self.now.0.now in
    let t = take_all c.loop-b.b-index bs c.loop-b-test.false in
    has_written_of_eq g.W.Write.write_str_gives _ _ _ _ (ap spelled t ∙ hex_some bs (false-eqb _ _ c.if-is_empty.ensures)) (c.loop-b.invariant p)
