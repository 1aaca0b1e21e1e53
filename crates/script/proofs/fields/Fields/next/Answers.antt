use Rattle.script.proofs.Cuts.{fields_cut}
use Rattle.script.proofs.fields.Fields.next.Goals as goal
use Rattle.script.specs.Fields.{first, left, others}
use Rattle.std.proofs.Common.{Bool, cond, ◌∷◌, sym, ap, ◌∙◌}

pub returns-then-takes-clause-field : goal.returns-then-takes-clause-field
returns-then-takes-clause-field c =
    let s = c.loop-self.self-inside.separator in
    let p = c.cut.result.0.now in
    let ps = left s c.cut.result.1 in
    let h = (fields_cut s c.loop-self.self-inside.rest c.in-Some.text c.mark.result p c.cut.result.1 c.in-Some.is c.mark.ensures c.cut.ensures.front c.cut.ensures.back).0 in
    sym (ap first (sym c.loop-self.invariant ∙ h ∙ ap (λ (b : Bool). cond b (p ∷ ps) ps) (sym c.if-takes.ensures)))

pub returns-then-takes-clause-rest : goal.returns-then-takes-clause-rest
returns-then-takes-clause-rest c =
    let s = c.loop-self.self-inside.separator in
    let p = c.cut.result.0.now in
    let ps = left s c.cut.result.1 in
    let h = (fields_cut s c.loop-self.self-inside.rest c.in-Some.text c.mark.result p c.cut.result.1 c.in-Some.is c.mark.ensures c.cut.ensures.front c.cut.ensures.back).0 in
    sym (ap others (sym c.loop-self.invariant ∙ h ∙ ap (λ (b : Bool). cond b (p ∷ ps) ps) (sym c.if-takes.ensures)))

pub loop-self-smaller : goal.loop-self-smaller
loop-self-smaller c =
    (fields_cut c.loop-self.self-inside.separator c.loop-self.self-inside.rest c.in-Some.text c.mark.result c.cut.result.0.now c.cut.result.1 c.in-Some.is c.mark.ensures c.cut.ensures.front c.cut.ensures.back).1

pub loop-self-preserved : goal.loop-self-preserved
loop-self-preserved c =
    let s = c.loop-self.self-inside.separator in
    let p = c.cut.result.0.now in
    let ps = left s c.cut.result.1 in
    let h = (fields_cut s c.loop-self.self-inside.rest c.in-Some.text c.mark.result p c.cut.result.1 c.in-Some.is c.mark.ensures c.cut.ensures.front c.cut.ensures.back).0 in
    sym (h ∙ ap (λ (b : Bool). cond b (p ∷ ps) ps) (sym c.if-takes.ensures)) ∙ c.loop-self.invariant
