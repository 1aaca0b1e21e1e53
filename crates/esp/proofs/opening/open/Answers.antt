use Rattle.esp.proofs.Questions.{right_tag, wrong_tag}
use Rattle.esp.proofs.opening.open.Goals as goal
use Rattle.std.proofs.Common.{◌≡◌, ℕ, true, ◌∷◌, IfOk, Ok, Err, Result, sym, ap, ◌∙◌, subst}
use Rattle.esp.specs.Numbers.{Stands, may_pass}
use Rattle.esp.specs.Opening.{Opening}
use Rattle.esp.specs.Reading.{number_of}

-- a fact that does not depend on what was made
made_since : {X Y P : Type 0} (r : Result X Y) → P → IfOk r (λ _. P)
made_since (Ok x) p = p
made_since (Err y) p = tt

pub returns-then-not-verify : goal.returns-then-not-verify
returns-then-not-verify g c =
    let r = c.in_ok-reader.ensures in
    let e = wrong_tag g.I.Integrity.mac c.args.ik.now c.args.spi c.args.window.now c.args.packet.now
    r.0 r.1 c.spi.ensures c.if-spi.false c.sequence-number.ensures c.if-not-passes.ensures.stored
    c.covered.ensures c.tag.ensures c.if-not-verify.ensures in
    record { result = ap (λ (o : Opening). o.result) (sym e); window = ap (λ (o : Opening). o.window) (sym e); once = λ ns s. tt; authentic = tt }

pub returns : goal.returns
returns g c =
    let r = c.in_ok-reader.ensures in
    let e = right_tag g.I.Integrity.mac c.args.ik.now c.args.spi c.args.window.now c.args.packet.now
    r.0 r.1 c.spi.ensures c.if-spi.false c.sequence-number.ensures c.if-not-passes.ensures.stored
    c.covered.ensures c.tag.ensures c.if-not-verify.ensures in
    record {
      result = c.segment.ensures ∙ ap (λ (o : Opening). o.result) (sym e.0);
      window = c.record.ensures.stored ∙ ap (λ (o : Opening). o.window) (sym e.0);
      once = λ ns s. made_since c.segment.result
          (subst (λ (q : ℕ). (may_pass ns q ≡ true) × Stands c.record.new.self (q ∷ ns)) (c.sequence-number.ensures ∙ ap number_of r.1)
          (sym (c.if-not-passes.ensures.numbers ns s), c.record.ensures.numbers ns s));
      authentic = made_since c.segment.result e.1;
    }
