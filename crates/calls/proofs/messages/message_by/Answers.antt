use Rattle.calls.proofs.messages.message_by.Goals as goal
use Rattle.calls.specs.Messages.{message_by}
use Rattle.script.proofs.Letters.{is_word}
use Rattle.script.specs.declared.refusal.Refusal.TheVariants.{BadLine}
use Rattle.std.proofs.Common.{ap, codes, arith}
use Rattle.std.specs.Option.{ok_or}

pub returns-in-opening : goal.returns-in-opening
returns-in-opening c =
    let e = ap (λ w. ok_or (message_by w c.args.fields.now) BadLine) (is_word c.args.kind.now (codes "opening") (omega arith) cc) in
    cc

pub returns-in-response : goal.returns-in-response
returns-in-response c =
    let e = ap (λ w. ok_or (message_by w c.args.fields.now) BadLine) (is_word c.args.kind.now (codes "response") (omega arith) cc) in
    cc

pub returns-in-ordinary : goal.returns-in-ordinary
returns-in-ordinary c =
    let e = ap (λ w. ok_or (message_by w c.args.fields.now) BadLine) (is_word c.args.kind.now (codes "ordinary") (omega arith) cc) in
    cc
