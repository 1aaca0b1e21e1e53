use Rattle.calls.proofs.outcomes.KindField.read.Goals as goal
use Rattle.calls.specs.Outcomes.{kind_of}
use Rattle.script.proofs.Letters.{is_word}
use Rattle.std.proofs.Common.{ap, codes, arith}

pub returns-in-success : goal.returns-in-success
returns-in-success c = ap kind_of (is_word c.args.word.now (codes "success") (omega arith) cc)

pub returns-in-117 : goal.returns-in-117
returns-in-117 c = ap kind_of (is_word c.args.word.now (codes "user-failure") (omega arith) cc)

pub returns-in-111 : goal.returns-in-111
returns-in-111 c = ap kind_of (is_word c.args.word.now (codes "other-failure") (omega arith) cc)
