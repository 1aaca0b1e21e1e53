use Rattle.std.proofs.Common.{ap, codes, arith}
use Rattle.script.proofs.Letters.{is_word}
use Rattle.texts.proofs.name.CallNameField.read.Goals as goal
use Rattle.texts.specs.Names.{named}

pub returns-in-register : goal.returns-in-register
returns-in-register c = ap named (is_word c.args.word.now (codes "register") (omega arith) cc)

pub returns-in-challenge : goal.returns-in-challenge
returns-in-challenge c = ap named (is_word c.args.word.now (codes "challenge") (omega arith) cc)

pub returns-in-arrive : goal.returns-in-arrive
returns-in-arrive c = ap named (is_word c.args.word.now (codes "arrive") (omega arith) cc)

pub returns-in-outcome : goal.returns-in-outcome
returns-in-outcome c = ap named (is_word c.args.word.now (codes "outcome") (omega arith) cc)

pub returns-in-refresh : goal.returns-in-refresh
returns-in-refresh c = ap named (is_word c.args.word.now (codes "refresh") (omega arith) cc)

pub returns-in-deregister : goal.returns-in-deregister
returns-in-deregister c = ap named (is_word c.args.word.now (codes "deregister") (omega arith) cc)
