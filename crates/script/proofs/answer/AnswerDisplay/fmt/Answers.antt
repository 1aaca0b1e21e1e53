use Rattle.std.proofs.Common.{sym, ap, ◌∙◌}
use Rattle.script.proofs.answer.AnswerDisplay.fmt.Goals as goal
use Rattle.script.specs.Answers.{text_of, unseal_text}
use Rattle.std.proofs.Output.{has_written_of_eq}

pub returns-in-Opened-clause-writes : goal.returns-in-Opened-clause-writes
returns-in-Opened-clause-writes g c p e =
    has_written_of_eq g.W.Write.write_str_gives _ _ (text_of c.args.self.now) _ (ap (unseal_text c.in-Opened.place) c.as_slice-in-Opened.ensures.value ∙ sym (ap text_of c.in-Opened.is))
    (c.write-in-Opened.ensures.writes p e)
