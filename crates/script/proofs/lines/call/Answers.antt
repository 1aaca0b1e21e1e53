use Rattle.std.proofs.Common.{List, ℕ, codes, vec_items, subst, arith}
use Rattle.script.proofs.Letters.{is_word}
use Rattle.script.proofs.lines.call.Goals as goal
use Rattle.script.specs.Lines.{call_of, line_by}
use Rattle.script.specs.Reads.{Says}

pub returns-in-window : goal.returns-in-window
returns-in-window c =
    subst (λ (w : List ℕ). Says (line_by vec_items) c.window_line.result (call_of w c.args.fields.now))
    (is_word c.args.name.now (codes "window") (omega arith) cc) c.window_line.ensures

pub returns-in-unseal : goal.returns-in-unseal
returns-in-unseal c =
    subst (λ (w : List ℕ). Says (line_by vec_items) c.unseal_line.result (call_of w c.args.fields.now))
    (is_word c.args.name.now (codes "unseal") (omega arith) cc) c.unseal_line.ensures
