-- What is printed for each line, and the replay window that is kept from line to line.
use Rattle.std.specs.Prelude.{ℕ, List, Some, None, Option}
use Rattle.esp.specs.declared.window.ReplayWindow.{ReplayWindow}
use Rattle.replies.specs.Replies as layer
use Rattle.script.specs.Answers.{bad_text}
use Rattle.script.specs.declared.line.Line.{Line}

-- the reply to the line with the number n. A line that is not of the grammar changes nothing, and so does each
-- call of the packet layer but for the window's.
abbrev pub reply_to : ReplayWindow → ℕ → Option (Line (List ℕ)) → layer.Reply
reply_to w n None = record { text = Some (bad_text n); window = w }
reply_to w n (Some line) = layer.reply_to w line
