-- What a line leads to: the text that is printed, if any, and the replay window and the proxy after it.
use Rattle.std.specs.Prelude.{◌≡◌, ℕ, List, Some, None, Option}
use Rattle.texts.specs.Calls.{open_text, text_of}
use Rattle.calls.specs.declared.line.Line.{Line}
use Rattle.calls.specs.declared.line.Line.TheVariants.{Call, Packets}
use Rattle.esp.specs.declared.window.ReplayWindow.{ReplayWindow}
use Rattle.proxy.specs.State.{State, count_of}
use Rattle.replay_calls.specs.Calls.{opened_by, state_after, text_for}
use Rattle.replay_calls.specs.declared.next.Next.{Next}
use Rattle.replay_calls.specs.declared.next.Next.TheVariants.{Call as Called, Layer, Open}
use Rattle.replies.specs.Replies.{reply_to}
use Rattle.script.specs.Answers as packets
use Rattle.script.specs.Answers.{bad_text}
use Rattle.std.specs.Option.{option_map}

pub record Turn : Type 0 where
  pub text : Option (List ℕ)
  pub window : ReplayWindow
  pub state : State

-- the line with the number n. One that is not of the grammar changes nothing.
abbrev pub turn_of : ReplayWindow → State → ℕ → Option (Line (List ℕ)) → Turn
turn_of w σ n None = record { text = Some (bad_text n); window = w; state = σ }
turn_of w σ n (Some (Packets line)) =
    record { text = (reply_to w line).text; window = (reply_to w line).window; state = σ }
turn_of w σ n (Some (Call line)) = record { text = Some (text_for line σ); window = w; state = state_after line σ }

-- what follows shows a text; an opened proxy says how many subscribers it has
abbrev pub Shows : Next → Option (List ℕ) → Type 0
Shows (Layer a) o = o ≡ option_map packets.text_of a
Shows (Called a) o = o ≡ Some (text_of a)
Shows (Open opening) o = o ≡ Some (open_text (count_of (opened_by opening)))
