-- The calls by the first word of their lines.
use Rattle.std.specs.Prelude.{ℕ, cond, List, Some, None, codes, Option}
use Rattle.texts.specs.declared.name.CallName.{CallName}
use Rattle.texts.specs.declared.name.CallName.TheVariants as call
use Rattle.std.specs.Str.{bytes_eq}

abbrev pub name_of : CallName → List ℕ
name_of call.Open = codes "open"
name_of call.Tick = codes "tick"
name_of call.Register = codes "register"
name_of call.Challenge = codes "challenge"
name_of call.Arrive = codes "arrive"
name_of call.Conclude = codes "outcome"
name_of call.Send = codes "send"
name_of call.Refresh = codes "refresh"
name_of call.Deregister = codes "deregister"

-- a call where the word is its name, or else what comes next
abbrev pub next_named : List ℕ → CallName → Option CallName → Option CallName
next_named w c next = cond (bytes_eq w (name_of c)) (Some c) next

-- the call that a word names
abbrev pub named : List ℕ → Option CallName
named w =
    next_named w call.Open (next_named w call.Tick (next_named w call.Register (next_named w call.Challenge (next_named w call.Arrive
    (next_named w call.Conclude (next_named w call.Send (next_named w call.Refresh (next_named w call.Deregister None))))))))
