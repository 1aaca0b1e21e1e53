-- Questions in their order.
use Rattle.std.specs.Prelude.{Bool, cond}

-- a question: `refusal` is what comes of a no, and `next` what follows a yes
abbrev pub ask : {A : Type 0} → Bool → A → A → A
ask answer refusal next = cond answer next refusal

-- the same question, shut: a proof opens it by name, so that a long chain of questions stays short to the checker
unfoldable pub asked : {A : Type 0} → Bool → A → A → A
asked answer refusal next = ask answer refusal next
