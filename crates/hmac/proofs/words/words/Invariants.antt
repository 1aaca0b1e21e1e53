use Rattle.std.proofs.Common.{◌≡◌, ℕ, ◌<◌, [], length, get_or}
use Rattle.hmac.specs.Words.{word_at}
use Rattle.hmac.proofs.words.words.Given as goal

-- each word so far is that of its four bytes
abbrev pub invariant-loop-i : goal.invariant-loop-i
invariant-loop-i g l = (length l.all ≡ 16) × ((k : ℕ) → k < l.i → get_or l.all k 0 ≡ word_at g.B.ByteOrder.word (get_or l.fours k []) 0)
