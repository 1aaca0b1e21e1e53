-- What is printed of each answer.
use Rattle.std.specs.Prelude.{ℕ, List, ◌++◌, length, vec_items, codes, decimal}
use Rattle.script.specs.Hex.{hex_of}
use Rattle.script.specs.declared.answer.Answer.{Answer}
use Rattle.script.specs.declared.answer.Answer.TheVariants.{BadLine, EmptyWindow, Opened, Refused, Sealed, Tagged}
use Rattle.script.specs.declared.answer.Call.{Call}
use Rattle.script.specs.declared.answer.Call.TheVariants.{Seal, Unseal}

-- a call by the first word of its line
abbrev pub name_of : Call → List ℕ
name_of Seal = codes "seal"
name_of Unseal = codes "unseal"

--   tag HEX
abbrev pub tag_text : List ℕ → List ℕ
tag_text tag = codes "tag " ++ hex_of tag

--   seal bytes=N count=C out=HEX
abbrev pub seal_text : ℕ → List ℕ → List ℕ
seal_text count packet =
    codes "seal bytes=" ++ (decimal (length packet) ++ (codes " count=" ++ (decimal count ++ (codes " out=" ++ hex_of packet))))

--   window empty
abbrev pub window_text : List ℕ
window_text = codes "window empty"

--   unseal place=P segment=HEX
abbrev pub unseal_text : ℕ → List ℕ → List ℕ
unseal_text place segment = codes "unseal place=" ++ (decimal place ++ (codes " segment=" ++ hex_of segment))

--   CALL fault=NUMBER place=P
abbrev pub fault_text : Call → ℕ → ℕ → List ℕ
fault_text call number place = name_of call ++ (codes " fault=" ++ (decimal number ++ (codes " place=" ++ decimal place)))

--   bad line N
abbrev pub bad_text : ℕ → List ℕ
bad_text n = codes "bad line " ++ decimal n

-- the line that an answer makes, without its end
abbrev pub text_of : Answer → List ℕ
text_of (Tagged tag) = tag_text tag
text_of (Sealed count packet) = seal_text count (vec_items packet)
text_of EmptyWindow = window_text
text_of (Opened place segment) = unseal_text place (vec_items segment)
text_of (Refused call number place) = fault_text call number place
text_of (BadLine n) = bad_text n
