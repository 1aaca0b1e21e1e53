-- The lines of a script.
use Rattle.std.specs.Prelude.{ℕ, ◌-◌, Bool, cond, ◌&&◌, List, [], ◌∷◌, length, take, drop, Some, None, codes, Option, ◌==◌, nat_lt, slice_index}
use Rattle.script.specs.Fields.{split}
use Rattle.script.specs.Hex.{bytes_of}
use Rattle.script.specs.Packets.{packet_by, packet_of}
use Rattle.script.specs.Words.{algorithm_of, association, ended, field, ik_of, number32}
use Rattle.script.specs.declared.fields.Separator.TheVariants.{Space}
use Rattle.script.specs.declared.line.Line.{Line}
use Rattle.script.specs.declared.line.Line.TheVariants.{Seal, Skipped, Tag, Unseal, Window}
use Rattle.std.specs.Str.{bytes_eq}

--   tag ALG IK BYTES
unfoldable pub tag_line : List (List ℕ) → Option (Line (List ℕ))
tag_line ws = field algorithm_of ws (λ a ws. field ik_of ws (λ k ws. field bytes_of ws (λ text ws. ended (Tag a k text) ws)))

--   seal ALG IK SPI COUNT SEGMENT AREA
unfoldable pub seal_line : List (List ℕ) → Option (Line (List ℕ))
seal_line ws =
    association ws (λ to ws. field number32 ws (λ count ws. field bytes_of ws (λ segment ws. field number32 ws (λ area ws.
    ended (Seal to count segment area) ws))))

--   window
unfoldable pub window_line : List (List ℕ) → Option (Line (List ℕ))
window_line ws = ended Window ws

--   unseal ALG IK SPI PACKET
unfoldable pub unseal_line : List (List ℕ) → Option (Line (List ℕ))
unseal_line ws =
    association ws (λ from ws. field packet_of ws (λ packet ws. ended (Unseal from packet) ws))

-- the call that a first word names
abbrev pub call_of : List ℕ → List (List ℕ) → Option (Line (List ℕ))
call_of w ws =
    cond (bytes_eq w (codes "tag")) (tag_line ws)
    (cond (bytes_eq w (codes "seal")) (seal_line ws)
    (cond (bytes_eq w (codes "window")) (window_line ws)
    (cond (bytes_eq w (codes "unseal")) (unseal_line ws) None)))

-- a line with no word is skipped
abbrev pub words_line : List (List ℕ) → Option (Line (List ℕ))
words_line [] = Some Skipped
words_line (w ∷ ws) = call_of w ws

-- a line without its end, which is LF or CR LF, or nothing where the input ends
abbrev pub body_of : List ℕ → List ℕ
body_of text =
    cond (bytes_eq (drop (length text - 2) text) (13 ∷ 10 ∷ [])) (take (length text - 2) text)
    (cond (bytes_eq (drop (length text - 1) text) (10 ∷ [])) (take (length text - 1) text) text)

-- a comment: the first character is #
abbrev pub is_comment : List ℕ → Bool
is_comment text = nat_lt 0 (length text) && slice_index text 0 == 35

-- what a line says; a comment is skipped
unfoldable pub line_of : List ℕ → Option (Line (List ℕ))
line_of line = cond (is_comment (body_of line)) (Some Skipped) (words_line (split Space (body_of line)))

-- the same line, its bytes seen through f
abbrev pub line_by : {X Y : Type 0} → (X → Y) → Line X → Line Y
line_by f Skipped = Skipped
line_by f (Tag a k text) = Tag a k (f text)
line_by f (Seal to count segment area) = Seal to count (f segment) area
line_by f Window = Window
line_by f (Unseal from packet) = Unseal from (packet_by f packet)
