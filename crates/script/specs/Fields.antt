-- A line is cut into fields: the words between its spaces, or the pieces between colons.
use Rattle.std.specs.Prelude.{ℕ, Bool, true, cond, not, List, [], ◌∷◌, length, Some, None, Option, ◌==◌}
use Rattle.script.specs.declared.fields.Separator.{Separator}
use Rattle.script.specs.declared.fields.Separator.TheVariants.{Colon, Space}
use Rattle.std.specs.Borrow.{Bor}

-- what stands before the first c, or all
abbrev pub before : ℕ → List ℕ → List ℕ
before c [] = []
before c (x ∷ xs) = cond (x == c) [] (x ∷ before c xs)

-- what stands after the first c, if there is one
abbrev pub after : ℕ → List ℕ → Option (List ℕ)
after c [] = None
after c (x ∷ xs) = cond (x == c) (Some xs) (after c xs)

-- x put in front of the first piece
abbrev pub onto : ℕ → List (List ℕ) → List (List ℕ)
onto x [] = (x ∷ []) ∷ []
onto x (p ∷ ps) = (x ∷ p) ∷ ps

-- the pieces of a text between its bytes c; there is one more than there are such bytes
unfoldable pub pieces : ℕ → List ℕ → List (List ℕ)
pieces c [] = [] ∷ []
pieces c (x ∷ xs) = cond (x == c) ([] ∷ pieces c xs) (onto x (pieces c xs))

-- the byte between fields
abbrev pub mark_of : Separator → ℕ
mark_of Space = 32
mark_of Colon = 58

-- whether a piece is a field. Words are separated by one or more spaces, so that an empty piece is none;
-- between two colons stands one field, empty or not.
abbrev pub takes : Separator → List ℕ → Bool
takes Space p = not (length p == 0)
takes Colon p = true

abbrev pub kept : Separator → List (List ℕ) → List (List ℕ)
kept s [] = []
kept s (p ∷ ps) = cond (takes s p) (p ∷ kept s ps) (kept s ps)

-- the fields of a text
abbrev pub split : Separator → List ℕ → List (List ℕ)
split s text = kept s (pieces (mark_of s) text)

-- the fields of what is left, none at the end
abbrev pub left : Separator → Option (Bor (List ℕ)) → List (List ℕ)
left s None = []
left s (Some t) = split s t.now

-- the first of some fields, and the others
abbrev pub first : List (List ℕ) → Option (List ℕ)
first [] = None
first (w ∷ ws) = Some w

abbrev pub others : List (List ℕ) → List (List ℕ)
others [] = []
others (w ∷ ws) = ws
