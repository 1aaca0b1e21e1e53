-- A number in decimal. Leading zeros are taken, signs are not.
use Rattle.std.specs.Prelude.{ℕ, ◌+◌, ◌-◌, ◌*◌, cond, ◌&&◌, List, [], ◌∷◌, length, Some, None, Option, nat_le, nat_lt}
use Rattle.std.specs.Char.{is_ascii_digit}
use Rattle.std.specs.Str.{all_ascii_digits}

-- the number that digits write after the number n
abbrev pub value_after : ℕ → List ℕ → ℕ
value_after n [] = n
value_after n (c ∷ cs) = value_after (n * 10 + (c - 48)) cs

-- the number that a text writes: one digit or more, and nothing past the largest that the field takes
unfoldable pub number_of : ℕ → List ℕ → Option ℕ
number_of most text =
    cond (nat_lt 0 (length text) && (all_ascii_digits text && nat_le (value_after 0 text) most)) (Some (value_after 0 text)) None

-- a number with one more digit behind it, if that is a digit and the number not too large
abbrev pub longer : ℕ → ℕ → ℕ → Option ℕ
longer most n c = cond (is_ascii_digit c && nat_le (n * 10 + (c - 48)) most) (Some (n * 10 + (c - 48))) None
