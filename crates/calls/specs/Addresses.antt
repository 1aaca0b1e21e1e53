-- Addresses of handsets.
use Rattle.std.specs.Prelude.{ℕ, cond, List, length, take, drop, Some, None, Option, ◌==◌}
use Rattle.association.specs.Asked.{Address}
use Rattle.script.specs.Hex.{bytes_of}
use Rattle.script.specs.Words.{and_then}
use Rattle.std.specs.Int.Digits.{number_from_digits}

-- the number that bytes write, the highest first
abbrev pub half_of : List ℕ → ℕ
half_of bs = number_from_digits 256 bs

-- 16 bytes: the high 64 bits and then the low
abbrev pub address_by : List ℕ → Option Address
address_by bs = cond (length bs == 16) (Some (half_of (take 8 bs), half_of (drop 8 bs))) None

-- 32 digits in hexadecimal
abbrev pub address_of : List ℕ → Option Address
address_of w = and_then (bytes_of w) address_by
