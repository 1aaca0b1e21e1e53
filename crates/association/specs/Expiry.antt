-- A set's expiry.
use Rattle.std.specs.Prelude.{ℕ}
use Rattle.association.specs.declared.set.Set.{Set}

abbrev pub expiry_of : Set → ℕ
expiry_of x = x.expiry

-- the set with another expiry
abbrev pub lasting : ℕ → Set → Set
lasting e x = record { parameters = x.parameters; expiry = e; sent = x.sent; window = x.window }
