-- What a line says of a message of the handset.
use Rattle.std.specs.Prelude.{ℕ, cond, List, [], ◌∷◌, Some, None, codes, Option}
use Rattle.procedure.specs.declared.message.Message.{Message}
use Rattle.procedure.specs.declared.message.Message.TheVariants.{Opening, Ordinary, Response}
use Rattle.procedure.specs.declared.offer.Offer.{Offer}
use Rattle.script.specs.Words.{and_then, ended, field, number16, number32, number8}
use Rattle.std.specs.Str.{bytes_eq}

--   PORT SPI A B
abbrev pub offer_of : List (List ℕ) → Option Offer
offer_of ws =
    field number16 ws (λ port ws. field number32 ws (λ spi ws. field number8 ws (λ a ws. field number8 ws (λ b ws.
    ended (record { port = port; spi = spi; first = a; second = b }) ws))))

--   SUB PORT SPI A B
abbrev pub opening_of : List (List ℕ) → Option Message
opening_of ws = field number32 ws (λ s ws. and_then (offer_of ws) (λ o. Some (Opening s o)))

--   PORT SPI A B
abbrev pub response_of : List (List ℕ) → Option Message
response_of ws = and_then (offer_of ws) (λ o. Some (Response o))

--   IMPU
abbrev pub ordinary_of : List (List ℕ) → Option Message
ordinary_of ws = field number8 ws (λ impu ws. ended (Ordinary impu) ws)

-- a message whose kind a word names
abbrev pub message_by : List ℕ → List (List ℕ) → Option Message
message_by kind ws =
    cond (bytes_eq kind (codes "opening")) (opening_of ws)
    (cond (bytes_eq kind (codes "response")) (response_of ws)
    (cond (bytes_eq kind (codes "ordinary")) (ordinary_of ws) None))

--   opening ..   response ..   ordinary ..
unfoldable pub message_of : List (List ℕ) → Option Message
message_of [] = None
message_of (kind ∷ ws) = message_by kind ws
