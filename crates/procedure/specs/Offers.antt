-- Offers, and the proxy's own list of algorithms.
use Rattle.std.specs.Prelude.{ℕ, Bool, cond, not, ◌&&◌, ◌||◌, List, [], ◌∷◌, is_some, Some, None, Option, ◌==◌, nat_le}
use Rattle.integrity.specs.Algorithms.{algorithm_by, algorithm_number}
use Rattle.integrity.specs.declared.algorithm.Algorithm.{Algorithm}
use Rattle.procedure.specs.declared.offer.Offer.{Offer}
use Rattle.procedure.specs.declared.service.Preference.{Preference}
use Rattle.procedure.specs.declared.service.Preference.TheVariants as own

-- port at least 1, SPI at least 256, the first algorithm 1 or 2, the second 0, 1 or 2 and not the first
abbrev pub offer_right : Offer → Bool
offer_right o =
    nat_le 1 o.port
    && (nat_le 256 o.spi && ((o.first == 1 || o.first == 2) && (nat_le o.second 2 && not (o.second == o.first))))

abbrev pub offer_has : Offer → Algorithm → Bool
offer_has o a = o.first == algorithm_number a || o.second == algorithm_number a

-- equal in port, SPI and both algorithm numbers, in order
abbrev pub same_offer : Offer → Offer → Bool
same_offer o w =
    (o.port == w.port) && (o.spi == w.spi && (o.first == w.first && o.second == w.second))

abbrev pub only_of : Option Algorithm → Option Preference
only_of None = None
only_of (Some a) = Some (own.Only a)

abbrev pub both_of : Option Algorithm → Option Algorithm → Option Preference
both_of None b = None
both_of (Some a) None = None
both_of (Some a) (Some b) = Some (own.Both a b)

-- a list of one or two different algorithms, each 1 or 2; every other list says none
abbrev pub listed : List ℕ → Option Preference
listed [] = None
listed (a ∷ []) = only_of (algorithm_by a)
listed (a ∷ (b ∷ [])) = cond (a == b) None (both_of (algorithm_by a) (algorithm_by b))
listed (a ∷ (b ∷ (c ∷ more))) = None

-- whether the proxy has an algorithm
abbrev pub serves : Option Preference → Bool
serves list = is_some list

-- the first of the proxy's list that the offer has
abbrev pub common : Option Preference → Offer → Option Algorithm
common None o = None
common (Some (own.Only a)) o = cond (offer_has o a) (Some a) None
common (Some (own.Both a b)) o = cond (offer_has o a) (Some a) (cond (offer_has o b) (Some b) None)
