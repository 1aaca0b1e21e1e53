-- What a set is known by, and a new one.
use Rattle.std.specs.Prelude.{ℕ, Bool, ◌&&◌, ◌||◌, ◌==◌}
use Rattle.association.specs.declared.set.Parameters.{Parameters}
use Rattle.association.specs.declared.set.Set.{Set}
use Rattle.esp.specs.Window.{empty}
use Rattle.esp.specs.declared.association.Association.{Association}

-- an address: its high and its low 64 bits
abbrev pub Address : Type 0
Address = ℕ × ℕ

-- the address and port of the handset
abbrev pub pair_is : Address → ℕ → Parameters → Bool
pair_is a port x = x.address.0 == a.0 && (x.address.1 == a.1 && x.port == port)

-- the handset's address and the proxy's SPI
abbrev pub own_is : Address → ℕ → Parameters → Bool
own_is a spi x = x.address.0 == a.0 && (x.address.1 == a.1 && x.own_spi == spi)

-- an SPI of either side
abbrev pub spi_is : ℕ → Parameters → Bool
spi_is spi x = x.spi == spi || x.own_spi == spi

-- a new set has sent nothing and taken nothing
abbrev pub fresh : Parameters → ℕ → Set
fresh p e = record { parameters = p; expiry = e; sent = 0; window = empty }

-- the two associations of a set: packets to the handset name its own SPI, packets from it the proxy's
abbrev pub under : ℕ → Parameters → Association
under spi x = record { algorithm = x.algorithm; ik = x.ik; spi = spi }

abbrev pub outbound : Parameters → Association
outbound x = under x.spi x

abbrev pub inbound : Parameters → Association
inbound x = under x.own_spi x
