-- The ports of a UDP segment, two bytes each, the higher first.
use Rattle.std.specs.Prelude.{ℕ, ◌+◌, ◌*◌, List, slice_index}

abbrev pub port_at : List ℕ → ℕ → ℕ
port_at segment i = slice_index segment i * 256 + slice_index segment (i + 1)

abbrev pub source_of : List ℕ → ℕ
source_of segment = port_at segment 0

abbrev pub destination_of : List ℕ → ℕ
destination_of segment = port_at segment 2
