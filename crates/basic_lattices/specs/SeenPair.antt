-- The pairs of the program as plain data.
use Rattle.lattice_laws.specs.Entries.{plain_entries}
use Rattle.basic_lattices.specs.PaperPair.{PlainPair}
use Rattle.basic_lattices.specs.declared.paper_pair.PaperPair.{PaperPair}

-- a pair as plain data
abbrev pub seen : PaperPair → PlainPair
seen pair = record { clock = plain_entries (λ count. count) pair.clock; words = pair.words }
