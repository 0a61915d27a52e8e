use Rattle.std.proofs.Common.{◌≡◌, take}
use Rattle.lattice_laws.specs.Entries.{plain_entries}
use Rattle.lattice_laws.proofs.entries.copy_entries.Given as goal

-- the copies are the entries so far
abbrev pub invariant-loop-entry : goal.invariant-loop-entry
invariant-loop-entry g l = plain_entries g.L.Lattice.plain l.copies.items ≡ plain_entries g.L.Lattice.plain (take l.entry-index l.entries)
