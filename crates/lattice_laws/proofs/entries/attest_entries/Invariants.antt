use Rattle.std.proofs.Common.{All, take}
use Rattle.lattice_laws.specs.Entries.{IsEntry}
use Rattle.lattice_laws.proofs.entries.attest_entries.Given as goal

-- the entries so far are entries
abbrev pub invariant-loop-entry : goal.invariant-loop-entry
invariant-loop-entry g l = All (λ entry. IsEntry g.K.MapKey.is_key g.L.Lattice.is_value (entry.0, g.L.Lattice.plain entry.1)) (take l.entry-index l.entries)
