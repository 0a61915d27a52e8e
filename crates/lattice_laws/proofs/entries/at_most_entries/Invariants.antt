use Rattle.lattice_laws.proofs.Merging.{AtMostGoesOn}
use Rattle.lattice_laws.proofs.entries.at_most_entries.Given as goal

-- the whole question is the question of what is left
abbrev pub invariant-loop-entry : goal.invariant-loop-entry
invariant-loop-entry g l = AtMostGoesOn g.K.Ord.cmp g.L.Lattice.joined g.L.Lattice.plain l.mine l.theirs l.found l.entry-index
