use Rattle.std.proofs.Common.{◌+◌, ◌-◌, length}
use Rattle.lattice_laws.proofs.Merging.{JoinGoesOn}
use Rattle.lattice_laws.proofs.entries.join_entries.Given as goal

-- what is done, and the join of what is left, is the whole join
abbrev pub invariant-loop-of_mine : goal.invariant-loop-of_mine
invariant-loop-of_mine g l = JoinGoesOn g.K.Ord.cmp g.L.Lattice.joined g.L.Lattice.plain l.mine l.theirs l.all.items l.of_mine l.of_theirs

-- each turn takes an entry
abbrev pub decreases-loop-of_mine : goal.decreases-loop-of_mine
decreases-loop-of_mine g l = (length l.mine - l.of_mine) + (length l.theirs - l.of_theirs)
