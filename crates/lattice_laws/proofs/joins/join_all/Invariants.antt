use Rattle.std.proofs.Common.{map, take}
use Rattle.lattice_laws.proofs.Joining.{JoinedSoFar}
use Rattle.lattice_laws.proofs.joins.join_all.Given as goal

-- what has been joined is the join of the first and the elements so far
abbrev pub invariant-loop-each : goal.invariant-loop-each
invariant-loop-each g l =
    let plain = g.L.Lattice.plain in
    JoinedSoFar g.L.Lattice.is_value g.L.Lattice.fits g.L.Lattice.joined (plain l.first) (map plain (take l.each-index l.rest)) (plain l.all)
