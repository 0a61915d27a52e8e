use Rattle.std.proofs.Common.{ap, ◌∙◌}
use Rattle.std.specs.Ordering.{is_le}
use Rattle.basic_lattices.proofs.StampedLemmas.{stamp_is_second}
use Rattle.basic_lattices.proofs.stamped.StampedLattice.at_most.Goals as goal

pub returns : goal.returns
returns c = rw (c.is_le.ensures ∙ ap is_le c.cmp.ensures) (stamp_is_second c.args.self.now c.args.other.now)
