use Rattle.std.proofs.Common.{subst, sym}
use Rattle.clock_lattice.specs.Needs.{IsNeeds}
use Rattle.clock_lattice.specs.NeedsLaws.{needs_laws}
use Rattle.clock_lattice.proofs.needs.Needs.joined.Goals as goal

pub invariant_of-result : goal.invariant_of-result
invariant_of-result c = subst IsNeeds (sym c.in_ok-join_shared.ensures.joined) (needs_laws.closed _ _ c.self.invariant c.other.invariant tt).0
