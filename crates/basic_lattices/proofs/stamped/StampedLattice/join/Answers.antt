use Rattle.std.proofs.Common.{ap, sym, ◌∙◌}
use Rattle.std.specs.Ordering.{is_lt}
use Rattle.basic_lattices.proofs.StampedLemmas.{stamp_if_below, stamp_unless_below}
use Rattle.basic_lattices.proofs.stamped.StampedLattice.join.Goals as goal

pub returns-in_ok-self-clause-ok : goal.returns-in_ok-self-clause-ok
returns-in_ok-self-clause-ok c = c.in_ok-self.ensures ∙ sym (stamp_if_below c.args.self.now c.args.other.now (ap is_lt (sym c.cmp.ensures) ∙ sym c.is_lt.ensures ∙ c.if-is_lt.true))

pub returns-else-is_lt-clause-ok : goal.returns-else-is_lt-clause-ok
returns-else-is_lt-clause-ok c = sym (stamp_unless_below c.args.self.now c.args.other.now (ap is_lt (sym c.cmp.ensures) ∙ sym c.is_lt.ensures ∙ c.if-is_lt.false))
