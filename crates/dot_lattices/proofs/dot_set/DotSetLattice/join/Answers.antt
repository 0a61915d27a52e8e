use Rattle.std.proofs.Common.{ap, sym, subst}
use Rattle.lattice_laws.specs.Entries.{plain_entries}
use Rattle.lattice_laws.specs.Sets.{united}
use Rattle.dot_lattices.specs.DotSet.{AreUnseen, joined_removals}
use Rattle.dot_lattices.specs.DotSetLaws.{unseen_are}
use Rattle.dot_lattices.specs.Insert.{insert_cmp}
use Rattle.dot_lattices.proofs.DotSetLemmas.{joined_in_place, joined_parts}
use Rattle.dot_lattices.proofs.dot_set.DotSetLattice.join.Goals as goal

pub returns-then-is_empty-clause-ok : goal.returns-then-is_empty-clause-ok
returns-then-is_empty-clause-ok c =
    joined_in_place c.args.self.now c.args.other.now c.self.view_is c.other.view_is c.attest.ensures c.attest-2.ensures (ap (plain_entries (λ clock. clock)) (c.is_empty.ensures.0 c.if-is_empty.true)) _ (λ j. plain_entries (λ clock. clock) c.self.inside.removals)
    c.in_ok-more.ensures c.in_ok-join.ensures.ok

pub invariant_of-self-then-is_empty : goal.invariant_of-self-then-is_empty
invariant_of-self-then-is_empty c =
    let a = c.args.self.now in
    let b = c.args.other.now in
    let joined =
    joined_in_place a b c.self.view_is c.other.view_is c.attest.ensures c.attest-2.ensures (ap (plain_entries (λ clock. clock)) (c.is_empty.ensures.0 c.if-is_empty.true)) (record { inserts = c.join.new.self; removals = plain_entries (λ clock. clock) c.self.inside.removals }) (λ j. plain_entries (λ clock. clock) c.self.inside.removals)
    c.in_ok-more.ensures c.in_ok-join.ensures.ok in
    subst AreUnseen (sym joined) (unseen_are (joined_removals a.removals b.removals) (united insert_cmp a.inserts b.inserts))

pub returns-clause-ok : goal.returns-clause-ok
returns-clause-ok c = joined_parts c.args.self.now c.args.other.now c.self.view_is c.other.view_is c.attest.ensures c.attest-2.ensures _ c.in_ok-removals.ensures c.in_ok-inserts.ensures c.in_ok-more.ensures c.in_ok-join-2.ensures.ok

pub invariant_of-self-2 : goal.invariant_of-self-2
invariant_of-self-2 c =
    let a = c.args.self.now in
    let b = c.args.other.now in
    let joined = joined_parts a b c.self.view_is c.other.view_is c.attest.ensures c.attest-2.ensures _ c.in_ok-removals.ensures c.in_ok-inserts.ensures c.in_ok-more.ensures c.in_ok-join-2.ensures.ok in
    subst AreUnseen (sym joined) (unseen_are (joined_removals a.removals b.removals) (united insert_cmp a.inserts b.inserts))
