use Rattle.std.proofs.Common.{ap, ◌∙◌}
use Rattle.std.specs.FinMap.{is_sorted}
use Rattle.lattice_laws.specs.Ascending.{joined_ascending}
use Rattle.lattice_laws.specs.Entries.{plain_entries}
use Rattle.lattice_laws.proofs.Merging.{ascending_from, join_goes_on, join_done}
use Rattle.lattice_laws.proofs.entries.join_entries.Goals as goal

pub push_first-requires-clause-mine : goal.push_first-requires-clause-mine
push_first-requires-clause-mine g c = ascending_from g.K.Ord.cmp g.L.Lattice.plain c.args.mine.now c.loop-of_mine.of_mine c.requires.mine

pub push_first-requires-clause-theirs : goal.push_first-requires-clause-theirs
push_first-requires-clause-theirs g c = ascending_from g.K.Ord.cmp g.L.Lattice.plain c.args.theirs.now c.loop-of_mine.of_theirs c.requires.theirs

pub loop-of_mine-preserved : goal.loop-of_mine-preserved
loop-of_mine-preserved g c =
    join_goes_on g.K.Ord.cmp g.L.Lattice.joined g.L.Lattice.plain c.args.mine.now c.args.theirs.now c.loop-of_mine.all.items c.push_first.new.all.items c.loop-of_mine.of_mine c.loop-of_mine.of_theirs c.in_ok-more.more c.in_ok-more.theirs_more
    c.loop-of_mine.invariant c.in_ok-more.ensures

pub returns-clause-ascending : goal.returns-clause-ascending
returns-clause-ascending g c =
    ap (is_sorted g.K.Ord.cmp) (join_done g.K.Ord.cmp g.L.Lattice.joined g.L.Lattice.plain c.args.mine.now c.args.theirs.now c.loop-of_mine.all.items c.loop-of_mine.of_mine c.loop-of_mine.of_theirs c.loop-of_mine.invariant c.if-of_mine-mine.false c.if-of_theirs-theirs.false)
    ∙ joined_ascending g.K.Ord.cmp g.met.K.Ord.total g.L.Lattice.joined (plain_entries g.L.Lattice.plain c.args.mine.now) (plain_entries g.L.Lattice.plain c.args.theirs.now) c.requires.mine
