use mathlib.Core.Bool.{false≢true}
use Rattle.lattice_laws.proofs.Merging.{at_most_goes_on, never_at_most, at_most_done}
use Rattle.lattice_laws.proofs.entries.at_most_entries.Goals as goal

pub returns-in_default : goal.returns-in_default
returns-in_default g c = (
  λ yes. absurd (false≢true yes),
  λ at_most. absurd (never_at_most g.K.Ord.cmp g.L.Lattice.joined g.L.Lattice.plain c.args.mine.now c.args.theirs.now c.loop-entry.found c.loop-entry.entry-index c.entry-item.result
      c.loop-entry.invariant c.loop-entry-test.true c.entry-item.is c.requires.theirs c.in_default.ensures at_most),
)

pub loop-entry-preserved : goal.loop-entry-preserved
loop-entry-preserved g c =
    at_most_goes_on g.K.Ord.cmp g.L.Lattice.joined g.L.Lattice.plain c.args.mine.now c.args.theirs.now c.loop-entry.found c.loop-entry.entry-index c.in-Some.more c.entry-item.result
    c.loop-entry.invariant c.loop-entry-test.true c.entry-item.is c.requires.mine c.requires.theirs c.in-Some.ensures

pub returns : goal.returns
returns g c =
    at_most_done g.K.Ord.cmp g.L.Lattice.joined g.L.Lattice.plain c.args.mine.now c.args.theirs.now c.loop-entry.found c.loop-entry.entry-index c.loop-entry.invariant c.loop-entry-test.false
