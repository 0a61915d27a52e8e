use Rattle.std.proofs.Common.{sym}
use Rattle.lattice_laws.proofs.Merging.{nothing_to_pass, too_late, in_time_answers, too_early}
use Rattle.lattice_laws.proofs.entries.passed.Goals as goal

pub returns-in_default : goal.returns-in_default
returns-in_default g c =
    nothing_to_pass g.K.Ord.cmp g.L.Lattice.joined g.met.K.Ord.total g.L.Lattice.plain c.args.mine.now (c.args.entry.now.0, g.L.Lattice.plain c.args.entry.now.1) c.in_default.ensures.value

pub returns-in-Less : goal.returns-in-Less
returns-in-Less g c =
    too_late g.K.Ord.cmp g.L.Lattice.joined g.met.K.Ord.total g.L.Lattice.plain c.args.mine.now c.in-Some.first.now (c.args.entry.now.0, g.L.Lattice.plain c.args.entry.now.1) c.in-Some.ensures.value (sym c.in-Less.ensures)

pub returns-in-Equal : goal.returns-in-Equal
returns-in-Equal g c =
    in_time_answers g.K.Ord.cmp g.L.Lattice.joined g.met.K.Ord.total g.L.Lattice.plain g.met.K.MapKey.exact c.args.mine.now c.in-Some.first.now (c.args.entry.now.0, g.L.Lattice.plain c.args.entry.now.1) c.at_most.result c.then_some.result
    c.in-Some.ensures.value (sym c.in-Equal.ensures) c.at_most.ensures c.then_some.ensures

pub returns-in-Greater : goal.returns-in-Greater
returns-in-Greater g c =
    too_early g.K.Ord.cmp g.L.Lattice.joined g.met.K.Ord.total g.L.Lattice.plain c.args.mine.now c.in-Some.first.now (c.args.entry.now.0, g.L.Lattice.plain c.args.entry.now.1) c.in-Some.ensures.value (sym c.in-Greater.ensures)
