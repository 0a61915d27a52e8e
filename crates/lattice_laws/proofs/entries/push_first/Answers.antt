use Rattle.std.proofs.Common.{sym, ap, ◌∙◌}
use Rattle.lattice_laws.proofs.Merging.{step_of_mine, step_of_both, step_of_theirs}
use Rattle.lattice_laws.proofs.entries.push_first.Goals as goal

pub returns-in_ok-push-in-Less : goal.returns-in_ok-push-in-Less
returns-in_ok-push-in-Less g c =
    step_of_mine g.K.Ord.cmp g.L.Lattice.joined g.met.K.Ord.total g.L.Lattice.plain c.args.all.now.items c.args.mine.now c.args.theirs.now c.push.new.self.items c.index-mine-0.result _
    (sym c.in-Less.ensures) c.requires.some c.requires.theirs c.in_ok-push-in-Less.ensures.items (c.in_ok-copy_entry-in-Less.ensures.key ∙ ap (λ x. x.0) c.index-mine-0.is) (c.in_ok-copy_entry-in-Less.ensures.value ∙ ap (λ x. g.L.Lattice.plain x.1) c.index-mine-0.is)

pub returns-in_ok-push-in-Equal : goal.returns-in_ok-push-in-Equal
returns-in_ok-push-in-Equal g c =
    step_of_both g.K.Ord.cmp g.L.Lattice.joined g.met.K.Ord.total g.L.Lattice.plain c.args.all.now.items c.args.mine.now c.args.theirs.now c.push-in-Equal.new.self.items c.index-mine-0-in-Equal.result c.index-theirs-0.result _
    (sym c.in-Equal.ensures) c.requires.theirs c.in_ok-push-in-Equal.ensures.items (c.in_ok-join_entry-in-Equal.ensures.key ∙ ap (λ x. x.0) c.index-mine-0-in-Equal.is)
    (c.in_ok-join_entry-in-Equal.ensures.value ∙ (λ i. g.L.Lattice.joined (g.L.Lattice.plain (c.index-mine-0-in-Equal.is i).1) (g.L.Lattice.plain (c.index-theirs-0.is i).1)))

pub returns-in_ok-push-in-Greater : goal.returns-in_ok-push-in-Greater
returns-in_ok-push-in-Greater g c =
    step_of_theirs g.K.Ord.cmp g.L.Lattice.joined g.met.K.Ord.total g.L.Lattice.plain c.args.all.now.items c.args.mine.now c.args.theirs.now c.push-in-Greater.new.self.items c.index-theirs-0-in-Greater.result _
    (sym c.in-Greater.ensures) c.requires.mine c.requires.theirs c.in_ok-push-in-Greater.ensures.items (c.in_ok-copy_entry-in-Greater.ensures.key ∙ ap (λ x. x.0) c.index-theirs-0-in-Greater.is) (c.in_ok-copy_entry-in-Greater.ensures.value ∙ ap (λ x. g.L.Lattice.plain x.1) c.index-theirs-0-in-Greater.is)
