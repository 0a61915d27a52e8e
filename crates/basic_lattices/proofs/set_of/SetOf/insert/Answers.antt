use Rattle.std.specs.FinMap.{put}
use Rattle.std.proofs.Common.{ap, ◌∙◌}
use Rattle.lattice_laws.specs.Sets.{keys_of}
use Rattle.lattice_laws.proofs.SetsLemmas.{map_of_view}
use Rattle.basic_lattices.proofs.set_of.SetOf.insert.Goals as goal

pub returns-clause-ok : goal.returns-clause-ok
returns-clause-ok g c = ap keys_of (c.in_ok-raise.ensures.ok ∙ ap (put g.K.Ord.cmp c.args.member tt) (map_of_view _ c.args.self.now c.self.view_is))
