use Rattle.std.proofs.Common.{ap, ◌∙◌}
use Rattle.std.proofs.lemmas.Result.{on_ok_weaker}
use Rattle.lattice_laws.specs.Sets.{keys_of, united}
use Rattle.lattice_laws.specs.SetsLaws.{keys_of-as_map}
use Rattle.lattice_laws.proofs.SetsLemmas.{joined_views}
use Rattle.basic_lattices.proofs.set_of.SetOfLattice.join.Goals as goal

pub returns-clause-ok : goal.returns-clause-ok
returns-clause-ok g c =
    on_ok_weaker c.join.result (λ joined. ap keys_of (joined ∙ joined_views g.K.Ord.cmp _ _ c.args.self.now c.args.other.now c.self.view_is c.other.view_is)
    ∙ keys_of-as_map (united g.K.Ord.cmp c.args.self.now c.args.other.now)) c.join.ensures.ok
