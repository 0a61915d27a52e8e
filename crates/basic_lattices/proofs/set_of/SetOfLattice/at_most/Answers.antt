use Rattle.lattice_laws.proofs.SetsLemmas.{united_is_second}
use Rattle.basic_lattices.proofs.set_of.SetOfLattice.at_most.Goals as goal

pub returns : goal.returns
returns g c =
    let same = united_is_second g.K.Ord.cmp _ _ c.args.self.now c.args.other.now c.self.view_is c.other.view_is in
    ((λ h. same.0 (c.at_most.ensures.0 h)), (λ h. c.at_most.ensures.1 (same.1 h)))
