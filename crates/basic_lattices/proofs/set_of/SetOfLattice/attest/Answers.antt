use Rattle.std.proofs.Common.{subst}
use Rattle.lattice_laws.specs.Sets.{IsSet}
use Rattle.lattice_laws.specs.SetsLaws.{map_is_set}
use Rattle.basic_lattices.proofs.set_of.SetOfLattice.attest.Goals as goal

pub returns : goal.returns
returns g c = subst (IsSet g.K.Ord.cmp g.K.MapKey.is_key) c.self.view_is (map_is_set g.K.Ord.cmp g.K.MapKey.is_key _ c.attest.ensures)
