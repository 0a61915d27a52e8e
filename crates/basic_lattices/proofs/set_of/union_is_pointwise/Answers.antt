use Rattle.lattice_laws.specs.SetsLaws.{has-united}
use Rattle.basic_lattices.proofs.set_of.union_is_pointwise.Goals as goal

pub returns : goal.returns
returns g c = has-united g.met.K.Ord.total g.met.K.MapKey.exact g.K.MapKey.is_key
