use Rattle.lattice_laws.specs.EntriesLaws as laws
use Rattle.basic_lattices.proofs.map_of.maps_join_per_key.Goals as goal

pub returns : goal.returns
returns g c = laws.maps_join_per_key g.met.K.Ord.total g.met.K.MapKey.exact g.K.MapKey.is_key g.met.L.Lattice.laws g.met.L.AllFit.all_fit
