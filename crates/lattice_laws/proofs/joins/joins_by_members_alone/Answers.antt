use Rattle.lattice_laws.proofs.JoinsLemmas.{joined_all_by_members}
use Rattle.lattice_laws.proofs.joins.joins_by_members_alone.Goals as goal

pub returns : goal.returns
returns g c = joined_all_by_members g.met.L.Lattice.laws g.met.L.Lattice.associative
