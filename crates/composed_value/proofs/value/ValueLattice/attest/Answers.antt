use Rattle.std.proofs.Common.{subst, sym}
use Rattle.lattice_laws.proofs.EntriesLemmas.{plain_itself}
use Rattle.composed_value.specs.Value.{IsFields, IsValue}
use Rattle.composed_value.proofs.value.ValueLattice.attest.Goals as goal

pub returns-in-Map : goal.returns-in-Map
returns-in-Map c = subst IsValue (sym c.in-Map.is) (subst IsFields (plain_itself c.in-Map.fields) c.attest-in-Map.ensures)
