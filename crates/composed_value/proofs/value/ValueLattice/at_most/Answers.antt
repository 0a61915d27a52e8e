use Rattle.composed_value.proofs.Values.{fields_at_most}
use Rattle.composed_value.proofs.value.ValueLattice.at_most.Goals as goal

pub returns-in-Map-Map : goal.returns-in-Map-Map
returns-in-Map-Map c = fields_at_most c.at_most-in-Map-Map.result c.in-Map-Map.mine c.in-Map-Map.theirs c.args.self.now c.args.other.now c.in-Map-Map.is-0 c.in-Map-Map.is-1 c.at_most-in-Map-Map.ensures
