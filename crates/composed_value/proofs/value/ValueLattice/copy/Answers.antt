use Rattle.std.proofs.Common.{ap, sym, ◌∙◌}
use Rattle.composed_value.specs.declared.value.Value.TheVariants.{Map}
use Rattle.composed_value.proofs.Values.{same_entries}
use Rattle.composed_value.proofs.value.ValueLattice.copy.Goals as goal

pub returns-in_ok-copy-in-Map : goal.returns-in_ok-copy-in-Map
returns-in_ok-copy-in-Map c = ap Map (same_entries c.in_ok-copy-in-Map.field-0 c.in-Map.fields c.in_ok-copy-in-Map.ensures) ∙ sym c.in-Map.is
