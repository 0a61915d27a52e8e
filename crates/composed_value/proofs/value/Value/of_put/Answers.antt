use Rattle.composed_value.proofs.Values.{field_brought}
use Rattle.composed_value.proofs.value.Value.of_put.Goals as goal

pub returns-in_ok-raise-in-Field : goal.returns-in_ok-raise-in-Field
returns-in_ok-raise-in-Field c = field_brought c.args.put.now c.in-Field.field _ c.in-Field.number c.new-fields.result c.raise.new.self c.in-Field.is c.new-fields.ensures c.in_ok-copy-in-Field.ensures c.in_ok-raise-in-Field.ensures.ok
