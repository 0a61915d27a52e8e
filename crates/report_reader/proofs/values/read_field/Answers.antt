use Rattle.report_reader.proofs.ReadValueParts.{field_parts}
use Rattle.report_reader.proofs.values.read_field.Goals as goal

pub returns-in_default-read_number : goal.returns-in_default-read_number
returns-in_default-read_number c field is same = c.in_default-read_number.ensures field.1 is.1 (field_parts c.args.text.now c.in-Some.field.now c.in-Some.number.now field c.in-Some.ensures is same).1

pub returns-in_default-read_word : goal.returns-in_default-read_word
returns-in_default-read_word c field is same = c.in_default-read_word.ensures field.0 is.0 (field_parts c.args.text.now c.in-Some.field.now c.in-Some.number.now field c.in-Some.ensures is same).0
