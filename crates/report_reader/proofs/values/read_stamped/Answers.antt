use Rattle.report_reader.proofs.ReadValueParts.{stamped_parts, no_stamp}
use Rattle.report_reader.proofs.values.read_stamped.Goals as goal

pub returns-in_default-read_stamp : goal.returns-in_default-read_stamp
returns-in_default-read_stamp c = no_stamp c.args.script.now c.args.text.now c.in-Some.word.now c.in-Some.stamp.now c.in-Some.ensures c.in_default-read_stamp.ensures

pub returns-in_default-read_word : goal.returns-in_default-read_word
returns-in_default-read_word c stamped is same =
    c.in_default-read_word.ensures stamped.word is.0.is_word (stamped_parts c.args.script.now c.args.text.now c.in-Some.word.now c.in-Some.stamp.now stamped c.in-Some.ensures is same).0
