use Rattle.std.proofs.Common.{rules}
use Rattle.report_reader.proofs.ReadPartLemmas.{key_line_is}
use Rattle.report_reader.proofs.lines.key_line.Goals as goal

pub returns : goal.returns
returns c =
    key_line_is c.args.script.now c.args.key c.args.workers.now c.kind_of.result c.push_numbers.new.line.items (search rules) (search rules)
