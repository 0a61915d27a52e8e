use Rattle.std.proofs.Common.{sym, ◌∙◌}
use Rattle.report_reader.proofs.ReadCellWords.{named_some}
use Rattle.report_reader.proofs.cells.named.Goals as goal

pub returns : goal.returns
returns c = named_some c.args.words.now _ c.args.name.now c.in-len2-up.len_at_least (sym c.ne.ensures ∙ c.if-ne.false)
