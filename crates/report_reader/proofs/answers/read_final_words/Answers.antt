use Rattle.std.proofs.Common.{[]}
use Rattle.report_reader.proofs.ReadCellLemmas.{no_final}
use Rattle.report_reader.proofs.answers.read_final_words.Goals as goal

pub returns-in_default-2 : goal.returns-in_default-2
returns-in_default-2 c = no_final c.args.script.now c.args.key c.args.worker c.args.words.now (record { ref_ptr = (0, 0); now = [] }) c.in_ok-cell.field-0 c.in-len2-up.len_at_least c.in_default-2.is c.in_ok-cell.ensures
