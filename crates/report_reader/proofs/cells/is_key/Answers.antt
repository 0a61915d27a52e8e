use Rattle.session_known.specs.Script.{key_name}
use Rattle.report_reader.proofs.ReadCellWords.{text_tested}
use Rattle.report_reader.proofs.cells.is_key.Goals as goal

pub returns : goal.returns
returns c = text_tested c.key_name.result.now c.args.word.now (key_name c.args.script.now c.args.key) c.eq.result c.eq.ensures c.key_name.ensures
