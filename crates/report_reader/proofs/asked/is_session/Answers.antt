use Rattle.session_known.specs.Script.{session_name}
use Rattle.report_reader.proofs.ReadCellWords.{text_tested}
use Rattle.report_reader.proofs.asked.is_session.Goals as goal

pub returns : goal.returns
returns c = text_tested c.session_name.result.now c.args.word.now (session_name c.args.script.now c.args.session) c.eq.result c.eq.ensures c.session_name.ensures
