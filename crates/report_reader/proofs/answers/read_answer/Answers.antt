use Rattle.std.proofs.Common.{ap, ◌∙◌}
use Rattle.session_known.specs.Form.{Fits}
use Rattle.report_lines.proofs.LinesLemmas.{answer_line}
use Rattle.report_lines.proofs.NamesLemmas.{tells_names}
use Rattle.report_lines.specs.Text.{answer_words}
use Rattle.report_reader.proofs.ReadCellLines.{line_read_if}
use Rattle.script_reader.specs.Words.{texts}
use Rattle.report_reader.proofs.answers.read_answer.Goals as goal

pub returns : goal.returns
returns c =
    let names = tells_names c.args.script.now c.requires.0 c.requires.1 in
    line_read_if (Fits c.args.script.now c.args.level c.args.line.now) (answer_words c.args.script.now c.args.line.now) (answer_line c.args.script.now names c.args.level c.args.line.now) c.args.text.now (texts c.as_slice.result.now) c.read_answer_words.result (ap texts c.as_slice.ensures.value ∙ c.in_ok-words.ensures) c.read_answer_words.ensures
