use Rattle.std.proofs.Common.{ap, ◌∙◌}
use Rattle.report_lines.proofs.LinesLemmas.{final_line}
use Rattle.report_lines.proofs.NamesLemmas.{tells_names}
use Rattle.report_reader.specs.ReadLines.{IsFinalAt}
use Rattle.report_lines.specs.Text.{final_words}
use Rattle.report_reader.proofs.ReadCellLines.{line_read_if}
use Rattle.script_reader.specs.Words.{texts}
use Rattle.report_reader.proofs.answers.read_final.Goals as goal

pub returns : goal.returns
returns c =
    let names = tells_names c.args.script.now c.requires.valid.0 c.requires.valid.1 in
    line_read_if (IsFinalAt c.args.script.now c.args.key c.args.worker) (final_words c.args.script.now) (λ cell is. final_line c.args.script.now names cell is.in_form) c.args.text.now (texts c.as_slice.result.now) c.read_final_words.result (ap texts c.as_slice.ensures.value ∙ c.in_ok-words.ensures) c.read_final_words.ensures
