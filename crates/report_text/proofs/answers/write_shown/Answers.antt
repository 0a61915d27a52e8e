use Rattle.std.proofs.Common.{[]}
use Rattle.report_lines.specs.Text.{worker_word, cell_words}
use Rattle.report_text.proofs.WritesLemmas.{Adds-word, Adds-words}
use Rattle.report_text.proofs.answers.write_shown.Goals as goal

pub returns : goal.returns
returns g c =
    let shown = c.args.shown.now in
    Adds-word (worker_word c.args.worker) _ c.write_spaced_worker.ensures (Adds-words (cell_words c.args.script.now shown.clock shown.top shown.value []) _ c.write_cell.ensures c.write_shown_needs.ensures)
