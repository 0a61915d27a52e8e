use Rattle.placement.specs.Config.{IsOneOf}
use Rattle.report_lines.specs.Text.{worker_word}
use Rattle.report_reader.proofs.ReadAnswerLemmas.{worker_told}
use Rattle.report_reader.proofs.ReadCellLines.{number_read}
use Rattle.report_reader.proofs.answers.is_worker.Goals as goal

pub returns : goal.returns
returns c =
    let workers = c.args.script.now.config.workers in
    number_read (IsOneOf workers) worker_word c.args.word.now c.args.worker c.read_worker.result c.eq.result c.requires.worker (λ m is same. worker_told workers c.requires.valid.1.config.workers_most m c.args.worker c.requires.worker is same) c.read_worker.ensures c.eq.ensures
