use Rattle.std.proofs.Common.{ap}
use Rattle.std.specs.List.{flat_map}
use Rattle.outside.proofs.GatheringLemmas.{Adds-as, Adds-then}
use Rattle.report_lines.specs.Text.{answers_lines, line_text}
use Rattle.report_text.proofs.report.write_session_part.Goals as goal

pub returns : goal.returns
returns g c = Adds-then c.write_session_line.ensures (Adds-as (ap (λ lines. flat_map line_text (answers_lines c.args.script.now lines c.args.answers.now)) c.as_slice.ensures) c.write_answers.ensures)
