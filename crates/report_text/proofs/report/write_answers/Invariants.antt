use Rattle.std.proofs.Common.{length, take}
use Rattle.std.specs.List.{flat_map, zip}
use Rattle.report_lines.specs.Text.{answer_words, line_text}
use Rattle.outside.specs.Gathering.{Adds}
use Rattle.report_text.proofs.report.write_answers.Given as goal

-- the answers that are written
abbrev pub invariant-loop-line : goal.invariant-loop-line
invariant-loop-line g l = Adds g.K.Sink.written g.K.Sink.faults l.fn.out l.out (flat_map (λ pair. line_text (answer_words l.script pair.0 pair.1)) (take (length l.yielded) (zip l.lines l.answers)))
