use Rattle.std.proofs.Common.{take}
use Rattle.std.specs.List.{flat_map}
use Rattle.report_lines.specs.Text.{final_words, line_text}
use Rattle.outside.specs.Gathering.{Adds}
use Rattle.report_text.proofs.report.write_finals.Given as goal

-- the final cells that are written
abbrev pub invariant-loop-cell : goal.invariant-loop-cell
invariant-loop-cell g l = Adds g.K.Sink.written g.K.Sink.faults l.fn.out l.out (flat_map (λ cell. line_text (final_words l.script cell)) (take l.cell-index l.finals))
