use Rattle.std.proofs.Common.{◌≤◌, drop}
use Rattle.report_lines.specs.Text.{line_text, short_words}
use Rattle.big_work.proofs.CellsLemmas.{AreWritten}
use Rattle.big_work.proofs.summary.write_cells.Given as goal

-- the first cells so far are written
abbrev pub invariant-loop-cell : goal.invariant-loop-cell
invariant-loop-cell g l = record {
  written : AreWritten (g.K.Sink.written l.fn.sink) (g.K.Sink.written l.sink) (λ cell. line_text (short_words l.script cell)) l.finals l.last (drop l.cell-index l.finals);
  count : g.K.Sink.faults l.fn.sink ≤ g.K.Sink.faults l.sink;
}
