use Rattle.std.proofs.Common.{take}
use Rattle.report_reader.specs.ReadLines.{HasGotExactly}
use Rattle.report_reader.proofs.ReadPartLemmas.{all_keys}
use Rattle.report_reader.proofs.lines.read_keys.Given as goal

abbrev pub invariant-loop-i : goal.invariant-loop-i
invariant-loop-i l = HasGotExactly l.script (take l.i (all_keys l.script)) l.fn.lines l.lines
