use Rattle.std.proofs.Common.{◌≡◌, ◌++◌, map, take, decimal}
use Rattle.report_lines.specs.Text.{spaced}
use Rattle.report_reader.proofs.lines.push_numbers.Given as goal

abbrev pub invariant-loop-number : goal.invariant-loop-number
invariant-loop-number l = l.line.items ≡ l.fn.line.items ++ spaced (map decimal (take l.number-index l.numbers))
