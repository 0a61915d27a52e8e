use Rattle.std.proofs.Common.{◌≤◌, length}
use Rattle.std.specs.List.{AllWithin}
use Rattle.composed_value.specs.PlainValue.{puts_of_session}
use Rattle.anna_check.proofs.cells.counts_only.Given as goal

abbrev pub invariant-loop-i : goal.invariant-loop-i
invariant-loop-i l = AllWithin (λ entry. entry.1 ≤ length (puts_of_session entry.0 l.puts)) l.clock 0 l.i
