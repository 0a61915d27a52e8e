use Rattle.std.proofs.Common.{◌≡◌, sum_by, take}
use Rattle.big_work.specs.Parts.{puts_of_session}
use Rattle.big_work.proofs.summary.count_puts.Given as goal

-- the puts of the sessions so far
abbrev pub invariant-loop-answers : goal.invariant-loop-answers
invariant-loop-answers l = l.puts ≡ sum_by puts_of_session (take l.answers-index l.fn.answers)
