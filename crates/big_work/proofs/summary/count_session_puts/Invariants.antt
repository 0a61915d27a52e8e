use Rattle.std.proofs.Common.{◌≡◌, sum_by, take}
use Rattle.big_work.specs.Parts.{puts_told}
use Rattle.big_work.proofs.summary.count_session_puts.Given as goal

-- the puts of the answers so far
abbrev pub invariant-loop-answer : goal.invariant-loop-answer
invariant-loop-answer l = l.puts ≡ sum_by puts_told (take l.answer-index l.answers)
