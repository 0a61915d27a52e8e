use Rattle.std.proofs.Common.{◌≡◌, ◌*◌, ◌^◌, ◌≤◌, length, sum_by, take}
use Rattle.big_work.proofs.summary.count_commands.Given as goal

-- the commands of the sessions so far; a list has fewer than 2^63 items
abbrev pub invariant-loop-plan : goal.invariant-loop-plan
invariant-loop-plan l = record {
  are : l.commands ≡ sum_by (λ plan. length plan.lines) (take l.plan-index l.script.sessions);
  few : l.commands ≤ l.plan-index * 2 ^ 64;
}
