use Rattle.std.proofs.Common.{◌≡◌, ◌-◌, ◌++◌}
use Rattle.big_work.specs.Big.{session_plans}
use Rattle.big_work.proofs.script.plans.Given as goal

-- the sessions so far and those that are left
abbrev pub invariant-loop-session : goal.invariant-loop-session
invariant-loop-session l = session_plans 1 8 l.number ≡ l.plans.items ++ session_plans l.session (9 - l.session) l.generator.state
