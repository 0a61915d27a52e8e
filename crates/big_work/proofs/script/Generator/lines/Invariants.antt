use Rattle.std.proofs.Common.{◌≡◌, ◌-◌, ◌++◌}
use Rattle.big_work.specs.Big.{command_lines, state_after}
use Rattle.big_work.proofs.script.Generator.lines.Given as goal

-- the lines so far and those that are left, and the state after these
abbrev pub invariant-loop-command : goal.invariant-loop-command
invariant-loop-command l = record {
  lines : command_lines l.level 0 400 l.fn.self.state ≡ l.lines.items ++ command_lines l.level l.command (400 - l.command) l.self.state;
  state : state_after l.level 0 400 l.fn.self.state ≡ state_after l.level l.command (400 - l.command) l.self.state;
}
