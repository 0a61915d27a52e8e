use Rattle.std.proofs.Common.{◌∙◌, arith}
use Rattle.big_work.proofs.DrawnLemmas.{line_made, line_passed, lines_made, lines_passed}
use Rattle.big_work.proofs.script.Generator.lines.Goals as goal

pub loop-command-preserved : goal.loop-command-preserved
loop-command-preserved c =
    let level = c.args.level in
    let command = c.loop-command.command in
    let state = c.loop-command.self.state in
    let now = c.command.new.self.state in record {
      lines = line_made level command 400 state now _ c.loop-command.lines.items c.push.new.self.items c.in_ok-command.field-0
          (omega arith) c.in_ok-command.ensures.0 c.in_ok-command.ensures.1 c.in_ok-push.ensures.items c.loop-command.invariant.lines;
      state = line_passed level command 400 state now _ (omega arith) c.in_ok-command.ensures.1 c.loop-command.invariant.state;
    }

pub returns : goal.returns
returns c =
    let level = c.args.level in
    let command = c.loop-command.command in
    let state = c.loop-command.self.state in (
      c.new.ensures ∙ lines_made level command 400 state _ c.loop-command.lines.items (omega arith) c.loop-command.invariant.lines,
      lines_passed level command 400 state _ (omega arith) c.loop-command.invariant.state,
    )
