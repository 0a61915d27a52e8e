use Rattle.std.proofs.Common.{rules}
use Rattle.report_reader.proofs.ReadPartLemmas.{after_is, after_none}
use Rattle.report_reader.proofs.lines.push_after.Goals as goal

pub returns-in-None : goal.returns-in-None
returns-in-None c = after_none c.args.script.now c.args.after c.args.line.now.items c.in-None.is

pub returns-in_ok-extend_from_slice-in-Some-2 : goal.returns-in_ok-extend_from_slice-in-Some-2
returns-in_ok-extend_from_slice-in-Some-2 c = after_is c.args.script.now c.in-Some.session c.args.after c.args.line.now.items c.extend_from_slice-in-Some.new.self.items c.in-Some.is (search rules)
