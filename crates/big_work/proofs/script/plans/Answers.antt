use Rattle.std.proofs.Common.{◌∙◌, arith}
use Rattle.big_work.proofs.DrawnLemmas.{plan_made, plans_made}
use Rattle.big_work.proofs.script.plans.Goals as goal

pub loop-session-preserved : goal.loop-session-preserved
loop-session-preserved c =
    plan_made c.loop-session.session 9 c.loop-session.generator.state c.lines.new.self.state _ c.loop-session.plans.items c.push.new.self.items
    c.in_ok-name.field-0 c.level_of-level.result c.in_ok-lines.field-0
    (omega arith) c.in_ok-name.ensures c.level_of-level.ensures c.in_ok-lines.ensures.0 c.in_ok-lines.ensures.1 c.in_ok-push.ensures.items c.loop-session.invariant

pub returns : goal.returns
returns c = c.new.ensures ∙ plans_made c.loop-session.session 9 c.loop-session.generator.state _ c.loop-session.plans.items (omega arith) c.loop-session.invariant
