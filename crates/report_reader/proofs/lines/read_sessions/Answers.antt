use Rattle.std.proofs.Common.{rules, refl}
use Rattle.report_reader.specs.ReadLines.{IsPartFault, sessions_dues}
use Rattle.report_reader.proofs.ReadLineLemmas.{sessions_next, sessions_room, sessions_fault, fault_told}
use Rattle.report_reader.proofs.lines.read_sessions.Goals as goal

pub read_session_part-requires-clause-room : goal.read_session_part-requires-clause-room
read_session_part-requires-clause-room c =
    sessions_room c.args.script.now c.args.plans.now c.args.lines.now c.loop-plan.plan-index c.loop-plan.lines c.loop-plan.answers c.plan-item.result _ (search rules) c.plan-item.is c.loop-plan.invariant c.requires.room

pub returns-in_err-read_session_part-clause-fault : goal.returns-in_err-read_session_part-clause-fault
returns-in_err-read_session_part-clause-fault c =
    let fault = c.in_err-read_session_part.field-0.0 in
    let out = sessions_fault c.args.script.now c.args.plans.now c.args.lines.now c.loop-plan.plan-index c.loop-plan.lines c.loop-plan.answers c.plan-item.result fault (search rules) (search rules) c.loop-plan.invariant c.in_err-read_session_part.ensures.fault in
    fault_told c.from_residual.result (IsPartFault c.args.script.now (sessions_dues c.args.script.now c.args.plans.now) c.args.lines.now) c.from_residual.ensures.1 refl out

pub loop-plan-preserved : goal.loop-plan-preserved
loop-plan-preserved c =
    sessions_next c.args.script.now c.args.plans.now c.args.lines.now c.loop-plan.plan-index c.loop-plan.lines c.read_session_part.new.lines c.loop-plan.answers c.push.new.self c.plan-item.result c.in_ok-read_session_part.field-0 (search rules) (search rules) c.loop-plan.invariant c.in_ok-read_session_part.ensures.answers c.in_ok-read_session_part.ensures.got c.in_ok-push.ensures
