use Rattle.std.proofs.Common.{length, take, ap, sym, subst, ◌∙◌, rules}
use Rattle.std.proofs.lemmas.Slice.Zip.{zip_turn, zip_end}
use Rattle.std.proofs.lemmas.List.{length_push}
use Rattle.std.specs.List.{flat_map, AllZip, zip}
use Rattle.report_text.specs.Writes.{MayAnswer, session_text}
use Rattle.report_text.proofs.ReportLemmas.{zip_at, zip_all, All-zip, sessions_text}
use Rattle.outside.proofs.GatheringLemmas.{Adds-none, Adds-as}
use Rattle.report_text.proofs.WritesLemmas.{Adds-next, All-at}
use Rattle.report_text.proofs.report.write_sessions.Goals as goal

pub loop-plan-init : goal.loop-plan-init
loop-plan-init g c = Adds-none

pub write_session_part-requires : goal.write_session_part-requires
write_session_part-requires g c =
    let turn = zip_turn c.args.script.now.sessions c.args.answers.now c.loop-plan.yielded c.into_iter-plan-iterator.result c.loop-plan.plan-iterator c.next.new.self c.next.result (search rules) (search rules) c.loop-plan.yielded_by (c.in-Some.plan, c.in-Some.answers) c.in-Some.is c.next.ensures.steps in
    let got = zip_at c.args.script.now.sessions c.args.answers.now (length c.loop-plan.yielded) c.in-Some.plan.now c.in-Some.answers.now turn.0 turn.1 (turn.2 c.in-Some.plan.now) (turn.3 c.in-Some.answers.now) in
    subst (AllZip (MayAnswer c.args.script.now) c.in-Some.plan.now.lines) (sym c.as_slice-in-loop-plan.ensures) (All-at (λ pair. AllZip (MayAnswer c.args.script.now) pair.0.lines pair.1) (zip c.args.script.now.sessions c.args.answers.now) (length c.loop-plan.yielded) (c.in-Some.plan.now, c.in-Some.answers.now) got (All-zip (λ plan answers. AllZip (MayAnswer c.args.script.now) plan.lines answers) c.args.script.now.sessions c.args.answers.now c.requires))

pub loop-plan-preserved : goal.loop-plan-preserved
loop-plan-preserved g c =
    let turn = zip_turn c.args.script.now.sessions c.args.answers.now c.loop-plan.yielded c.into_iter-plan-iterator.result c.loop-plan.plan-iterator c.next.new.self c.next.result (search rules) (search rules) c.loop-plan.yielded_by (c.in-Some.plan, c.in-Some.answers) c.in-Some.is c.next.ensures.steps in
    let got = zip_at c.args.script.now.sessions c.args.answers.now (length c.loop-plan.yielded) c.in-Some.plan.now c.in-Some.answers.now turn.0 turn.1 (turn.2 c.in-Some.plan.now) (turn.3 c.in-Some.answers.now) in
    Adds-as (ap (λ n. flat_map (λ pair. session_text c.args.script.now pair.0 pair.1) (take n (zip c.args.script.now.sessions c.args.answers.now))) (sym (length_push c.loop-plan.yielded (c.in-Some.plan, c.in-Some.answers))))
    (Adds-next (λ pair. session_text c.args.script.now pair.0 pair.1) (zip c.args.script.now.sessions c.args.answers.now) (length c.loop-plan.yielded) (c.in-Some.plan.now, c.in-Some.answers.now) got c.loop-plan.invariant (Adds-as (ap (session_text c.args.script.now c.in-Some.plan.now) c.as_slice-in-loop-plan.ensures) c.write_session_part.ensures))

pub returns : goal.returns
returns g c =
    let end = zip_end c.args.script.now.sessions c.args.answers.now c.loop-plan.yielded c.into_iter-plan-iterator.result c.loop-plan.plan-iterator c.next.new.self c.next.result (search rules) (search rules) c.loop-plan.yielded_by c.in-None.is c.next.ensures.steps in
    Adds-as (sym (sessions_text c.args.script.now c.args.script.now.sessions c.args.answers.now ∙ ap (flat_map (λ pair. session_text c.args.script.now pair.0 pair.1)) (zip_all c.args.script.now.sessions c.args.answers.now (length c.loop-plan.yielded) end))) c.loop-plan.invariant
