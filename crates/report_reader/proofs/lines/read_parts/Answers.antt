use Rattle.std.proofs.Common.{refl, sym, ap, subst, length, arith, codes, ℕ}
use Rattle.std.specs.List.{All}
use Rattle.std.proofs.lemmas.List.{length-map}
use Rattle.session_known.proofs.FormLemmas.{IsPlace, places_known}
use Rattle.report_lines.specs.Text.{head_lines}
use Rattle.report_reader.specs.ReadLines.{FinalOf, HasGotSessions, HasGotFinals, IsPartFault, exact_dues, sessions_dues, finals_dues, report_dues}
use Rattle.report_reader.proofs.ReadLineLemmas.{fault_before, fault_told, got_line}
use Rattle.report_reader.proofs.ReadPartLemmas.{head_few, head_count, final_word, end_word, wanted_out, few_lines, fault_in_sessions, fault_at_final, fault_in_finals, fault_at_end, all_got}
use Rattle.report_reader.proofs.lines.read_parts.Goals as goal

pub read_head-requires-clause-room : goal.read_head-requires-clause-room
read_head-requires-clause-room c = omega (arith, c.requires.first, head_few c.args.script.now c.args.placement.now c.requires.valid)

pub returns-in_err-read_head-clause-fault : goal.returns-in_err-read_head-clause-fault
returns-in_err-read_head-clause-fault c =
    let script = c.args.script.now in
    let table = c.args.placement.now in
    let fault = fault_before script (exact_dues (head_lines script)) _ c.args.lines.now c.in_err-read_head.field-0.0 c.in_err-read_head.ensures.fault in
    fault_told c.from_residual.result (IsPartFault script (report_dues script table) c.args.lines.now) c.from_residual.ensures.1 refl fault

pub read_sessions-requires-clause-room : goal.read_sessions-requires-clause-room
read_sessions-requires-clause-room c =
    let few = few_lines c.args.script.now c.args.placement.now c.requires.valid in
    let head = head_count c.args.script.now c.args.placement.now c.requires.valid c.args.lines.now c.read_head.new.lines c.in_ok-read_head.ensures.got in
    omega (arith, head, c.requires.first, ap (λ plans. length (sessions_dues c.args.script.now plans)) c.as_slice.ensures, few.0)

pub read_exactly-requires-clause-room : goal.read_exactly-requires-clause-room
read_exactly-requires-clause-room c =
    let few = few_lines c.args.script.now c.args.placement.now c.requires.valid in
    let head = head_count c.args.script.now c.args.placement.now c.requires.valid c.args.lines.now c.read_head.new.lines c.in_ok-read_head.ensures.got in
    omega (arith, head, c.requires.first, ap (λ plans. length (sessions_dues c.args.script.now plans)) c.as_slice.ensures, few.0, c.in_ok-answers.ensures.got.number)

pub read_finals-requires-clause-places : goal.read_finals-requires-clause-places
read_finals-requires-clause-places c =
    subst (All (IsPlace c.args.script.now)) (sym c.requires.places) (places_known c.args.script.now c.args.placement.now)

pub read_finals-requires-clause-room : goal.read_finals-requires-clause-room
read_finals-requires-clause-room c =
    let few = few_lines c.args.script.now c.args.placement.now c.requires.valid in
    let head = head_count c.args.script.now c.args.placement.now c.requires.valid c.args.lines.now c.read_head.new.lines c.in_ok-read_head.ensures.got in
    omega (arith, head, c.requires.first, ap (λ plans. length (sessions_dues c.args.script.now plans)) c.as_slice.ensures, few, c.in_ok-answers.ensures.got.number, c.in_ok-read_exactly.ensures.ok.1, ap length c.requires.places)

pub read_exactly-requires-2-clause-room : goal.read_exactly-requires-2-clause-room
read_exactly-requires-2-clause-room c =
    let few = few_lines c.args.script.now c.args.placement.now c.requires.valid in
    let head = head_count c.args.script.now c.args.placement.now c.requires.valid c.args.lines.now c.read_head.new.lines c.in_ok-read_head.ensures.got in
    let place_due = λ (place : ℕ × ℕ). FinalOf place.0 place.1 in
    omega (arith, head, c.requires.first, ap (λ plans. length (sessions_dues c.args.script.now plans)) c.as_slice.ensures, few, c.in_ok-answers.ensures.got.number, c.in_ok-read_exactly.ensures.ok.1, ap length c.requires.places, c.in_ok-finals.ensures.got.number, length-map c.args.places.now place_due)

pub returns-in_err-answers-clause-fault : goal.returns-in_err-answers-clause-fault
returns-in_err-answers-clause-fault c =
    let script = c.args.script.now in
    let table = c.args.placement.now in
    let out = subst (λ plans. IsPartFault script (sessions_dues script plans) c.read_head.new.lines c.in_err-answers.field-0.0) c.as_slice.ensures c.in_err-answers.ensures.fault in
    let fault = fault_in_sessions script table c.args.lines.now c.read_head.new.lines c.in_ok-read_head.ensures.got c.in_err-answers.field-0.0 out in
    fault_told c.from_residual-in_err-answers.result (IsPartFault script (report_dues script table) c.args.lines.now) c.from_residual-in_err-answers.ensures.1 refl fault

pub returns-in_err-read_exactly-clause-fault : goal.returns-in_err-read_exactly-clause-fault
returns-in_err-read_exactly-clause-fault c =
    let script = c.args.script.now in
    let table = c.args.placement.now in
    let sessions = subst (λ plans. HasGotSessions script plans c.read_head.new.lines c.read_sessions.new.lines c.in_ok-answers.answers) c.as_slice.ensures c.in_ok-answers.ensures.got in
    let out = wanted_out script final_word (codes "final") c.read_sessions.new.lines.0 refl c.in_err-read_exactly.ensures.fault.1 in
    let fault = fault_at_final script table c.args.lines.now c.read_head.new.lines c.in_ok-read_head.ensures.got _ c.read_sessions.new.lines sessions c.read_sessions.new.lines.1 refl out in
    fault_told c.from_residual-in_err-read_exactly.result (IsPartFault script (report_dues script table) c.args.lines.now) c.from_residual-in_err-read_exactly.ensures.1 c.in_err-read_exactly.ensures.fault.0 fault

pub returns-in_err-finals-clause-fault : goal.returns-in_err-finals-clause-fault
returns-in_err-finals-clause-fault c =
    let script = c.args.script.now in
    let table = c.args.placement.now in
    let sessions = subst (λ plans. HasGotSessions script plans c.read_head.new.lines c.read_sessions.new.lines c.in_ok-answers.answers) c.as_slice.ensures c.in_ok-answers.ensures.got in
    let final = got_line script final_word (codes "final") c.read_sessions.new.lines c.read_exactly.new.lines refl c.in_ok-read_exactly.ensures.ok in
    let out = subst (λ places. IsPartFault script (finals_dues places) c.read_exactly.new.lines c.in_err-finals.field-0.0) c.requires.places c.in_err-finals.ensures.fault in
    let fault = fault_in_finals script table c.args.lines.now c.read_head.new.lines c.in_ok-read_head.ensures.got _ c.read_sessions.new.lines sessions c.read_exactly.new.lines final c.in_err-finals.field-0.0 out in
    fault_told c.from_residual-in_err-finals.result (IsPartFault script (report_dues script table) c.args.lines.now) c.from_residual-in_err-finals.ensures.1 refl fault

pub returns-in_err-read_exactly-2-clause-fault : goal.returns-in_err-read_exactly-2-clause-fault
returns-in_err-read_exactly-2-clause-fault c =
    let script = c.args.script.now in
    let table = c.args.placement.now in
    let sessions = subst (λ plans. HasGotSessions script plans c.read_head.new.lines c.read_sessions.new.lines c.in_ok-answers.answers) c.as_slice.ensures c.in_ok-answers.ensures.got in
    let final = got_line script final_word (codes "final") c.read_sessions.new.lines c.read_exactly.new.lines refl c.in_ok-read_exactly.ensures.ok in
    let cells = subst (λ places. HasGotFinals script places c.read_exactly.new.lines c.read_finals.new.lines c.in_ok-finals.finals) c.requires.places c.in_ok-finals.ensures.got in
    let out = wanted_out script end_word (codes "end") c.read_finals.new.lines.0 refl c.in_err-read_exactly-2.ensures.fault.1 in
    let fault = fault_at_end script table c.args.lines.now c.read_head.new.lines c.in_ok-read_head.ensures.got _ c.read_sessions.new.lines sessions c.read_exactly.new.lines final _ c.read_finals.new.lines cells c.read_finals.new.lines.1 refl out in
    fault_told c.from_residual-in_err-read_exactly-2.result (IsPartFault script (report_dues script table) c.args.lines.now) c.from_residual-in_err-read_exactly-2.ensures.1 c.in_err-read_exactly-2.ensures.fault.0 fault

pub returns-clause-got : goal.returns-clause-got
returns-clause-got c =
    let script = c.args.script.now in
    let table = c.args.placement.now in
    let sessions = subst (λ plans. HasGotSessions script plans c.read_head.new.lines c.read_sessions.new.lines c.in_ok-answers.answers) c.as_slice.ensures c.in_ok-answers.ensures.got in
    let final = got_line script final_word (codes "final") c.read_sessions.new.lines c.read_exactly.new.lines refl c.in_ok-read_exactly.ensures.ok in
    let cells = subst (λ places. HasGotFinals script places c.read_exactly.new.lines c.read_finals.new.lines c.in_ok-finals.finals) c.requires.places c.in_ok-finals.ensures.got in
    let end = got_line script end_word (codes "end") c.read_finals.new.lines c.read_exactly-2.new.lines refl c.in_ok-read_exactly-2.ensures.ok in
    all_got script table c.args.lines.now c.read_head.new.lines c.in_ok-read_head.ensures.got _ c.read_sessions.new.lines sessions c.read_exactly.new.lines final _ c.read_finals.new.lines cells c.read_exactly-2.new.lines end
