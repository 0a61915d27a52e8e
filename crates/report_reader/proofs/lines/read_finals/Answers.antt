use Rattle.std.proofs.Common.{rules, refl, get_or}
use Rattle.std.proofs.lemmas.List.{get_or_default}
use Rattle.report_reader.specs.ReadLines.{IsPartFault, finals_dues}
use Rattle.report_reader.proofs.ReadLineLemmas.{finals_next, finals_fault, fault_told}
use Rattle.report_reader.proofs.lines.read_finals.Goals as goal

pub returns-in_err-read_final_line-clause-fault : goal.returns-in_err-read_final_line-clause-fault
returns-in_err-read_final_line-clause-fault c =
    let fault = c.in_err-read_final_line.field-0.0 in
    let out = finals_fault c.args.script.now c.args.places.now c.args.lines.now c.loop-place.place-index c.loop-place.lines c.loop-place.cells (get_or c.args.places.now c.loop-place.place-index (0, 0)) fault (search rules) (get_or_default c.args.places.now c.loop-place.place-index (0, 0) _ c.loop-place-test.true) c.loop-place.invariant c.in_err-read_final_line.ensures.fault in
    fault_told c.from_residual.result (IsPartFault c.args.script.now (finals_dues c.args.places.now) c.args.lines.now) c.from_residual.ensures.1 refl out

pub loop-place-preserved : goal.loop-place-preserved
loop-place-preserved c =
    finals_next c.args.script.now c.args.places.now c.args.lines.now c.loop-place.place-index c.loop-place.lines c.read_final_line.new.lines c.loop-place.cells c.push.new.self (get_or c.args.places.now c.loop-place.place-index (0, 0)) c.in_ok-read_final_line.field-0 (search rules) (get_or_default c.args.places.now c.loop-place.place-index (0, 0) _ c.loop-place-test.true) c.loop-place.invariant c.in_ok-read_final_line.ensures.cell c.in_ok-read_final_line.ensures.got c.in_ok-push.ensures
