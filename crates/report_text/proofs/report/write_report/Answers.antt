use Rattle.std.proofs.Common.{ap, sym, subst, rules}
use Rattle.std.specs.List.{All, AllZip, flat_map}
use Rattle.outside.proofs.GatheringLemmas.{Adds-as, Adds-then, Adds-wrote, Adds-cause}
use Rattle.report_lines.specs.Text.{sessions_lines, line_text, final_words}
use Rattle.report_text.specs.Writes.{AreAtPlaces, MayAnswer}
use Rattle.report_text.proofs.ReportLemmas.{finals_few, report_text, report_may, report_places}
use Rattle.session_known.specs.Form.{HasFewDots}
use Rattle.report_text.proofs.report.write_report.Goals as goal

pub write_head-requires-clause-valid : goal.write_head-requires-clause-valid
write_head-requires-clause-valid g c = (c.requires.valid.0, c.requires.valid.1)

pub write_head-requires-clause-places : goal.write_head-requires-clause-places
write_head-requires-clause-places g c =
    subst (AreAtPlaces c.args.script.now) (sym c.as_slice.ensures) (report_places c.args.script.now c.requires.valid.0 c.args.report.now c.requires.valid.1 c.requires.valid.2)

pub write_sessions-requires : goal.write_sessions-requires
write_sessions-requires g c =
    let script = c.args.script.now in
    subst (AllZip (λ plan answers. AllZip (MayAnswer script) plan.lines answers) script.sessions) (sym c.as_slice-2.ensures) (report_may script c.requires.valid.0 c.args.report.now c.requires.valid.1 c.requires.valid.2)

pub write_finals-requires : goal.write_finals-requires
write_finals-requires g c =
    subst (All (λ cell. HasFewDots cell.value)) (sym c.as_slice-3.ensures) (finals_few c.args.script.now c.requires.valid.0 c.args.report.now c.requires.valid.2)

pub returns-clause-wrote : goal.returns-clause-wrote
returns-clause-wrote g c =
    let script = c.args.script.now in
    let sessions = Adds-as (ap (λ answers. flat_map line_text (sessions_lines script script.sessions answers)) c.as_slice-2.ensures) c.write_sessions.ensures in
    let finals = Adds-as (ap (flat_map (λ cell. line_text (final_words script cell))) c.as_slice-3.ensures) c.write_finals.ensures in
    let whole = Adds-as (sym (report_text script c.args.report.now)) (Adds-then c.write_head.ensures (Adds-then sessions (Adds-then c.write.ensures (Adds-then finals c.write-2.ensures)))) in
    Adds-wrote c.finish.result (search rules) c.new-out.ensures.begins whole c.finish.ensures.adds c.finish.ensures.ends

pub returns-clause-cause : goal.returns-clause-cause
returns-clause-cause g c =
    Adds-cause c.finish.result (search rules) c.new-out.ensures.begins (Adds-then c.write_head.ensures (Adds-then c.write_sessions.ensures (Adds-then c.write.ensures (Adds-then c.write_finals.ensures c.write-2.ensures)))) c.finish.ensures.adds c.finish.ensures.ends
