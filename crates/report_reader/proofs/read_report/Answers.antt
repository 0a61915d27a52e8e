use Rattle.std.proofs.Common.{sym, subst, ◌∙◌}
use Rattle.placement.proofs.ConfigLemmas.{placement_is}
use Rattle.session_known.specs.Script.{IsValidScript}
use Rattle.report_reader.specs.Reads.{IsReading}
use Rattle.report_reader.proofs.FormToldLemmas.{reading_accepts}
use Rattle.report_reader.proofs.read_report.Goals as goal

pub read_text-requires : goal.read_text-requires
read_text-requires c =
    let config = c.args.script.now.config in
    let table = c.requires.valid.0 in
    subst (IsValidScript c.args.script.now) (placement_is config table c.requires.valid.1.placed ∙ sym (placement_is config c.in_ok-placement.placement c.in_ok-placement.ensures.placed)) c.requires.valid.1

pub returns-clause-reading : goal.returns-clause-reading
returns-clause-reading c table valid =
    let config = c.args.script.now.config in
    let same = placement_is config c.in_ok-placement.placement c.in_ok-placement.ensures.placed ∙ sym (placement_is config table valid.placed) in
    subst (λ table. IsReading c.args.script.now table c.args.bytes.now c.read_text.result) same c.read_text.ensures

pub returns-clause-accepts : goal.returns-clause-accepts
returns-clause-accepts c table report valid form written =
    let config = c.args.script.now.config in
    let same = placement_is config c.in_ok-placement.placement c.in_ok-placement.ensures.placed ∙ sym (placement_is config table valid.placed) in
    let reading = subst (λ table. IsReading c.args.script.now table c.args.bytes.now c.read_text.result) same c.read_text.ensures in
    reading_accepts c.args.script.now table valid c.args.bytes.now report c.read_text.result form written reading
