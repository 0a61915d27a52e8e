use Rattle.std.proofs.Common.{sym, subst}
use Rattle.session_known.specs.Legal.{IsLegal}
use Rattle.session_known.specs.declared.report.Report.{Report}
use Rattle.session_known.specs.declared.script.Script.{Script}
use Rattle.big_work.specs.Small.{small_script}
use Rattle.big_work.proofs.SmallLemmas.{small_is_legal}
use Rattle.big_work.proofs.tests.sum_up.Goals as goal

pub write_summary-requires : goal.write_summary-requires
write_summary-requires g c =
    let of_report = subst (λ (report : Report). IsLegal small_script report) (sym c.in_ok-report.ensures) small_is_legal in
    record { legal = subst (λ (script : Script). IsLegal script c.in_ok-report.report) (sym c.in_ok-script.ensures) of_report }
