use Rattle.worked_reports.proofs.ChangedLemmas.{stray_script_is_refused}
use Rattle.worked_reports.proofs.changed.changed_script_is_refused.Goals as goal

pub returns : goal.returns
returns c = record { get_of_no_replica = stray_script_is_refused }
