use Rattle.anna_check.proofs.OneVerdictLemmas.{verdict_is_single}
use Rattle.anna_check.proofs.laws.reports_have_one_verdict.Goals as goal

pub returns : goal.returns
returns c = verdict_is_single
