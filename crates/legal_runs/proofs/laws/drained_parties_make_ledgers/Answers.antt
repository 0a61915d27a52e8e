use Rattle.legal_runs.proofs.DrainedLemmas.{drained_came}
use Rattle.legal_runs.proofs.laws.drained_parties_make_ledgers.Goals as goal

pub returns : goal.returns
returns c = drained_came
