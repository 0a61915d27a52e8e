use Rattle.worked_laws.proofs.ListsLemmas.{worked_lag}
use Rattle.worked_laws.proofs.lists.worked_lists_lag_by_a_round.Goals as goal

pub returns : goal.returns
returns c = worked_lag
