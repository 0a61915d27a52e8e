use Rattle.session_known.proofs.DenseLemmas.{are_dense, are_few, none_worn}
use Rattle.session_known.proofs.laws.lamport_numbers_are_dense.Goals as goal

pub returns-clause-dense : goal.returns-clause-dense
returns-clause-dense c = are_dense

pub returns-clause-few : goal.returns-clause-few
returns-clause-few c = are_few

pub returns-clause-not_worn : goal.returns-clause-not_worn
returns-clause-not_worn c = none_worn
