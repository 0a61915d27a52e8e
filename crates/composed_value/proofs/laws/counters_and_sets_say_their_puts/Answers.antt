use Rattle.composed_value.proofs.DotLawsLemmas.{counters_are_sums, inserts_stay_unseen}
use Rattle.composed_value.proofs.laws.counters_and_sets_say_their_puts.Goals as goal

pub returns-clause-sums : goal.returns-clause-sums
returns-clause-sums c = counters_are_sums

pub returns-clause-inserts : goal.returns-clause-inserts
returns-clause-inserts c = inserts_stay_unseen
