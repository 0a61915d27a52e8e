use Rattle.run_waiting.proofs.ToldLemmas.{told_own}
use Rattle.run_waiting.proofs.laws.told_replies_are_to_asks.Goals as goal

pub returns : goal.returns
returns c = told_own
