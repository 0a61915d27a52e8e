use Rattle.run_waiting.proofs.PolledLemmas.{stays_awaited}
use Rattle.run_waiting.proofs.laws.polls_take_what_is_awaited.Goals as goal

pub returns : goal.returns
returns c = stays_awaited
