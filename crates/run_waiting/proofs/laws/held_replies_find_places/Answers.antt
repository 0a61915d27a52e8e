use Rattle.run_waiting.proofs.HeldLemmas.{held_find_places}
use Rattle.run_waiting.proofs.laws.held_replies_find_places.Goals as goal

pub returns : goal.returns
returns c = held_find_places
