use Rattle.run_waiting.proofs.VainLemmas.{waits_not}
use Rattle.run_waiting.proofs.laws.no_session_waits_in_vain.Goals as goal

pub returns : goal.returns
returns c = waits_not
