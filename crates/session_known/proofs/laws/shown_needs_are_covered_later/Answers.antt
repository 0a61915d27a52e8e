use Rattle.session_known.proofs.LaterLemmas.{needs_are_covered_later}
use Rattle.session_known.proofs.laws.shown_needs_are_covered_later.Goals as goal

pub returns : goal.returns
returns c = needs_are_covered_later
