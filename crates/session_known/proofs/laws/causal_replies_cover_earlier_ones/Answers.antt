use Rattle.session_known.proofs.LaterLemmas.{later_covers_earlier}
use Rattle.session_known.proofs.laws.causal_replies_cover_earlier_ones.Goals as goal

pub returns : goal.returns
returns c = later_covers_earlier
