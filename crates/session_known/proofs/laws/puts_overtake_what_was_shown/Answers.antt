use Rattle.session_known.proofs.LaterLemmas.{puts_overtake_clocks, puts_overtake_versions}
use Rattle.session_known.proofs.laws.puts_overtake_what_was_shown.Goals as goal

pub returns-clause-clocks : goal.returns-clause-clocks
returns-clause-clocks c = puts_overtake_clocks

pub returns-clause-versions : goal.returns-clause-versions
returns-clause-versions c = puts_overtake_versions
