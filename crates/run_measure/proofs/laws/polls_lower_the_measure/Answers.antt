use Rattle.run_measure.proofs.MeasureLemmas.{polls_lower}
use Rattle.run_measure.proofs.laws.polls_lower_the_measure.Goals as goal

pub returns : goal.returns
returns c = polls_lower
