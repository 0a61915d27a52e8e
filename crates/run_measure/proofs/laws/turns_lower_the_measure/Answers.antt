use Rattle.run_measure.proofs.MeasureLemmas.{turns_lower}
use Rattle.run_measure.proofs.laws.turns_lower_the_measure.Goals as goal

pub returns : goal.returns
returns c = turns_lower
