use Rattle.run_measure.proofs.TogetherLemmas.{together_lower}
use Rattle.run_measure.proofs.laws.parties_lower_the_measure.Goals as goal

pub returns : goal.returns
returns c = together_lower
