use Rattle.placement.proofs.ConfigLemmas.{placement_is, is_placement}
use Rattle.placement.proofs.laws.placements_are_single.Goals as goal

pub returns-clause-single : goal.returns-clause-single
returns-clause-single c = placement_is

pub returns-clause-placed : goal.returns-clause-placed
returns-clause-placed c = is_placement
