use Rattle.basic_lattices.proofs.PaperPairs.{paper_join_turned, paper_join_single}
use Rattle.basic_lattices.proofs.paper_pair.paper_join_commutes.Goals as goal

pub returns-clause-turned : goal.returns-clause-turned
returns-clause-turned c = paper_join_turned

pub returns-clause-single : goal.returns-clause-single
returns-clause-single c = paper_join_single
