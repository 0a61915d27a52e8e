use Rattle.basic_lattices.proofs.PaperPairs.{paper_join_itself}
use Rattle.basic_lattices.proofs.paper_pair.paper_join_is_idempotent.Goals as goal

pub returns : goal.returns
returns c = paper_join_itself
