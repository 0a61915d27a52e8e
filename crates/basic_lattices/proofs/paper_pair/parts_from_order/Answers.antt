use Rattle.basic_lattices.proofs.PaperPairs.{parts}
use Rattle.basic_lattices.proofs.paper_pair.parts_from_order.Goals as goal

pub returns : goal.returns
returns c = parts _ _ _ _ _ _ _ c.in_ok-first.ensures c.in_ok-second.ensures c.in_ok-third.ensures c.in_ok-first_second.ensures.join c.in_ok-paper_join.ensures.join c.in_ok-first_third.ensures.join c.in_ok-paper_join-2.ensures.join
