use Rattle.std.proofs.Common.{ap, ◌∙◌}
use Rattle.late_gossip.specs.Debts.{is_owed}
use Rattle.late_gossip.proofs.LateLemmas.{none_owed}
use Rattle.late_gossip.proofs.late.Late.new.Goals as goal

pub returns-clause-none_due : goal.returns-clause-none_due
returns-clause-none_due g c = λ sender. ap (λ debts. is_owed debts sender) (c.in_ok-vec.ensures.items_if_clones_equal (λ copy is. is)) ∙ none_owed 65536 sender
