use Rattle.std.proofs.Common.{◌≡◌, ◌∷◌, ◌++◌, [], false, length}
use Rattle.party_turns.proofs.HalfLemmas.{IsHalfDone}
use Rattle.party_ends.proofs.making.deal.Given as goal

abbrev pub invariant-loop-item : goal.invariant-loop-item
invariant-loop-item g l = IsHalfDone (λ item before now. now.items ≡ before.items ++ item ∷ []) false 0 l.fn.items.items l.fn.rows.items l.items.items l.rows.items

abbrev pub decreases-loop-item : goal.decreases-loop-item
decreases-loop-item g l = length l.items.items
