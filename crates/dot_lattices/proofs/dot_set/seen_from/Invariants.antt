use Rattle.dot_lattices.specs.DotSet.{AreLesser}
use Rattle.dot_lattices.proofs.dot_set.seen_from.Given as goal

-- the removals that were passed are of lesser words
abbrev pub invariant-loop-place : goal.invariant-loop-place
invariant-loop-place l = AreLesser l.word l.place l.removals
