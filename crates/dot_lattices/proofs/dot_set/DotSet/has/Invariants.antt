use Rattle.std.specs.Prelude.{◌≤◌, ◌-◌, take, drop, length}
use Rattle.dot_lattices.proofs.DotSetLemmas.{none_of}
use Rattle.dot_lattices.proofs.dot_set.DotSet.has.Given as goal

-- none of the inserts that were passed, on either side, is of the word
abbrev pub invariant-loop-low : goal.invariant-loop-low
invariant-loop-low l = l.low ≤ l.high × l.high ≤ length l.self.inserts × none_of l.word (take l.low l.self.inserts) × none_of l.word (drop l.high l.self.inserts)

abbrev pub decreases-loop-low : goal.decreases-loop-low
decreases-loop-low l = l.high - l.low
