use Rattle.std.specs.Prelude.{◌≡◌, ℕ, ◌≤◌, take, slice_get, Some}
use Rattle.lattice_laws.specs.Entries.{plain_entries}
use Rattle.dot_lattices.specs.DotSet.{AreLesser, unseen_by}
use Rattle.dot_lattices.specs.declared.insert.Insert.{Insert}
use Rattle.dot_lattices.proofs.dot_set.unseen.Given as goal

-- the inserts that were passed and not seen; and the removals that were passed are of lesser words than those that are left
abbrev pub invariant-loop-i : goal.invariant-loop-i
invariant-loop-i l = (l.unseen ≡ unseen_by (plain_entries (λ clock. clock) l.removals) (take l.i l.inserts))
    × ((q : ℕ) (insert : Insert) → l.i ≤ q → slice_get l.inserts q ≡ Some insert → AreLesser insert.word l.from l.removals)
