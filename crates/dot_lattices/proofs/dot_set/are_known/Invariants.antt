use Rattle.std.proofs.Common.{◌≡◌, ◌||◌, true, take}
use Rattle.std.specs.List.{list_all}
use Rattle.lattice_laws.specs.Sets as sets
use Rattle.dot_lattices.specs.DotSet.{is_seen}
use Rattle.dot_lattices.specs.Insert.{insert_cmp}
use Rattle.dot_lattices.proofs.dot_set.are_known.Given as goal

-- each of the inserts that were passed is known
abbrev pub invariant-loop-i : goal.invariant-loop-i
invariant-loop-i l = list_all (λ insert. sets.has insert_cmp insert l.set.inserts || is_seen l.set.removals insert) (take l.i l.inserts) ≡ true
