use Rattle.std.proofs.Common.{◌≡◌, true, take}
use Rattle.std.specs.Prelude.{not}
use Rattle.std.specs.List.{list_all}
use Rattle.lattice_laws.specs.Entries.{plain_entries}
use Rattle.dot_lattices.specs.DotSet.{is_seen}
use Rattle.dot_lattices.proofs.dot_set.DotSet.of_parts.Given as goal

-- none of the inserts that were passed had been seen
abbrev pub invariant-loop-i : goal.invariant-loop-i
invariant-loop-i l = list_all (λ insert. not (is_seen (plain_entries (λ clock. clock) l.fn.removals) insert)) (take l.i l.fn.inserts) ≡ true
