use Rattle.std.proofs.Common.{◌≡◌, ◌≤◌, ◌*◌, take}
use Rattle.std.specs.List.{sum_by}
use Rattle.dot_lattices.proofs.dot_sums.DotSums.total.Given as goal

-- what was added and taken at the dots that were passed, each within its bound
abbrev pub invariant-loop-i : goal.invariant-loop-i
invariant-loop-i l =
    ((l.added ≡ sum_by (λ entry. entry.1.added) (take l.i l.self)) × (l.added ≤ l.i * 4294967295))
    × ((l.taken ≡ sum_by (λ entry. entry.1.taken) (take l.i l.self)) × (l.taken ≤ l.i * 4294967295))
