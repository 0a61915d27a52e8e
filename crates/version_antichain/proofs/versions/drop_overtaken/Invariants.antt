use Rattle.std.specs.Prelude.{◌-◌, length}
use Rattle.version_antichain.specs.Version.{is_below}
use Rattle.version_antichain.proofs.Removal.{IsPassed}
use Rattle.version_antichain.proofs.versions.drop_overtaken.Given as goal

-- the maximal entries are those of the beginning, and those passed are below none
abbrev pub invariant-loop-at : goal.invariant-loop-at
invariant-loop-at l = IsPassed (λ entry other. is_below entry.0 other.0) l.initial.all.items l.all.items l.at

abbrev pub decreases-loop-at : goal.decreases-loop-at
decreases-loop-at l = length l.all.items - l.at
