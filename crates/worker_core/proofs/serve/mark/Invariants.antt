use Rattle.std.proofs.Common.{◌≡◌}
use Rattle.worker_core.specs.State.{lives_at, mate_at}
use Rattle.worker_core.proofs.MarkingLemmas.{MarkedTo}
use Rattle.worker_core.proofs.serve.mark.Given as goal

abbrev pub invariant-loop-place : goal.invariant-loop-place
invariant-loop-place l =
    (l.changes.most ≡ l.initial.changes.most)
    × MarkedTo (λ place. lives_at l.placement (mate_at l.me place) l.key) l.key l.place l.initial.changes.of_mates l.changes.of_mates
