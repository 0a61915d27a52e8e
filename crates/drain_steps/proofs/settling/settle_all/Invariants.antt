use Rattle.std.proofs.Common.{◌≡◌, ◌+◌, All, if◌then◌else◌, length, map}
use Rattle.drain_steps.proofs.ColumnLemmas.{AreTaken}
use Rattle.drain_steps.proofs.settling.settle_all.Given as goal

abbrev pub invariant-loop-senders : goal.invariant-loop-senders
invariant-loop-senders g l = record {
  taken : AreTaken g.P.TakesIn.takes l.fn.skips (map (λ senders. senders.items) l.fn.rows.items) l.fn.parties.items (map (λ senders. senders.items) l.rows.items) l.parties.items;
  many : All (λ senders. length senders.items + (if l.fn.skips then 1 else 0) ≡ length l.fn.parties.items) l.rows.items;
}

abbrev pub decreases-loop-senders : goal.decreases-loop-senders
decreases-loop-senders g l = goal.left-loop-senders g l
