use Rattle.party_turns.proofs.HalfLemmas.{IsHalfDone}
use Rattle.drain_steps.proofs.settling.settle_row.Given as goal

abbrev pub invariant-loop-sender : goal.invariant-loop-sender
invariant-loop-sender g l = IsHalfDone g.P.TakesIn.takes l.fn.skips l.fn.row l.fn.senders.items l.fn.parties.items l.senders.items l.parties.items

abbrev pub decreases-loop-sender : goal.decreases-loop-sender
decreases-loop-sender g l = goal.left-loop-sender g l
