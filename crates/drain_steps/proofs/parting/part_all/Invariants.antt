use Rattle.std.proofs.Common.{length}
use Rattle.drain_steps.proofs.TurnedLemmas.{IsTaken, IsTurned}
use Rattle.drain_steps.proofs.parting.part_all.Given as goal

abbrev pub invariant-loop-its_answers : goal.invariant-loop-its_answers
invariant-loop-its_answers g l = record {
  taken : IsTaken l.fn.sessions.items l.sessions.items;
  answers : IsTurned l.fn.sessions.items (λ its. its.0) taken.taken l.answers.items;
  requests : IsTurned l.fn.sessions.items (λ its. its.1.requests) taken.taken l.requests.items;
  replies : IsTurned l.fn.sessions.items (λ its. its.1.replies) taken.taken l.boxes.items;
}

abbrev pub decreases-loop-its_answers : goal.decreases-loop-its_answers
decreases-loop-its_answers g l = length l.sessions.items
