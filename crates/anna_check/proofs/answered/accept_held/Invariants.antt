use Rattle.anna_check.proofs.HeldLemmas.{AreAccepting}
use Rattle.anna_check.proofs.answered.accept_held.Given as goal

abbrev pub invariant-loop-place : goal.invariant-loop-place
invariant-loop-place l = AreAccepting l.fn.session l.fn.accepted l.lamport l.held l.place l.session l.accepted
