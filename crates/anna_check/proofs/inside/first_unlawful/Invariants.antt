use Rattle.anna_check.proofs.LinesLemmas.{AreJudging}
use Rattle.anna_check.proofs.inside.first_unlawful.Given as goal

abbrev pub invariant-loop-i : goal.invariant-loop-i
invariant-loop-i l = AreJudging l.placement l.fn.judged l.workers l.lines l.answers l.fn.accepted l.i l.judged l.seen l.accepted
