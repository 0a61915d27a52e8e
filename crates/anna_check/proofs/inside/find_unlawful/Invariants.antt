use Rattle.std.specs.Prelude.{[], map}
use Rattle.session_known.specs.Accepted.{ends_from}
use Rattle.anna_check.proofs.SessionsLemmas.{AreSessionsJudging}
use Rattle.anna_check.proofs.inside.find_unlawful.Given as goal

abbrev pub invariant-loop-i : goal.invariant-loop-i
invariant-loop-i l = AreSessionsJudging l.placement (ends_from [] 1 l.script.sessions l.answers) l.script.sessions l.answers l.fn.accepted l.i (map (λ end. end.knows) l.ends.items) l.accepted
