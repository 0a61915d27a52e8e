use Rattle.std.proofs.Common.{◌≡◌, map}
use Rattle.parties.specs.Session.{proxy_of}
use Rattle.parties.specs.Polling.{left_by}
use Rattle.party_run.proofs.finishing.finish_all.Given as goal

abbrev pub invariant-loop-session : goal.invariant-loop-session
invariant-loop-session g l =
    (goal.iterator-loop-session g).can_next l.session-iterator ×
    (goal.iterator-loop-session g).is_finite l.session-iterator ×
    (l.left.items ≡ map left_by (map proxy_of l.yielded))
