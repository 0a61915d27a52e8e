use Rattle.std.proofs.Common.{map}
use Rattle.parties.specs.Session.{proxy_of}
use Rattle.party_ends.specs.Parties.{AreMadeOf, IsNewSession}
use Rattle.party_ends.proofs.beginning.new_sessions.Given as goal

-- so far
abbrev pub invariant-loop-its : goal.invariant-loop-its
invariant-loop-its g l = AreMadeOf (IsNewSession g.S.Tx.sent g.R.Rx.received l.script l.placement) l.yielded (map proxy_of l.sessions.items)
