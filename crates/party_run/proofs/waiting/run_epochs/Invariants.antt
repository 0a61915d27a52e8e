-- The parties took steps.
use Rattle.std.proofs.Common.{map}
use Rattle.party_turns.specs.Ends.{mail_of}
use Rattle.parties.specs.Session.{proxy_of}
use Rattle.party_turns.specs.Steps.{StepsOn}
use Rattle.party_run.proofs.waiting.run_epochs.Given as goal

abbrev pub invariant-loop : goal.invariant-loop
invariant-loop g l =
    let mail = mail_of g.P.ReqTx.Tx g.P.RepTx.Tx g.P.GosTx.Tx g.P.ReqRx.Rx g.P.GosRx.GossipRx g.P.RepRx.Rx in
    record {
      steps : StepsOn mail l.fn.parties.workers.items l.parties.workers.items (map proxy_of l.fn.parties.sessions.items) (map proxy_of l.parties.sessions.items);
      epochs : (goal.iterator-loop g).can_next l.iterator' × (goal.iterator-loop g).is_finite l.iterator';
    }
