-- The parties took steps, and since they were held beside each other it is told what was taken; what each session waits for it did not take.
use Rattle.std.proofs.Common.{map}
use Rattle.party_turns.specs.Ends.{mail_of, session_lists, worker_lists}
use Rattle.parties.specs.Session.{proxy_of}
use Rattle.party_turns.specs.Steps.{StepsOn}
use Rattle.parties.specs.Sweeping.{AllAwait, AllToAsks}
use Rattle.run_measure.specs.Measure.{measure_of_all}
use Rattle.parties.specs.Told.{AreAllTold}
use Rattle.party_run.proofs.driver.run_rounds.Given as goal

abbrev pub invariant-loop-turns : goal.invariant-loop-turns
invariant-loop-turns g l =
    let mail = mail_of g.P.ReqTx.Tx g.P.RepTx.Tx g.P.GosTx.Tx g.P.ReqRx.Rx g.P.GosRx.GossipRx g.P.RepRx.Rx in
    let workers = map (worker_lists mail) l.parties.workers.items in
    let sessions = map (session_lists mail) (map proxy_of l.parties.sessions.items) in
    record {
      steps : StepsOn mail l.fn.parties.workers.items l.parties.workers.items (map proxy_of l.fn.parties.sessions.items) (map proxy_of l.parties.sessions.items);
      told : AreAllTold workers sessions;
      await_theirs : AllAwait sessions;
      to_asks : AllToAsks sessions;
    }

-- each round leaves less to do than the one before
abbrev pub decreases-loop-turns : goal.decreases-loop-turns
decreases-loop-turns g l =
    let mail = mail_of g.P.ReqTx.Tx g.P.RepTx.Tx g.P.GosTx.Tx g.P.ReqRx.Rx g.P.GosRx.GossipRx g.P.RepRx.Rx in
    measure_of_all (map (worker_lists mail) l.parties.workers.items) 1 (map (session_lists mail) (map proxy_of l.parties.sessions.items))
