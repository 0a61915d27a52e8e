use Rattle.parties.specs.Session.{proxy_of}
use Rattle.run_measure.specs.Laws.{IsPlaced}
use Rattle.run_measure.specs.Pace.{IsPaced}
use Rattle.session_proxy.specs.Share.{Share}
use Rattle.parties.specs.Pace.{RoseAtMost}
use Rattle.parties.specs.Polling.{HasPolled}
use Rattle.parties.proofs.AwaitedLemmas.{AsksStay}
use Rattle.parties.proofs.MovedLemmas.{MovesOn}
use Rattle.parties.proofs.WaitedLemmas.{WaitsSince}
use Rattle.parties.proofs.stepping.poll_often.Given as goal
use Rattle.session_proxy.specs.State.{lists_of}

abbrev pub invariant-loop : goal.invariant-loop
invariant-loop g l =
    let before = lists_of g.S.Tx.sent g.R.Rx.received (proxy_of l.fn.session) in
    let now = lists_of g.S.Tx.sent g.R.Rx.received (proxy_of l.session) in
    record {
      counted : RoseAtMost l.counter (g.A.Pace.steps l.fn.pace) (g.A.Pace.steps l.pace);
      polled : HasPolled g.S.Tx g.R.Rx (proxy_of l.fn.session) (proxy_of l.session);
      moved : IsPlaced before → Share before → MovesOn l.moved before now;
      paced : IsPlaced before → Share before → IsPaced 0 before.course now.course;
      asks : IsPlaced before → Share before → AsksStay before now;
      waited : WaitsSince g.S.Tx g.R.Rx l.counter l.moved (proxy_of l.fn.session) (proxy_of l.session);
    }
