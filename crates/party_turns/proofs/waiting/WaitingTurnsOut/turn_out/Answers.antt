use Rattle.std.proofs.Common.{◌≡◌, Ok, OnOk, subst}
use Rattle.worker_core.specs.declared.did.Did.{Did}
use Rattle.party_turns.proofs.ItemsLemmas.{long_alike}
use Rattle.party_turns.proofs.ServesLemmas.{ServesOn, at_blocked, at_idle, sent_since, serves_still, serves_through, wants_sent}
use Rattle.party_turns.proofs.StretchLemmas.{hears_at_last, keeps_still, keeps_through, room_at_last}
use Rattle.party_turns.proofs.TurningLemmas.{gone_on_through}
use Rattle.party_turns.proofs.TurningRoomLemmas.{room_of_doing}
use Rattle.party_turns.proofs.waiting.WaitingTurnsOut.turn_out.Given.{Over}
use Rattle.party_turns.proofs.waiting.WaitingTurnsOut.turn_out.Goals as goal
use Rattle.party_turns.proofs.waiting.WaitingTurnsOut.turn_out.Goals.{After-turn_once}

module _ (g : Over) where
  -- what it has served after one more turn
  served_on : (c : After-turn_once g) (its : Did) → c.turn_once.result ≡ Ok its
      → ServesOn g.Q.Rx.received g.T.Tx.sent g.O.Tx.sent g.G.GossipRx.got g.T.Tx.clear c.args.worker.now c.turn_once.new.worker
  served_on c its is =
      let ok = λ (holds : Type 0) (told : OnOk c.turn_once.result holds). subst (λ result. OnOk result holds) is told in
      serves_through g.Q.Rx.received g.T.Tx.sent g.O.Tx.sent g.G.GossipRx.got g.T.Tx.clear c.args.worker.now c.loop.worker c.turn_once.new.worker c.loop.invariant.serves
      (long_alike g.T.Tx.number c.loop.worker.ends.replies.items c.turn_once.new.worker.ends.replies.items c.turn_once.ensures.goes_on.gone_on.keys.replies_numbers)
      c.turn_once.ensures.goes_on.gone_on.replied_more (λ none_kept. ok _ (c.turn_once.ensures.served none_kept)) (ok _ c.turn_once.ensures.stay_clear)

pub loop-init : goal.loop-init
loop-init g c = record {
  keeps = keeps_still c.args.worker.now;
  serves = serves_still g.Q.Rx.received g.T.Tx.sent g.O.Tx.sent g.G.GossipRx.got g.T.Tx.clear c.args.worker.now;
  rounds = (tt, tt);
}

pub returns-in_err-turn_once-clause-gone_on : goal.returns-in_err-turn_once-clause-gone_on
returns-in_err-turn_once-clause-gone_on g c = gone_on_through c.loop.invariant.keeps.on.gone_on c.in_err-turn_once.ensures.goes_on.gone_on

pub returns-in-Idle-clause-gone_on : goal.returns-in-Idle-clause-gone_on
returns-in-Idle-clause-gone_on g c = gone_on_through c.loop.invariant.keeps.on.gone_on c.in_ok-turn_once.ensures.goes_on.gone_on

pub returns-in-Blocked-clause-gone_on : goal.returns-in-Blocked-clause-gone_on
returns-in-Blocked-clause-gone_on g c = gone_on_through c.loop.invariant.keeps.on.gone_on c.in_ok-turn_once.ensures.goes_on.gone_on

pub returns-in-Blocked-clause-blocked : goal.returns-in-Blocked-clause-blocked
returns-in-Blocked-clause-blocked g c blocked = room_at_last c.loop.invariant.keeps c.in_ok-turn_once.ensures.goes_on c.in-Blocked.is c.in_ok-turn_once.ensures.room

pub loop-preserved : goal.loop-preserved
loop-preserved g c = record {
  keeps =
      keeps_through c.loop.invariant.keeps c.in_ok-turn_once.ensures.goes_on
      (λ none. room_of_doing g.O.Tx.clear g.O.Tx.roomy g.O.Tx.unseen c.loop.worker c.turn_once.new.worker c.in_ok-turn_once.field-0 c.in_default.not-Blocked c.in_default.not-Idle
      (c.in_ok-turn_once.ensures.room none));
  serves = served_on g (goal.at.loop-preserved g c).After-turn_once c.in_ok-turn_once.field-0 c.in_ok-turn_once.was;
  rounds = (tt, tt);
}

pub returns-in-Blocked-clause-wants_place : goal.returns-in-Blocked-clause-wants_place
returns-in-Blocked-clause-wants_place g c =
    let before = c.loop.worker.ends.replies.items in
    let now = c.turn_once.new.worker in
    sent_since g.Q.Rx.received g.T.Tx.sent g.O.Tx.sent g.G.GossipRx.got g.T.Tx.clear c.args.worker.now c.loop.worker now c.loop.invariant.serves
    (long_alike g.T.Tx.number before now.ends.replies.items c.in_ok-turn_once.ensures.goes_on.gone_on.keys.replies_numbers) c.in_ok-turn_once.ensures.goes_on.gone_on.replied_more now.state.held
    (wants_sent g.T.Tx.clear g.T.Tx.sent before now.ends.replies.items now.state.held (at_blocked c.in-Blocked.is c.in_ok-turn_once.ensures.wants_place))

pub returns-in-Idle-clause-hears : goal.returns-in-Idle-clause-hears
returns-in-Idle-clause-hears g c advances =
    hears_at_last c.loop.invariant.keeps c.in_ok-turn_once.ensures.goes_on ((at_idle c.in-Idle.is c.in_ok-turn_once.ensures.no_gossip).advances advances)

pub returns-in-Blocked-clause-hears : goal.returns-in-Blocked-clause-hears
returns-in-Blocked-clause-hears g c advances =
    hears_at_last c.loop.invariant.keeps c.in_ok-turn_once.ensures.goes_on ((at_blocked c.in-Blocked.is c.in_ok-turn_once.ensures.no_gossip).advances advances)

pub returns-in-Idle-clause-served : goal.returns-in-Idle-clause-served
returns-in-Idle-clause-served g c = (served_on g (goal.at.returns-in-Idle-clause-served g c).After-turn_once c.in_ok-turn_once.field-0 c.in_ok-turn_once.was).served

pub returns-in-Blocked-clause-served : goal.returns-in-Blocked-clause-served
returns-in-Blocked-clause-served g c = (served_on g (goal.at.returns-in-Blocked-clause-served g c).After-turn_once c.in_ok-turn_once.field-0 c.in_ok-turn_once.was).served
