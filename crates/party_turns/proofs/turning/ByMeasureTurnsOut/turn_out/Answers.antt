use Rattle.std.proofs.Common.{◌≡◌, Ok, OnOk, subst}
use Rattle.worker_core.specs.declared.did.Did.{Did}
use Rattle.party_turns.proofs.ItemsLemmas.{long_alike}
use Rattle.party_turns.proofs.ServesLemmas.{ServesOn, at_blocked, at_idle, sent_since, serves_still, serves_through}
use Rattle.party_turns.proofs.StretchLemmas.{hears_at_last, keeps_still, keeps_through, room_at_last}
use Rattle.party_turns.proofs.TurningLemmas.{gone_on_through}
use Rattle.party_turns.proofs.TurningRoomLemmas.{room_of_doing}
use Rattle.party_turns.proofs.turning.ByMeasureTurnsOut.turn_out.Given.{Over}
use Rattle.party_turns.proofs.turning.ByMeasureTurnsOut.turn_out.Goals as goal
use Rattle.party_turns.proofs.turning.ByMeasureTurnsOut.turn_out.Goals.{After-turn_on}

module _ (g : Over) where
  -- what it has served after one more turn
  served_on : (c : After-turn_on g) (its : Did) → c.turn_on.result ≡ Ok its
      → ServesOn g.Q.Rx.received g.T.Tx.sent g.O.Tx.sent g.G.GossipRx.got g.T.Tx.clear c.args.worker.now c.turn_on.new.worker
  served_on c its is =
      let ok = λ (holds : Type 0) (told : OnOk c.turn_on.result holds). subst (λ result. OnOk result holds) is told in
      serves_through g.Q.Rx.received g.T.Tx.sent g.O.Tx.sent g.G.GossipRx.got g.T.Tx.clear c.args.worker.now c.loop.worker c.turn_on.new.worker c.loop.invariant.serves
      (long_alike g.T.Tx.number c.loop.worker.ends.replies.items c.turn_on.new.worker.ends.replies.items c.turn_on.ensures.goes_on.gone_on.keys.replies_numbers)
      c.turn_on.ensures.goes_on.gone_on.replied_more (λ none_kept. ok _ (c.turn_on.ensures.served none_kept)) (ok _ c.turn_on.ensures.stay_clear)

pub loop-init : goal.loop-init
loop-init g c = record {
  keeps = keeps_still c.args.worker.now;
  serves = serves_still g.Q.Rx.received g.T.Tx.sent g.O.Tx.sent g.G.GossipRx.got g.T.Tx.clear c.args.worker.now;
}

pub returns-in_err-turn_on-clause-gone_on : goal.returns-in_err-turn_on-clause-gone_on
returns-in_err-turn_on-clause-gone_on g c = gone_on_through c.loop.invariant.keeps.on.gone_on c.in_err-turn_on.ensures.goes_on.gone_on

pub returns-in-Idle-clause-gone_on : goal.returns-in-Idle-clause-gone_on
returns-in-Idle-clause-gone_on g c = gone_on_through c.loop.invariant.keeps.on.gone_on c.in_ok-turn_on.ensures.goes_on.gone_on

pub returns-in-Blocked-clause-gone_on : goal.returns-in-Blocked-clause-gone_on
returns-in-Blocked-clause-gone_on g c = gone_on_through c.loop.invariant.keeps.on.gone_on c.in_ok-turn_on.ensures.goes_on.gone_on

pub returns-in-Blocked-clause-blocked : goal.returns-in-Blocked-clause-blocked
returns-in-Blocked-clause-blocked g c blocked = room_at_last c.loop.invariant.keeps c.in_ok-turn_on.ensures.goes_on c.in-Blocked.is c.in_ok-turn_on.ensures.room

pub loop-preserved : goal.loop-preserved
loop-preserved g c = record {
  keeps =
      keeps_through c.loop.invariant.keeps c.in_ok-turn_on.ensures.goes_on
      (λ none. room_of_doing g.O.Tx.clear g.O.Tx.roomy g.O.Tx.unseen c.loop.worker c.turn_on.new.worker c.in_ok-turn_on.field-0 c.in_default.not-Blocked c.in_default.not-Idle
      (c.in_ok-turn_on.ensures.room none));
  serves = served_on g (goal.at.loop-preserved g c).After-turn_on c.in_ok-turn_on.field-0 c.in_ok-turn_on.was;
}

pub returns-in-Blocked-clause-wants_place : goal.returns-in-Blocked-clause-wants_place
returns-in-Blocked-clause-wants_place g c =
    let before = c.loop.worker.ends.replies.items in
    let now = c.turn_on.new.worker in
    sent_since g.Q.Rx.received g.T.Tx.sent g.O.Tx.sent g.G.GossipRx.got g.T.Tx.clear c.args.worker.now c.loop.worker now c.loop.invariant.serves
    (long_alike g.T.Tx.number before now.ends.replies.items c.in_ok-turn_on.ensures.goes_on.gone_on.keys.replies_numbers) c.in_ok-turn_on.ensures.goes_on.gone_on.replied_more now.state.held
    (at_blocked c.in-Blocked.is c.in_ok-turn_on.ensures.wants_place)

pub returns-in-Idle-clause-hears : goal.returns-in-Idle-clause-hears
returns-in-Idle-clause-hears g c advances =
    hears_at_last c.loop.invariant.keeps c.in_ok-turn_on.ensures.goes_on ((at_idle c.in-Idle.is c.in_ok-turn_on.ensures.no_gossip).advances advances)

pub returns-in-Blocked-clause-hears : goal.returns-in-Blocked-clause-hears
returns-in-Blocked-clause-hears g c advances =
    hears_at_last c.loop.invariant.keeps c.in_ok-turn_on.ensures.goes_on ((at_blocked c.in-Blocked.is c.in_ok-turn_on.ensures.no_gossip).advances advances)

pub returns-in-Idle-clause-served : goal.returns-in-Idle-clause-served
returns-in-Idle-clause-served g c = (served_on g (goal.at.returns-in-Idle-clause-served g c).After-turn_on c.in_ok-turn_on.field-0 c.in_ok-turn_on.was).served

pub returns-in-Blocked-clause-served : goal.returns-in-Blocked-clause-served
returns-in-Blocked-clause-served g c = (served_on g (goal.at.returns-in-Blocked-clause-served g c).After-turn_on c.in_ok-turn_on.field-0 c.in_ok-turn_on.was).served
