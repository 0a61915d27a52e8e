use Rattle.std.proofs.Common.{◌≡◌, ℕ, Ok, OnOk, refl, subst}
use Rattle.worker_core.specs.State.{PlainWorker}
use Rattle.worker_core.specs.declared.did.Did.{Did}
use Rattle.party_turns.proofs.ItemsLemmas.{long_alike}
use Rattle.party_turns.specs.Stretch.{left_to_serve}
use Rattle.party_turns.proofs.ServesLemmas.{ServesOn, on_nothing, sent_since, serves_still, serves_through, wants_sent}
use Rattle.party_turns.proofs.StretchLemmas.{keeps_still, keeps_through, room_at_last}
use Rattle.party_turns.proofs.TurningLemmas.{goes_on_through}
use Rattle.party_turns.proofs.TurningRoomLemmas.{fewer_through, on_no_batch, room_of_batch}
use Rattle.party_turns.proofs.turning.turn_on.Given.{Over}
use Rattle.party_turns.proofs.turning.turn_on.Goals as goal
use Rattle.party_turns.proofs.turning.turn_on.Goals.{After-turn_once}

module _ (g : Over) where
  abbrev to_serve : PlainWorker g.row.Q.Denot g.row.T.Denot g.row.O.Denot g.row.G.Denot → ℕ
  to_serve = left_to_serve (λ its. g.Q.Rx.senders (g.Q.Rx.key its)) g.Q.Rx.received g.Q.Rx.about

  -- what it has served after one more turn
  served_on : (c : After-turn_once g) (its : Did) → c.turn_once.result ≡ Ok its
      → ServesOn g.Q.Rx.received g.T.Tx.sent g.O.Tx.sent g.G.GossipRx.got g.T.Tx.clear c.args.worker.now c.turn_once.new.worker
  served_on c its is =
      let ok = λ (holds : Type 0) (told : OnOk c.turn_once.result holds). subst (λ result. OnOk result holds) is told in
      serves_through g.Q.Rx.received g.T.Tx.sent g.O.Tx.sent g.G.GossipRx.got g.T.Tx.clear c.args.worker.now c.loop-did.worker c.turn_once.new.worker c.loop-did.invariant.serves
      (long_alike g.T.Tx.number c.loop-did.worker.ends.replies.items c.turn_once.new.worker.ends.replies.items c.turn_once.ensures.goes_on.gone_on.keys.replies_numbers)
      c.turn_once.ensures.goes_on.gone_on.replied_more (λ none_kept. ok _ (c.turn_once.ensures.served none_kept)) (ok _ c.turn_once.ensures.stay_clear)

pub loop-did-init : goal.loop-did-init
loop-did-init g c = record {
  keeps = keeps_still c.args.worker.now;
  serves = serves_still g.Q.Rx.received g.T.Tx.sent g.O.Tx.sent g.G.GossipRx.got g.T.Tx.clear c.args.worker.now;
}

pub returns-in_err-did-clause-goes_on : goal.returns-in_err-did-clause-goes_on
returns-in_err-did-clause-goes_on g c = goes_on_through c.loop-did.invariant.keeps.on c.in_err-did.ensures.goes_on

pub loop-did-preserved : goal.loop-did-preserved
loop-did-preserved g c = record {
  keeps =
      keeps_through c.loop-did.invariant.keeps c.in_ok-did.ensures.goes_on
      (λ none. room_of_batch g.O.Tx.clear g.O.Tx.roomy g.O.Tx.unseen c.loop-did.worker c.turn_once.new.worker c.in_ok-did.did c.in-Gossip.is (c.in_ok-did.ensures.room none));
  serves = served_on g (goal.at.loop-did-preserved g c).After-turn_once c.in_ok-did.did c.in_ok-did.was;
}

pub returns-in_default-clause-goes_on : goal.returns-in_default-clause-goes_on
returns-in_default-clause-goes_on g c = goes_on_through c.loop-did.invariant.keeps.on c.in_ok-did.ensures.goes_on

pub returns-in_default-clause-fewer_requests : goal.returns-in_default-clause-fewer_requests
returns-in_default-clause-fewer_requests g c =
    fewer_through (Ok c.in_ok-did.did) (to_serve g c.args.worker.now) (to_serve g c.loop-did.worker) (to_serve g c.turn_once.new.worker) c.loop-did.invariant.keeps.on.to_serve
    c.in_ok-did.ensures.fewer_requests

pub returns-in_default-clause-no_batch : goal.returns-in_default-clause-no_batch
returns-in_default-clause-no_batch g c = on_no_batch c.in_ok-did.did c.in_default.not-Gossip c.in_default.not-Round

pub returns-in_default-clause-room : goal.returns-in_default-clause-room
returns-in_default-clause-room g c = room_at_last c.loop-did.invariant.keeps c.in_ok-did.ensures.goes_on refl c.in_ok-did.ensures.room

pub returns-in_default-clause-stay_clear : goal.returns-in_default-clause-stay_clear
returns-in_default-clause-stay_clear g c = (served_on g (goal.at.returns-in_default-clause-stay_clear g c).After-turn_once c.in_ok-did.did c.in_ok-did.was).stays

pub returns-in_default-clause-wants_place : goal.returns-in_default-clause-wants_place
returns-in_default-clause-wants_place g c =
    on_nothing c.in_ok-did.did
    (λ wants. sent_since g.Q.Rx.received g.T.Tx.sent g.O.Tx.sent g.G.GossipRx.got g.T.Tx.clear c.args.worker.now c.loop-did.worker c.turn_once.new.worker c.loop-did.invariant.serves
    (long_alike g.T.Tx.number c.loop-did.worker.ends.replies.items c.turn_once.new.worker.ends.replies.items c.turn_once.ensures.goes_on.gone_on.keys.replies_numbers)
    c.turn_once.ensures.goes_on.gone_on.replied_more c.turn_once.new.worker.state.held
    (wants_sent g.T.Tx.clear g.T.Tx.sent c.loop-did.worker.ends.replies.items c.turn_once.new.worker.ends.replies.items c.turn_once.new.worker.state.held wants))
    c.in_ok-did.ensures.wants_place

pub returns-in_default-clause-served : goal.returns-in_default-clause-served
returns-in_default-clause-served g c = (served_on g (goal.at.returns-in_default-clause-served g c).After-turn_once c.in_ok-did.did c.in_ok-did.was).served
