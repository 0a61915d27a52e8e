use Rattle.std.proofs.Common.{ℕ, ap}
use Rattle.worker_core.specs.Batches.{RoomAt}
use Rattle.worker_core.specs.State.{PlainWorker}
use Rattle.run_measure.proofs.ServedLemmas.{served_if}
use Rattle.party_turns.proofs.ItemsLemmas.{long_alike}
use Rattle.party_turns.proofs.DueLemmas.{due_once}
use Rattle.party_turns.proofs.TurningLemmas.{gone_on_once}
use Rattle.party_turns.proofs.TurningOnceLemmas.{Boxes, Mates, turn_joins, turn_leaves, turn_never_blocked, turn_owes, turn_rooms, turn_serves}
use Rattle.party_turns.proofs.turning.turn_once.Given.{Over}
use Rattle.party_turns.proofs.turning.turn_once.Goals as goal
use Rattle.party_turns.proofs.turning.turn_once.Goals.{After-attest-2}

module _ (g : Over) where
  abbrev senders : g.row.Q.Denot → ℕ
  senders box = g.Q.Rx.senders (g.Q.Rx.key box)

  abbrev Worker : Type 0
  Worker = PlainWorker g.row.Q.Denot g.row.T.Denot g.row.O.Denot g.row.G.Denot

  module _ (c : After-attest-2 g) where
    -- the box of requests in the turn
    boxes : Boxes g.Q.Rx.keeps senders g.Q.Rx.received g.Q.Rx.answers g.Q.Rx.about g.T.Tx.sent g.O.Tx.sent g.G.GossipRx.got c.args.worker.now c.turn-did.new.self
    boxes = record {
      same_senders = ap g.Q.Rx.senders c.turn-did.ensures.keys.requests_key;
      takes = c.turn-did.ensures.requests;
      known = c.requires.known;
    }

    -- there are as many lists of changed keys as mates
    mates : Mates g.Q.Rx.keeps senders g.Q.Rx.received g.Q.Rx.answers g.Q.Rx.about g.T.Tx.sent g.O.Tx.sent g.G.GossipRx.got c.args.worker.now c.turn-did.new.self
    mates = record {
      before_are = c.attest.ensures.mates;
      now_are = c.attest-2.ensures.mates;
      stay = long_alike g.O.Tx.number c.args.worker.now.ends.gossip_out.items c.turn-did.new.self.ends.gossip_out.items c.turn-did.ensures.keys.gossip_out_numbers;
    }

pub returns-clause-goes_on : goal.returns-clause-goes_on
returns-clause-goes_on g c =
    let ensures = c.turn-did.ensures in
    let once = gone_on_once g.Q.Rx.answers g.G.GossipRx.answers g.G.GossipRx.due g.G.GossipRx.most c.args.worker.now c.turn-did.new.self
    ensures.fixed ensures.keys ensures.replied ensures.requests ensures.gossip in
    let leaves = turn_leaves _ _ _ _ _ _ _ _ _ _ (boxes g c) c.turn-did.result _ _ _ ensures.did in
    record {
      gone_on = once.0;
      gossip_stand = once.1;
      left = leaves.0;
      to_serve = leaves.1;
      owes = turn_owes _ _ _ _ _ _ _ _ _ _ (mates g c) c.turn-did.result _ _ _ (boxes g c) ensures.did;
      stay_due = due_once _ _ _ _ ensures.gossip;
    }

pub returns-clause-served : goal.returns-clause-served
returns-clause-served g c = λ none_kept. served_if c.turn-did.result _ _ _ _ _ c.turn-did.ensures.did c.turn-did.ensures.shows_more c.attest.ensures.share none_kept

pub returns-clause-fewer_requests : goal.returns-clause-fewer_requests
returns-clause-fewer_requests g c = turn_serves _ _ _ _ _ _ _ _ _ _ (boxes g c) c.turn-did.result _ _ _ c.turn-did.ensures.did

pub returns-clause-fewer_batches : goal.returns-clause-fewer_batches
returns-clause-fewer_batches g c = λ finite.
    turn_joins _ _ _ _ _ _ _ _ _ _ (mates g c) c.turn-did.result _ _ _ _ _ c.turn-did.ensures.did (c.turn-did.ensures.fewer finite c.requires.met)

pub returns-clause-room : goal.returns-clause-room
returns-clause-room g c =
    turn_rooms _ _ _ _ _ _ _ _ _ _ (mates g c) _ _ _ c.turn-did.result _ _ (boxes g c) c.turn-did.ensures.did c.turn-did.ensures.senders

pub returns-clause-never_full : goal.returns-clause-never_full
returns-clause-never_full g c =
    turn_never_blocked g.Q.Rx.keeps (senders g) g.Q.Rx.received g.Q.Rx.answers g.Q.Rx.about g.T.Tx.sent g.O.Tx.sent g.G.GossipRx.got c.args.worker.now
    c.turn-did.new.self c.turn-did.result g.T.Tx.fulls g.O.Tx.fulls g.G.GossipRx.answers
    (RoomAt g.O.Tx.clear g.O.Tx.roomy g.O.Tx.unseen c.args.worker.now.ends.gossip_out.items) c.turn-did.ensures.did
