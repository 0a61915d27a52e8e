use Rattle.std.proofs.Common.{◌≡◌, ◌⊎◌, ◌+◌, ℕ, if◌then◌else◌, IsTrue, List, slice_get, Some}
use Rattle.mail_contract.specs.Boxes.{box_of}
use Rattle.worker_core.specs.State.{PlainWorker}
use Rattle.drain_turns.specs.Ready.{FindPlaces, HaveNoneLeft, left_to_all}
use Rattle.party_turns.specs.Mates.{HaveGoneOn, Steady, steadies}
use Rattle.party_turns.specs.Turning.{IsDone}
use Rattle.drain_turns.proofs.passes.ByMeasureTurnsAll.turn_passes.Given.{Over}
use Rattle.drain_turns.proofs.passes.ByMeasureTurnsAll.turn_passes.Given as goal

module _ (g : Over) where
  abbrev pub Worker : Type 0
  Worker = PlainWorker g.row.Q.Denot g.row.T.Denot g.row.O.Denot g.row.G.Denot

  abbrev pub all_steady : List Worker → List (Steady g.row.Q.Denot g.row.T.Denot g.row.O-Key.Denot g.row.G-Key.Denot)
  all_steady = steadies g.O.Tx.key g.O.Tx.number g.O.Tx.sent g.G.GossipRx.key g.G.GossipRx.got

  -- no request is left, and senders find places
  pub record HaveRested (workers : List Worker) : Type 0 where
    pub finds : FindPlaces g.G.GossipRx.keeps g.Q.Rx.about g.T.Tx.sent (λ its. g.Q.Rx.senders (g.Q.Rx.key its)) workers
    pub none_left : HaveNoneLeft (λ its. g.Q.Rx.senders (g.Q.Rx.key its)) g.Q.Rx.received g.Q.Rx.about (all_steady workers)

abbrev pub invariant-loop-idle : goal.invariant-loop-idle
invariant-loop-idle g l = record {
  gone_on : HaveGoneOn g.Q.Rx.key g.T.Tx.key g.T.Tx.number g.O.Tx.key g.O.Tx.number g.G.GossipRx.key g.Q.Rx.keeps.complete g.Q.Rx.senders g.Q.Rx.received g.Q.Rx.about g.T.Tx.sent
      g.G.GossipRx.keeps.complete g.G.GossipRx.senders g.G.GossipRx.got g.G.GossipRx.about l.fn.workers l.workers;
  done : IsTrue l.idle → (place : ℕ) (its : Worker g) → slice_get l.workers place ≡ Some its → IsDone g.Q.Rx.keeps (box_of g.Q.Rx.received g.Q.Rx.answers g.Q.Rx.about) its;
  rested : IsTrue l.idle ⊎ HaveRested g l.workers;
}

-- how much of the telling is left, and one while another pass is to be made
abbrev pub decreases-loop-idle : goal.decreases-loop-idle
decreases-loop-idle g l = left_to_all (all_steady g l.workers) + (if l.idle then 0 else 1)
