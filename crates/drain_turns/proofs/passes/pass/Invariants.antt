use Rattle.std.proofs.Common.{◌≡◌, ◌<◌, ◌≤◌, ℕ, Bool, IsTrue, List, slice_get, Some}
use Rattle.mail_contract.specs.Boxes.{box_of}
use Rattle.worker_core.specs.State.{PlainWorker}
use Rattle.drain_turns.specs.Ready.{FindPlaces, HaveNoneLeft, NeverFull, left_to}
use Rattle.party_turns.specs.Mates.{HaveGoneOn, Steady, steadies}
use Rattle.party_turns.specs.Turning.{IsDone}
use Rattle.drain_turns.proofs.LeftLemmas.{Farther}
use Rattle.drain_turns.proofs.passes.pass.Given.{Over}
use Rattle.drain_turns.proofs.passes.pass.Given as goal

module _ (g : Over) where
  abbrev pub Worker : Type 0
  Worker = PlainWorker g.row.Q.Denot g.row.T.Denot g.row.O.Denot g.row.G.Denot

  abbrev pub ItsSteady : Type 0
  ItsSteady = Steady g.row.Q.Denot g.row.T.Denot g.row.O-Key.Denot g.row.G-Key.Denot

  abbrev pub all_steady : List Worker → List ItsSteady
  all_steady = steadies g.O.Tx.key g.O.Tx.number g.O.Tx.sent g.G.GossipRx.key g.G.GossipRx.got

  abbrev pub its_left : ItsSteady → ℕ
  its_left = left_to (λ its. g.Q.Rx.senders (g.Q.Rx.key its)) g.Q.Rx.received g.Q.Rx.about

  abbrev pub Finds : List Worker → Type 0
  Finds = FindPlaces g.G.GossipRx.keeps g.Q.Rx.about g.T.Tx.sent (λ its. g.Q.Rx.senders (g.Q.Rx.key its))

  -- the first so many workers took their turns, and so far each was Idle or not
  abbrev pub AreTurned : ℕ → Bool → List Worker → List Worker → Type 0
  AreTurned turned idle before now = record {
    gone_on : HaveGoneOn g.Q.Rx.key g.T.Tx.key g.T.Tx.number g.O.Tx.key g.O.Tx.number g.G.GossipRx.key g.Q.Rx.keeps.complete g.Q.Rx.senders g.Q.Rx.received g.Q.Rx.about g.T.Tx.sent
        g.G.GossipRx.keeps.complete g.G.GossipRx.senders g.G.GossipRx.got g.G.GossipRx.about before now;
    unturned : (at : ℕ) → turned ≤ at → slice_get (all_steady now) at ≡ slice_get (all_steady before) at;
    done : IsTrue idle → (at : ℕ) (its : Worker) → at < turned → slice_get now at ≡ Some its → IsDone g.Q.Rx.keeps (box_of g.Q.Rx.received g.Q.Rx.answers g.Q.Rx.about) its;
    rested : Finds before → (at : ℕ) (its : ItsSteady) → at < turned → slice_get (all_steady now) at ≡ Some its → its_left its ≡ 0;
    farther : Finds before → HaveNoneLeft (λ its. g.Q.Rx.senders (g.Q.Rx.key its)) g.Q.Rx.received g.Q.Rx.about (all_steady before)
        → Farther turned idle (all_steady before) (all_steady now);
    never_full : NeverFull g.row.T.Denot g.row.O.Denot g.T.Tx.fulls g.O.Tx.fulls → IsTrue idle;
  }

abbrev pub invariant-loop-place : goal.invariant-loop-place
invariant-loop-place g l = AreTurned g l.place l.idle l.fn.workers l.workers
