use Rattle.std.proofs.Common.{◌≡◌, ◌≢◌, ◌<◌, ℕ, List, slice_get, Some}
use Rattle.worker_core.specs.State.{PlainWorker}
use Rattle.party_turns.specs.Mates.{HaveGoneOn, Knows, Steady, steadies}
use Rattle.drain_turns.proofs.passes.show_to_all.Given.{Over}
use Rattle.drain_turns.proofs.passes.show_to_all.Given as goal

module _ (g : Over) where
  abbrev pub Worker : Type 0
  Worker = PlainWorker g.row.Q.Denot g.row.T.Denot g.row.O.Denot g.row.G.Denot

  abbrev pub ItsSteady : Type 0
  ItsSteady = Steady g.row.Q.Denot g.row.T.Denot g.row.O-Key.Denot g.row.G-Key.Denot

  abbrev pub all_steady : List Worker → List ItsSteady
  all_steady = steadies g.O.Tx.key g.O.Tx.number g.O.Tx.sent g.G.GossipRx.key g.G.GossipRx.got

  -- the worker at a place was shown to its mates at so many places
  abbrev pub IsShownTo : ℕ → ℕ → List Worker → List Worker → Type 0
  IsShownTo place mates before now = record {
    gone_on : HaveGoneOn g.Q.Rx.key g.T.Tx.key g.T.Tx.number g.O.Tx.key g.O.Tx.number g.G.GossipRx.key g.Q.Rx.keeps.complete g.Q.Rx.senders g.Q.Rx.received g.Q.Rx.about g.T.Tx.sent
        g.G.GossipRx.keeps.complete g.G.GossipRx.senders g.G.GossipRx.got g.G.GossipRx.about before now;
    steady : all_steady now ≡ all_steady before;
    knows : (other : ℕ) (is : Worker) (mate : ItsSteady) → other < mates → other ≢ place → slice_get now place ≡ Some is → slice_get (all_steady now) other ≡ Some mate
        → Knows g.O.Tx.clear g.O.Tx.unseen g.O.Tx.sent g.G.GossipRx.keeps g.G.GossipRx.about g.G.GossipRx.due place other is mate;
  }

abbrev pub invariant-loop-other : goal.invariant-loop-other
invariant-loop-other g l = IsShownTo g l.place l.other l.fn.workers l.workers
