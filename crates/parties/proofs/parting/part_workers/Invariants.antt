use Rattle.std.proofs.Common.{ℕ, length, map}
use Rattle.parties.specs.Beside.{IsApart}
use Rattle.worker_core.specs.State.{PlainWorker}
use Rattle.party_turns.proofs.PlacesLemmas.{IsDoneBefore}
use Rattle.parties.specs.Session.{proxy_of}
use Rattle.parties.proofs.parting.part_workers.Given.{Over}
use Rattle.parties.proofs.parting.part_workers.Given as goal
use Rattle.party_turns.specs.Ends.{Ends, mail_of}
use Rattle.parties.proofs.StayLemmas.{WorkerStays}

module _ (g : Over) where
  -- what the ends tell
  abbrev mail : Ends g.row.P-ReqTx.Denot g.row.P-RepTx.Denot g.row.P-GosTx.Denot g.row.P-ReqRx.Denot g.row.P-GosRx.Denot g.row.P-RepRx.Denot
      g.row.P-ReqTx-Key.Denot g.row.P-RepTx-Key.Denot g.row.P-GosTx-Key.Denot g.row.P-ReqRx-Key.Denot g.row.P-GosRx-Key.Denot g.row.P-RepRx-Key.Denot
  mail = mail_of g.P.ReqTx.Tx g.P.RepTx.Tx g.P.GosTx.Tx g.P.ReqRx.Rx g.P.GosRx.GossipRx g.P.RepRx.Rx

module _ (g : Over) where
  abbrev pub Worker : Type 0
  Worker = PlainWorker g.row.P-ReqRx.Denot g.row.P-RepTx.Denot g.row.P-GosTx.Denot g.row.P-GosRx.Denot

  -- nobody is beside a worker's boxes
  abbrev pub IsAlone : Worker → Type 0
  IsAlone worker = IsApart (g.P.ReqRx.Rx.about worker.ends.requests) × IsApart (g.P.GosRx.GossipRx.about worker.ends.gossip_in)

  -- a worker of so many, at any place, stays, and is alone
  abbrev pub IsParted : ℕ → ℕ → Worker → Worker → Type 0
  IsParted many many_sessions was is = record {
    stays : (place : ℕ) → WorkerStays (mail g) many many_sessions place was is;
    alone : IsAlone is;
  }

abbrev pub invariant-loop-worker : goal.invariant-loop-worker
invariant-loop-worker g l =
    IsDoneBefore (IsParted g (length l.fn.parties.workers.items) (length (map proxy_of l.fn.parties.sessions.items))) l.fn.parties.workers.items l.worker-index l.worker-items
