use Rattle.std.proofs.Common.{◌<◌, ◌≢◌, ℕ, List, map}
use Rattle.session_proxy.specs.State.{PlainProxy}
use Rattle.worker_core.specs.State.{PlainWorker}
use Rattle.parties.specs.Session.{proxy_of}
use Rattle.parties.proofs.showing.show_to_mates.Given.{Over}
use Rattle.parties.proofs.showing.show_to_mates.Given as goal
use Rattle.party_turns.specs.Ends.{Ends, mail_of}
use Rattle.parties.specs.Beside.{AreBeside, HasMet}
use Rattle.parties.specs.Staying.{AllStay}

module _ (g : Over) where
  -- what the ends tell
  abbrev mail : Ends g.row.P-ReqTx.Denot g.row.P-RepTx.Denot g.row.P-GosTx.Denot g.row.P-ReqRx.Denot g.row.P-GosRx.Denot g.row.P-RepRx.Denot
      g.row.P-ReqTx-Key.Denot g.row.P-RepTx-Key.Denot g.row.P-GosTx-Key.Denot g.row.P-ReqRx-Key.Denot g.row.P-GosRx-Key.Denot g.row.P-RepRx-Key.Denot
  mail = mail_of g.P.ReqTx.Tx g.P.RepTx.Tx g.P.GosTx.Tx g.P.ReqRx.Rx g.P.GosRx.GossipRx g.P.RepRx.Rx

-- all stay, those that were beside each other are, and the worker at a place has met so many others
abbrev pub HasMetMates : (g : Over) → ℕ → ℕ → List (PlainWorker g.row.P-ReqRx.Denot g.row.P-RepTx.Denot g.row.P-GosTx.Denot g.row.P-GosRx.Denot)
    → List (PlainWorker g.row.P-ReqRx.Denot g.row.P-RepTx.Denot g.row.P-GosTx.Denot g.row.P-GosRx.Denot) → List (PlainProxy g.row.P-ReqTx.Denot g.row.P-RepRx.Denot) → List (PlainProxy g.row.P-ReqTx.Denot g.row.P-RepRx.Denot) → Type 0
HasMetMates g place many workers_were workers_are proxies_were proxies_are = record {
  stay : AllStay (mail g) workers_were workers_are proxies_were proxies_are;
  beside : (other at : ℕ) → AreBeside (mail g) other at workers_were proxies_were
      → AreBeside (mail g) other at workers_are proxies_are;
  met : (other : ℕ) → other ≢ place → other < many → HasMet (mail g) place other workers_are;
}

abbrev pub invariant-loop-other : goal.invariant-loop-other
invariant-loop-other g l =
    HasMetMates g l.place l.other l.fn.parties.workers.items l.parties.workers.items (map proxy_of l.fn.parties.sessions.items) (map proxy_of l.parties.sessions.items)
