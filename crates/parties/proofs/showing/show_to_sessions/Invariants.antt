use Rattle.std.proofs.Common.{◌<◌, ◌≢◌, ℕ, map}
use Rattle.parties.specs.Session.{proxy_of}
use Rattle.parties.proofs.showing.show_to_sessions.Given as goal
use Rattle.party_turns.specs.Ends.{Ends, mail_of}
use Rattle.parties.proofs.showing.show_to_sessions.Given.{Over}
use Rattle.parties.specs.Beside.{AreBeside}
use Rattle.parties.specs.Staying.{AllStay}

module _ (g : Over) where
  -- what the ends tell
  abbrev mail : Ends g.row.P-ReqTx.Denot g.row.P-RepTx.Denot g.row.P-GosTx.Denot g.row.P-ReqRx.Denot g.row.P-GosRx.Denot g.row.P-RepRx.Denot
      g.row.P-ReqTx-Key.Denot g.row.P-RepTx-Key.Denot g.row.P-GosTx-Key.Denot g.row.P-ReqRx-Key.Denot g.row.P-GosRx-Key.Denot g.row.P-RepRx-Key.Denot
  mail = mail_of g.P.ReqTx.Tx g.P.RepTx.Tx g.P.GosTx.Tx g.P.ReqRx.Rx g.P.GosRx.GossipRx g.P.RepRx.Rx

-- all stay, the worker at a place is beside so many sessions, and other workers are beside those that they were beside
abbrev pub invariant-loop-at : goal.invariant-loop-at
invariant-loop-at g l =
    let workers_were = l.fn.parties.workers.items in
    let workers_are = l.parties.workers.items in
    let proxies_were = map proxy_of l.fn.parties.sessions.items in
    let proxies_are = map proxy_of l.parties.sessions.items in
    record {
      stay : AllStay (mail g) workers_were workers_are proxies_were proxies_are;
      beside : (at : ℕ) → at < l.at → AreBeside (mail g) l.place at workers_are proxies_are;
      others : (other at : ℕ) → other ≢ l.place → AreBeside (mail g) other at workers_were proxies_were
          → AreBeside (mail g) other at workers_are proxies_are;
    }
