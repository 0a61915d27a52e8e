use Rattle.std.proofs.Common.{◌<◌, ℕ, map}
use Rattle.parties.specs.Session.{proxy_of}
use Rattle.parties.proofs.showing.show_all.Given as goal
use Rattle.party_turns.specs.Ends.{Ends, mail_of}
use Rattle.parties.proofs.showing.show_all.Given.{Over}
use Rattle.parties.specs.Beside.{AreBeside}
use Rattle.parties.specs.Staying.{AllStay}

module _ (g : Over) where
  -- what the ends tell
  abbrev mail : Ends g.row.P-ReqTx.Denot g.row.P-RepTx.Denot g.row.P-GosTx.Denot g.row.P-ReqRx.Denot g.row.P-GosRx.Denot g.row.P-RepRx.Denot
      g.row.P-ReqTx-Key.Denot g.row.P-RepTx-Key.Denot g.row.P-GosTx-Key.Denot g.row.P-ReqRx-Key.Denot g.row.P-GosRx-Key.Denot g.row.P-RepRx-Key.Denot
  mail = mail_of g.P.ReqTx.Tx g.P.RepTx.Tx g.P.GosTx.Tx g.P.ReqRx.Rx g.P.GosRx.GossipRx g.P.RepRx.Rx

-- all stay, and so many workers are beside all sessions
abbrev pub invariant-loop-place : goal.invariant-loop-place
invariant-loop-place g l =
    let workers_are = l.parties.workers.items in
    let proxies_are = map proxy_of l.parties.sessions.items in
    record {
      stay : AllStay (mail g) l.fn.parties.workers.items workers_are (map proxy_of l.fn.parties.sessions.items) proxies_are;
      beside : (place at : ℕ) → place < l.place → AreBeside (mail g) place at workers_are proxies_are;
    }
