use Rattle.parties.specs.Beside.{IsApart}
use Rattle.session_proxy.specs.State.{PlainProxy}
use Rattle.party_turns.proofs.PlacesLemmas.{IsDoneBefore}
use Rattle.parties.specs.Session.{proxy_of}
use Rattle.parties.proofs.parting.part_sessions.Given.{Over}
use Rattle.parties.proofs.parting.part_sessions.Given as goal
use Rattle.party_turns.specs.Ends.{Ends, mail_of}
use Rattle.parties.proofs.StayLemmas.{SessionStays}

module _ (g : Over) where
  -- what the ends tell
  abbrev mail : Ends g.row.P-ReqTx.Denot g.row.P-RepTx.Denot g.row.P-GosTx.Denot g.row.P-ReqRx.Denot g.row.P-GosRx.Denot g.row.P-RepRx.Denot
      g.row.P-ReqTx-Key.Denot g.row.P-RepTx-Key.Denot g.row.P-GosTx-Key.Denot g.row.P-ReqRx-Key.Denot g.row.P-GosRx-Key.Denot g.row.P-RepRx-Key.Denot
  mail = mail_of g.P.ReqTx.Tx g.P.RepTx.Tx g.P.GosTx.Tx g.P.ReqRx.Rx g.P.GosRx.GossipRx g.P.RepRx.Rx

module _ (g : Over) where
  abbrev pub Proxy : Type 0
  Proxy = PlainProxy g.row.P-ReqTx.Denot g.row.P-RepRx.Denot

  -- a session stays, and nobody is beside its box
  abbrev pub IsParted : Proxy → Proxy → Type 0
  IsParted was is = record { stays : SessionStays (mail g) was is; alone : IsApart (g.P.RepRx.Rx.about is.ends.replies) }

abbrev pub invariant-loop-session : goal.invariant-loop-session
invariant-loop-session g l = IsDoneBefore (λ was is. IsParted g (proxy_of was) (proxy_of is)) l.fn.parties.sessions.items l.session-index l.session-items
