use Rattle.std.proofs.Common.{map, subst, sym}
use Rattle.party_turns.specs.Ends.{mail_of}
use Rattle.drain_ledger.specs.Handed.{AreHandedOver}
use Rattle.parties.specs.Session.{proxy_of}
use Rattle.party_run.proofs.FinishedLemmas.{all_answered, of_one_run}
use Rattle.party_run.proofs.finishing.finish_run.Goals as goal

pub finish_all-requires : goal.finish_all-requires
finish_all-requires g c = all_answered g.P.ReqTx.Tx.sent g.P.RepRx.Rx.received (map proxy_of c.args.parties.sessions.items) c.requires.ended

pub returns-clause-run : goal.returns-clause-run
returns-clause-run g c =
    let proxies = map proxy_of c.args.parties.sessions.items in
    subst (AreHandedOver (mail_of g.P.ReqTx.Tx g.P.RepTx.Tx g.P.GosTx.Tx g.P.ReqRx.Rx g.P.GosRx.GossipRx g.P.RepRx.Rx) c.args.script.now c.args.parties.workers.items)
    (sym c.in_ok-left.ensures) (of_one_run c.args.script.now c.args.parties.workers.items proxies c.requires.running (all_answered g.P.ReqTx.Tx.sent g.P.RepRx.Rx.received proxies c.requires.ended))
