use Rattle.std.proofs.Common.{◌∙◌, ap, arith, map, sym}
use Rattle.std.proofs.lemmas.List.{length-map}
use Rattle.std.proofs.lemmas.Option.{same_Some}
use Rattle.session_proxy.specs.State.{Lists, has_begun}
use Rattle.party_turns.proofs.ItemsLemmas.{mapped}
use Rattle.party_turns.specs.Ends.{mail_of, session_lists}
use Rattle.parties.proofs.ChangedLemmas.{read_there}
use Rattle.parties.specs.Session.{proxy_of}
use Rattle.parties.proofs.parties.PartiesRun.has_begun.Goals as goal

pub returns : goal.returns
returns g c item there =
    let lists = session_lists (mail_of g.P.ReqTx.Tx g.P.RepTx.Tx g.P.GosTx.Tx g.P.ReqRx.Rx g.P.GosRx.GossipRx g.P.RepRx.Rx) in
    let sessions = c.args.self.now.sessions.items in
    let long = length-map sessions proxy_of in
    let told = length-map (map proxy_of sessions) lists in
    let its = read_there sessions c.args.place c.index.result.now (omega (arith, c.requires, long, told)) c.index.ensures in
    c.has_begun.ensures
    ∙ ap (λ (one : Lists). has_begun one.course) (same_Some (lists (proxy_of c.index.result.now)) item
    (sym (mapped lists (map proxy_of sessions) c.args.place (proxy_of c.index.result.now) (mapped proxy_of sessions c.args.place c.index.result.now its)) ∙ there))
