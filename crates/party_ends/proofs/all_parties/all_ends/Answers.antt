use Rattle.std.proofs.Common.{◌≡◌, [], arith, subst, sym}
use Rattle.std.proofs.lemmas.List.{length-map}
use Rattle.party_turns.specs.Ends.{mail_of}
use Rattle.party_ends.specs.Numbers.{AreNumbered}
use Rattle.party_ends.proofs.AllEndsLemmas.{are_all_ends, told_of_gossip_in}
use Rattle.party_ends.proofs.MadeLemmas.{are_new, ends_of, of_each_box}
use Rattle.party_ends.proofs.all_parties.all_ends.Goals as goal

pub returns-clause-ends : goal.returns-clause-ends
returns-clause-ends g c = are_all_ends (mail_of g.P.ReqTx.Tx g.P.RepTx.Tx g.P.GosTx.Tx g.P.ReqRx.Rx g.P.GosRx.GossipRx g.P.RepRx.Rx)
    c.args.workers c.args.sessions
    c.in_ok-asks.asks.items c.in_ok-asks.requests.items c.in_ok-answers.answers.items c.in_ok-answers.replies.items c.in_ok-tells.tells.items c.in_ok-tells.gossip.items
    c.in_ok-asks.ensures.new c.in_ok-asks.ensures.empty
    (are_new g.P.RepTx.Tx.key g.P.RepTx.Tx.number g.P.RepTx.Tx.sent g.P.RepRx.Rx.pairs g.P.RepRx.Rx.key g.P.RepRx.Rx.about (λ senders box fresh. ends_of fresh) c.in_ok-answers.ensures)
    (of_each_box c.in_ok-answers.ensures (λ box. (g.P.RepRx.Rx.senders (g.P.RepRx.Rx.key box) ≡ c.args.workers) × (g.P.RepRx.Rx.received box ≡ [])) (λ senders box fresh. (fresh.senders_are, fresh.received_is)))
    c.in_ok-tells.ensures.new c.in_ok-tells.ensures.empty
    c.in_ok-its_workers.its_workers.items c.in_ok-its_sessions.its_sessions.items c.in_ok-its_workers.ensures c.in_ok-its_sessions.ensures

pub returns-clause-made_with : goal.returns-clause-made_with
returns-clause-made_with g c =
    let requests = c.in_ok-asks.ensures.new.boxes_are in
    let answers = c.in_ok-answers.ensures.rows_are in
    let tells = c.in_ok-tells.ensures.new.rows_are in
    let boxes = c.in_ok-tells.ensures.new.boxes_are in
    subst (AreNumbered (g.P.MakesGossip.numbers c.args.post.now))
    (sym (told_of_gossip_in c.in_ok-asks.requests.items c.in_ok-answers.answers.items c.in_ok-tells.tells.items c.in_ok-tells.gossip.items
    (omega (arith, requests, answers, length-map c.in_ok-answers.answers.items (λ row. row.items)))
    (omega (arith, requests, tells, length-map c.in_ok-tells.tells.items (λ row. row.items)))
    (omega (arith, requests, boxes))
    c.in_ok-its_workers.its_workers.items c.in_ok-its_workers.ensures (λ its. g.P.GosRx.GossipRx.made_with (g.P.GosRx.GossipRx.key its))))
    c.in_ok-tells.ensures.made_with
