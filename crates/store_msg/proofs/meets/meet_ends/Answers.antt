use Rattle.std.proofs.Common.{◌-◌, ◌<◌, [], ◌∙◌, ap, get_or, length, min, sym, arith}
use Rattle.std.proofs.lemmas.List.{get_or-set_other, length-map, map-set}
use Rattle.mail_contract.specs.Takes.{from_sender}
use Rattle.mail_contract.proofs.MapsLemmas.{at_map, new_map, same_map}
use Rattle.store_msg.proofs.meets.meet_ends.Goals as goal

pub returns-clause-keys : goal.returns-clause-keys
returns-clause-keys g c = same_map g.T.Tx.key _ _ _ _ c.index_mut-sender.ensures.value c.beside.ensures.tx_key

pub returns-clause-numbers : goal.returns-clause-numbers
returns-clause-numbers g c = same_map g.T.Tx.number _ _ _ _ c.index_mut-sender.ensures.value c.beside.ensures.tx_number

pub returns-clause-sent : goal.returns-clause-sent
returns-clause-sent g c = same_map g.T.Tx.sent _ _ _ _ c.index_mut-sender.ensures.value c.beside.ensures.tx_sent

pub returns-clause-roomy : goal.returns-clause-roomy
returns-clause-roomy g c =
    let senders = c.args.ends.now.requests.items in
    let i = c.args.worker - 1 in
    let old = c.index_mut-sender.result.now in
    let low : i < length senders = omega (arith, c.requires.asks.0, c.requires.asks.1, length-map senders g.T.Tx.key) in
    let sent = at_map g.T.Tx.sent senders i old [] low c.index_mut-sender.ensures.value in
    let number = at_map g.T.Tx.number senders i old 0 low c.index_mut-sender.ensures.value in
    λ roomy. new_map g.T.Tx.unseen senders i c.beside.new.tx 0 low ∙ c.beside.ensures.roomy roomy
    ∙ (λ j. min 64 (length (sym sent j) - length (from_sender (sym number j) (g.Q.Rx.received c.args.requests.now))))

pub returns-clause-fulls : goal.returns-clause-fulls
returns-clause-fulls g c = same_map g.T.Tx.fulls _ _ _ _ c.index_mut-sender.ensures.value c.beside.ensures.tx_fulls

pub returns-clause-others_unseen : goal.returns-clause-others_unseen
returns-clause-others_unseen g c =
    λ place apart. ap (λ list. get_or list place 0) (map-set g.T.Tx.unseen c.args.ends.now.requests.items _ c.beside.new.tx)
    ∙ get_or-set_other _ _ place (g.T.Tx.unseen c.beside.new.tx) 0 apart
