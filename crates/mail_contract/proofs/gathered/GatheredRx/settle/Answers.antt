use Rattle.std.proofs.Common.{◌<◌, ◌-◌, ◌^◌, ◌∙◌, ap, length, sym, subst, length-set}
use Rattle.mail_contract.specs.Takes.{IsFront}
use Rattle.mail_contract.proofs.BoxesLemmas.{lane_now, others_stay, received_before, still_counted, still_received}
use Rattle.mail_contract.proofs.MapsLemmas.{same_map}
use Rattle.mail_contract.proofs.gathered.GatheredRx.settle.Goals as goal

pub invariant_of-self : goal.invariant_of-self
invariant_of-self g c = record {
  counted = still_counted g.L.Lane.lane g.L.Lane.key _ _ _ _ _ c.sender-sender.ensures c.requires.pair.0 c.requires.pair.1 c.index_mut-lane.ensures.value (ap (λ l. l.taken) c.end.ensures.lane) _ c.args.self.now.counted;
  few = subst (λ n. n < 2 ^ 16) (sym (length-set _ _ _)) c.args.self.now.few;
}

pub returns-clause-key : goal.returns-clause-key
returns-clause-key g c = same_map g.L.Lane.key _ _ _ _ c.index_mut-lane.ensures.value c.end.ensures.key

pub returns-clause-received : goal.returns-clause-received
returns-clause-received g c = still_received g.L.Lane.lane g.L.Lane.key _ _ _ _ _ c.sender-sender.ensures c.requires.pair.0 c.requires.pair.1 c.index_mut-lane.ensures.value (ap (λ l. l.taken) c.end.ensures.lane) c.args.self.now.order.items

pub returns-clause-others : goal.returns-clause-others
returns-clause-others g c = others_stay g.L.Lane.lane g.L.Lane.key _ _ _ _ _ c.sender-sender.ensures c.requires.pair.0 c.requires.pair.1 c.index_mut-lane.ensures.value

pub returns-clause-settled : goal.returns-clause-settled
returns-clause-settled g c = ap (λ l. l.standing) (lane_now g.L.Lane.lane g.L.Lane.key _ _ _ _ _ c.sender-sender.ensures c.requires.pair.0 c.requires.pair.1 c.index_mut-lane.ensures.value ∙ c.end.ensures.lane)

pub returns-clause-met : goal.returns-clause-met
returns-clause-met g c = ap (λ l. l.met) (lane_now g.L.Lane.lane g.L.Lane.key _ _ _ _ _ c.sender-sender.ensures c.requires.pair.0 c.requires.pair.1 c.index_mut-lane.ensures.value ∙ c.end.ensures.lane)

pub returns-clause-told : goal.returns-clause-told
returns-clause-told g c =
    let is = received_before g.L.Lane.lane g.L.Lane.key _ _ _ _ c.end.new.self c.sender-sender.ensures c.requires.pair.0 c.requires.pair.1 c.index_mut-lane.ensures.value _ c.args.self.now.counted in
    subst (λ front. IsFront front (g.L.From.Tx.sent c.args.ended)) (sym is) c.end.ensures.told

pub returns-clause-left : goal.returns-clause-left
returns-clause-left g c =
    let is = received_before g.L.Lane.lane g.L.Lane.key _ _ _ _ c.end.new.self c.sender-sender.ensures c.requires.pair.0 c.requires.pair.1 c.index_mut-lane.ensures.value _ c.args.self.now.counted in
    λ finite. ap (λ l. l.left) (lane_now g.L.Lane.lane g.L.Lane.key _ _ _ _ _ c.sender-sender.ensures c.requires.pair.0 c.requires.pair.1 c.index_mut-lane.ensures.value ∙ c.end.ensures.lane)
    ∙ ap (λ l. length (g.L.From.Tx.sent c.args.ended) - length l) (sym is)
