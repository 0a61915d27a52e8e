use Rattle.std.proofs.Common.{◌<◌, ◌≤◌, ◌-◌, ◌^◌, ◌∙◌, ap, arith, length, min, sym, subst, length-set}
use Rattle.mail_contract.specs.Lanes.{about_of}
use Rattle.mail_contract.specs.Takes.{IsFront}
use Rattle.mail_contract.proofs.BoxesLemmas.{lane_now, others_stay, received_before, still_counted, still_received}
use Rattle.mail_contract.proofs.MapsLemmas.{same_map}
use Rattle.mail_contract.proofs.gathered.GatheredRx.beside.Goals as goal

pub invariant_of-self : goal.invariant_of-self
invariant_of-self g c = record {
  counted = still_counted g.L.Lane.lane g.L.Lane.key _ _ _ _ _ c.sender-sender.ensures c.requires.0 c.requires.1 c.index_mut-lane.ensures.value c.show.ensures.taken _ c.args.self.now.counted;
  few = subst (λ n. n < 2 ^ 16) (sym (length-set _ _ _)) c.args.self.now.few;
}

pub returns-clause-key : goal.returns-clause-key
returns-clause-key g c = same_map g.L.Lane.key _ _ _ _ c.index_mut-lane.ensures.value c.show.ensures.key

pub returns-clause-received : goal.returns-clause-received
returns-clause-received g c = still_received g.L.Lane.lane g.L.Lane.key _ _ _ _ _ c.sender-sender.ensures c.requires.0 c.requires.1 c.index_mut-lane.ensures.value c.show.ensures.taken c.args.self.now.order.items

pub returns-clause-told : goal.returns-clause-told
returns-clause-told g c =
    let is = received_before g.L.Lane.lane g.L.Lane.key _ _ _ _ c.show.new.self c.sender-sender.ensures c.requires.0 c.requires.1 c.index_mut-lane.ensures.value _ c.args.self.now.counted in
    λ complete. subst (λ front. IsFront front (g.L.From.Tx.sent c.args.tx.now)) (sym is) (c.show.ensures.told complete)

pub returns-clause-roomy : goal.returns-clause-roomy
returns-clause-roomy g c =
    let is = received_before g.L.Lane.lane g.L.Lane.key _ _ _ _ c.show.new.self c.sender-sender.ensures c.requires.0 c.requires.1 c.index_mut-lane.ensures.value _ c.args.self.now.counted in
    λ roomy. c.show.ensures.roomy roomy ∙ ap (λ l. min 64 (length (g.L.From.Tx.sent c.args.tx.now) - length l)) (sym is)

pub returns-clause-freed : goal.returns-clause-freed
returns-clause-freed g c =
    let is = received_before g.L.Lane.lane g.L.Lane.key _ _ _ _ c.show.new.self c.sender-sender.ensures c.requires.0 c.requires.1 c.index_mut-lane.ensures.value _ c.args.self.now.counted in
    λ freed enough. c.show.ensures.freed freed (omega (arith, enough, ap length is))

pub returns-clause-learned : goal.returns-clause-learned
returns-clause-learned g c = record {
  others = others_stay g.L.Lane.lane g.L.Lane.key _ _ _ _ _ c.sender-sender.ensures c.requires.0 c.requires.1 c.index_mut-lane.ensures.value;
  still = λ still. ap about_of (same_map g.L.Lane.lane _ _ _ _ c.index_mut-lane.ensures.value (c.show.ensures.still still));
  shown = λ shows. ap (λ l. l.standing) (lane_now g.L.Lane.lane g.L.Lane.key _ _ _ _ _ c.sender-sender.ensures c.requires.0 c.requires.1 c.index_mut-lane.ensures.value) ∙ c.show.ensures.shown shows;
  left = λ shows. subst (λ left. left ≤ 64) (sym (ap (λ l. l.left) (lane_now g.L.Lane.lane g.L.Lane.key _ _ _ _ _ c.sender-sender.ensures c.requires.0 c.requires.1 c.index_mut-lane.ensures.value))) (c.show.ensures.left shows);
  met = ap (λ l. l.met) (lane_now g.L.Lane.lane g.L.Lane.key _ _ _ _ _ c.sender-sender.ensures c.requires.0 c.requires.1 c.index_mut-lane.ensures.value) ∙ c.show.ensures.met;
}
