use Rattle.std.proofs.Common.{◌∙◌, take, sym}
use Rattle.mail_contract.proofs.MapsLemmas.{push_map, push_replicate, range_more}
use Rattle.mail_contract.proofs.parcels.new_senders.Goals as goal

pub loop-place-preserved : goal.loop-place-preserved
loop-place-preserved g c =
    let v = c.loop-place.invariant in
    let is = c.in_ok-push.ensures.items in
    record {
      numbers = push_map (λ tx. tx.number) _ _ _ _ _ is v.numbers c.new.ensures.number ∙ sym (range_more c.loop-place.place);
      sent = push_replicate (λ tx. tx.history.items) _ _ _ _ _ is v.sent c.new.ensures.sent;
      given = push_replicate (λ tx. take tx.given tx.history.items) _ _ _ _ _ is v.given c.new.ensures.given;
    }
