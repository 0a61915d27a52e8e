use Rattle.std.proofs.Common.{◌≡◌, ◌<◌, ◌^◌, ◌∙◌, length, ap, sym, subst}
use Rattle.std.proofs.lemmas.List.{length-map}
use Rattle.mail_contract.proofs.LanesLemmas.{all_part, counted_apart, received_apart}
use Rattle.mail_contract.proofs.gathered.GatheredRx.apart.Goals as goal

pub invariant_of-self : goal.invariant_of-self
invariant_of-self g c =
    let long : length c.part_all.new.lanes.items ≡ length c.args.self.now.lanes.items = sym (length-map _ _) ∙ ap length c.part_all.ensures.keys ∙ length-map _ _ in
    record {
      counted = rw c.part_all.ensures.lanes (counted_apart _ _ c.args.self.now.counted);
      few = subst (λ n. n < 2 ^ 16) (sym long) c.args.self.now.few;
    }

pub returns-clause-received : goal.returns-clause-received
returns-clause-received g c = rw c.part_all.ensures.lanes (received_apart c.args.self.now.order.items _)

pub returns-clause-about : goal.returns-clause-about
returns-clause-about g c = rw c.part_all.ensures.lanes (all_part _)
