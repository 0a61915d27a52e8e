use Rattle.std.proofs.Common.{◌≡◌, ◌<◌, ◌+◌, ◌^◌, ◌∙◌, ◌∷◌, length, map, get_or, ap, sym, subst, arith}
use Rattle.std.proofs.lemmas.List.{length-map}
use Rattle.mail_contract.specs.Takes.{ComesBefore}
use Rattle.mail_contract.proofs.LanesLemmas.{all_received, bounded_more, counted_more, last_has_lane, received_more, told_more, turn_passed}
use Rattle.mail_contract.proofs.gathered.GatheredRx.take.Goals as goal

pub next-requires : goal.next-requires
next-requires g c =
    let order = c.args.self.now.order.items in
    let last : c.last_of-last.result ≡ get_or (0 ∷ order) (length order) 0 = c.last_of-last.ensures ∙ ap (λ l. get_or (0 ∷ l) (length l) 0) (c.deref.ensures.value ∙ c.reserve.ensures.items) in
    omega (arith, last, last_has_lane c.args.self.now.order.items (map g.L.Lane.lane c.args.self.now.lanes.items) c.args.self.now.counted, length-map c.args.self.now.lanes.items g.L.Lane.lane)

pub invariant_of-self-in-Ok-Some : goal.invariant_of-self-in-Ok-Some
invariant_of-self-in-Ok-Some g c =
    let e = rw c.in-Ok-Some.field-0-is at c.in-Ok-Some.ensures in
    let long : length c.next.new.lanes.items ≡ length c.args.self.now.lanes.items = sym (length-map _ _) ∙ ap length e.keys ∙ length-map _ _ in
    record {
      counted = rw (e.lanes.1, c.push_reserved.ensures.items, c.reserve.ensures.items) (counted_more _ c.in-Ok-Some.place c.in-Ok-Some.message e.lanes.0 _ c.args.self.now.counted);
      few = subst (λ n. n < 2 ^ 16) (sym long) c.args.self.now.few;
    }

pub returns-in-Ok-None-clause-none : goal.returns-in-Ok-None-clause-none
returns-in-Ok-None-clause-none g c =
    let e = rw c.in-Ok-None.field-0-is at c.in-Ok-None.ensures in
    rw (e.lanes, c.reserve.ensures.items) (all_received g.L.Lane.keeps _ (λ i low. e.dry i (omega (arith, low, length-map c.args.self.now.lanes.items g.L.Lane.lane))) _ c.args.self.now.counted)

pub returns-in-Ok-Some-clause-received : goal.returns-in-Ok-Some-clause-received
returns-in-Ok-Some-clause-received g c =
    let e = rw c.in-Ok-Some.field-0-is at c.in-Ok-Some.ensures in
    rw (e.lanes.1, c.push_reserved.ensures.items, c.reserve.ensures.items) (received_more _ c.in-Ok-Some.place c.in-Ok-Some.message e.lanes.0 _ c.args.self.now.counted)

pub returns-in-Ok-Some-clause-told : goal.returns-in-Ok-Some-clause-told
returns-in-Ok-Some-clause-told g c =
    let e = rw c.in-Ok-Some.field-0-is at c.in-Ok-Some.ensures in
    let given = rw e.lanes.1 at e.given in
    rw (e.lanes.1, c.push_reserved.ensures.items, c.reserve.ensures.items) (told_more _ c.in-Ok-Some.place c.in-Ok-Some.message e.lanes.0 _ c.args.self.now.counted _ given.told)

pub returns-in-Ok-Some-clause-bounded : goal.returns-in-Ok-Some-clause-bounded
returns-in-Ok-Some-clause-bounded g c =
    let e = rw c.in-Ok-Some.field-0-is at c.in-Ok-Some.ensures in
    let given = rw e.lanes.1 at e.given in
    λ bounded. rw (e.lanes.1, c.push_reserved.ensures.items, c.reserve.ensures.items) (bounded_more _ c.in-Ok-Some.place c.in-Ok-Some.message e.lanes.0 _ c.args.self.now.counted (given.bounded bounded))

pub returns-in-Ok-Some-clause-turns : goal.returns-in-Ok-Some-clause-turns
returns-in-Ok-Some-clause-turns g c =
    let e = rw c.in-Ok-Some.field-0-is at c.in-Ok-Some.ensures in
    let order = c.args.self.now.order.items in
    let last : c.last_of-last.result ≡ get_or (0 ∷ order) (length order) 0 = c.last_of-last.ensures ∙ ap (λ l. get_or (0 ∷ l) (length l) 0) (c.deref.ensures.value ∙ c.reserve.ensures.items) in
    λ exact. rw e.lanes.1 (turn_passed g.L.Lane.keeps exact _ c.in-Ok-Some.place c.in-Ok-Some.message _ c.args.self.now.counted
    (λ other low before. e.passed other (omega (arith, low, length-map c.args.self.now.lanes.items g.L.Lane.lane)) (subst (λ last. ComesBefore last (other + 1) (c.in-Ok-Some.place + 1)) (sym last) before))
    (length (map g.L.Lane.key c.args.self.now.lanes.items)) (length-map c.args.self.now.lanes.items g.L.Lane.key ∙ sym (length-map c.args.self.now.lanes.items g.L.Lane.lane)))
