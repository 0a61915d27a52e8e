use Rattle.std.proofs.Common.{◌≤◌, ◌+◌, true, length, map, ap, subst, sym}
use Rattle.mail_contract.specs.Got.{got_of}
use Rattle.mail_contract.specs.Lanes.{about_of, received_of}
use Rattle.mail_contract.specs.Standing.{left_of_all}
use Rattle.mail_contract.specs.Takes.{AreAllOfSent, OnSome}
use Rattle.mail_contract.proofs.WeakLemmas.{all_fall, all_of_sent, bounded_out, due_handed_out, handed_out, on_none, still_of_sent}
use Rattle.mail_contract.proofs.gathered.GatheredGossipRx.take.Goals as goal

pub returns-clause-got : goal.returns-clause-got
returns-clause-got g c = handed_out _ _ _ c.take.ensures.received

pub returns-clause-told : goal.returns-clause-told
returns-clause-told g c = still_of_sent _ _ _ (about_of (map g.L.Lane.lane c.args.self.now.lanes.items)) (about_of (map g.L.Lane.lane c.take.new.self.lanes.items)) c.take.ensures.told

pub returns-clause-bounded : goal.returns-clause-bounded
returns-clause-bounded g c = λ bounded. bounded_out c.take.result (received_of c.take.new.self.order.items (map g.L.Lane.lane c.take.new.self.lanes.items)) (about_of (map g.L.Lane.lane c.take.new.self.lanes.items)) (c.take.ensures.bounded bounded)

pub returns-clause-most : goal.returns-clause-most
returns-clause-most g c = λ finite met.
    let falls = all_fall c.take.result _ (about_of (map g.L.Lane.lane c.args.self.now.lanes.items)) (about_of (map g.L.Lane.lane c.take.new.self.lanes.items)) c.take.ensures.sender met (c.take.ensures.left finite) in
    subst (λ n. left_of_all n (about_of (map g.L.Lane.lane c.take.new.self.lanes.items)) ≤ left_of_all (length (map g.L.Lane.key c.args.self.now.lanes.items)) (about_of (map g.L.Lane.lane c.args.self.now.lanes.items))) (sym (ap length c.take.ensures.key)) falls.0

pub returns-clause-falls : goal.returns-clause-falls
returns-clause-falls g c = λ finite met.
    let falls = all_fall c.take.result _ (about_of (map g.L.Lane.lane c.args.self.now.lanes.items)) (about_of (map g.L.Lane.lane c.take.new.self.lanes.items)) c.take.ensures.sender met (c.take.ensures.left finite) in
    subst (λ n. OnSome c.take.result (λ _ _. left_of_all n (about_of (map g.L.Lane.lane c.take.new.self.lanes.items)) + 1 ≤ left_of_all (length (map g.L.Lane.key c.args.self.now.lanes.items)) (about_of (map g.L.Lane.lane c.args.self.now.lanes.items)))) (sym (ap length c.take.ensures.key)) falls.1

pub returns-clause-none : goal.returns-clause-none
returns-clause-none g c = on_none c.take.result _ _ (all_of_sent _ (received_of c.take.new.self.order.items (map g.L.Lane.lane c.take.new.self.lanes.items)) (about_of (map g.L.Lane.lane c.take.new.self.lanes.items))) c.take.ensures.none

pub returns-clause-advances : goal.returns-clause-advances
returns-clause-advances g c = λ complete.
    let received = received_of c.take.new.self.order.items (map g.L.Lane.lane c.take.new.self.lanes.items) in
    let about = about_of (map g.L.Lane.lane c.take.new.self.lanes.items) in
    on_none c.take.result _ _ (λ (all : AreAllOfSent g.L.Lane.keeps.complete received about). due_handed_out g.L.Lane.keeps.complete (got_of received) about (λ _. true) complete (all_of_sent g.L.Lane.keeps.complete received about all)) c.take.ensures.none
