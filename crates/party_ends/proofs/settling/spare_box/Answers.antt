use Rattle.std.proofs.Common.{arith, subst, sym}
use Rattle.std.proofs.lemmas.Bool.{false≢true}
use Rattle.placement.specs.Config.{IsOneOf}
use Rattle.party_ends.specs.Dealt.{IsEmptyBoxOf}
use Rattle.party_ends.proofs.MadeLemmas.{spare_box, the_only}
use Rattle.party_ends.proofs.settling.spare_box.Goals as goal
use Rattle.party_ends.proofs.settling.spare_box.Goals.{in-Some, in_default}

pub settle_one-requires-clause-pair : goal.settle_one-requires-clause-pair
settle_one-requires-clause-pair g c =
    c.in_ok-senders.ensures.paired 0 c.in-Some.spare (the_only c.in_ok-senders.senders.items c.pop.new.self.items c.in-Some.spare c.in-Some.ensures.items c.in_ok-senders.ensures.long)

pub settle_one-requires-clause-once : goal.settle_one-requires-clause-once
settle_one-requires-clause-once g c =
    let numbered = c.in_ok-senders.ensures.numbered 0 c.in-Some.spare (the_only c.in_ok-senders.senders.items c.pop.new.self.items c.in-Some.spare c.in-Some.ensures.items c.in_ok-senders.ensures.long) in
    c.in_ok-senders.ensures.not_taken_in (g.S.Tx.number c.in-Some.spare) (omega (arith, numbered), omega (arith, numbered))

pub returns : goal.returns
returns g c = elim c.match-pop.branch [
  | in-Some w ↦
      subst (IsEmptyBoxOf (IsOneOf 0) g.Q.Rx.key g.Q.Rx.senders g.Q.Rx.received g.Q.Rx.about) (sym w.mailbox-is)
      (spare_box g.Q.Rx.answers g.Q.Rx.keeps w.in-Some.spare w.settle_one.new.requests c.in_ok-senders.ensures
      (the_only c.in_ok-senders.senders.items c.pop.new.self.items w.in-Some.spare w.in-Some.ensures.items c.in_ok-senders.ensures.long) w.settle_one.ensures.key w.settle_one.ensures.settles)
  | in_default w ↦ absurd (false≢true (w.in_default.ensures.variant.1 (omega (arith, c.in_ok-senders.ensures.long))))
]
