use Rattle.std.proofs.Common.{◌+◌, ◌∷◌, ◌∙◌, [], All, ap, arith, length, length-append, subst, sym}
use Rattle.std.proofs.lemmas.List.Elements.{All-nil, All-push}
use Rattle.placement.specs.Config.{IsOneOf}
use Rattle.party_ends.specs.Dealt.{IsEmptyBoxOf}
use Rattle.party_ends.proofs.settling.spare_boxes.Goals as goal

pub loop-init : goal.loop-init
loop-init g c = record {
  long = ap length c.new-made.ensures.items;
  spare =
      subst (All (IsEmptyBoxOf (IsOneOf 0) g.Q.Rx.key g.Q.Rx.senders g.Q.Rx.received g.Q.Rx.about)) (sym c.new-made.ensures.items)
      (All-nil (IsEmptyBoxOf (IsOneOf 0) g.Q.Rx.key g.Q.Rx.senders g.Q.Rx.received g.Q.Rx.about));
}

pub loop-preserved : goal.loop-preserved
loop-preserved g c = record {
  long = ap length c.in_ok-push.ensures.items ∙ length-append c.loop.made.items (c.in_ok-spare_box.field-0 ∷ []) ∙ ap (λ n. n + 1) c.loop.invariant.long;
  spare =
      subst (All (IsEmptyBoxOf (IsOneOf 0) g.Q.Rx.key g.Q.Rx.senders g.Q.Rx.received g.Q.Rx.about)) (sym c.in_ok-push.ensures.items)
      (All-push (IsEmptyBoxOf (IsOneOf 0) g.Q.Rx.key g.Q.Rx.senders g.Q.Rx.received g.Q.Rx.about)
      c.loop.made.items c.in_ok-spare_box.field-0 c.loop.invariant.spare c.in_ok-spare_box.ensures);
}

pub returns-clause-long : goal.returns-clause-long
returns-clause-long g c = omega (arith, c.loop.invariant.long)

pub returns-clause-spare : goal.returns-clause-spare
returns-clause-spare g c = c.loop.invariant.spare
