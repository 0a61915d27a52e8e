use Rattle.std.proofs.Common.{◌∙◌, arith, refl}
use Rattle.std.proofs.lemmas.List.{length-map}
use Rattle.gossip_rounds.proofs.TellingLemmas.{all_told, none_told, room_stays, told_fails, told_more, untried_roomy}
use Rattle.gossip_rounds.proofs.rounds.gossip.Goals as goal

pub loop-mate-init : goal.loop-mate-init
loop-mate-init g c = record {
  keys = refl;
  numbers = refl;
  most = refl;
  later = λ place later. refl;
  mates = none_told _ _ _ _ (untried_roomy g.O.Tx.clear g.O.Tx.roomy g.O.Tx.unseen c.args.senders.now.items);
}

pub returns-in_err-sent-clause-tells : goal.returns-in_err-sent-clause-tells
returns-in_err-sent-clause-tells g c =
    let one = c.in_err-sent.ensures in
    told_fails c.loop-mate.invariant.mates
    (omega (arith, c.loop-mate-test.true, c.len-mate-end.ensures, c.args.senders.now.ok.0, length-map c.args.senders.now.items g.O.Tx.sent))
    (record { changed = one.changed_others; told = one.told_others; turned = one.turned_others; fulls = one.fulls_others })
    one.tells
    (room_stays g.O.Tx.clear g.O.Tx.roomy g.O.Tx.unseen _ _ c.loop-mate.mate (c.loop-mate.invariant.later c.loop-mate.mate (omega arith)))
    c.from_residual.result c.from_residual.ensures.0

pub loop-mate-preserved : goal.loop-mate-preserved
loop-mate-preserved g c =
    let one = c.in_ok-sent.ensures in
    record {
      keys = one.keys ∙ c.loop-mate.invariant.keys;
      numbers = one.numbers ∙ c.loop-mate.invariant.numbers;
      most = one.most ∙ c.loop-mate.invariant.most;
      later = λ place later. one.senders_others place (omega (arith, later)) ∙ c.loop-mate.invariant.later place (omega (arith, later));
      mates =
          told_more c.loop-mate.invariant.mates
          (omega (arith, c.loop-mate-test.true, c.len-mate-end.ensures, c.args.senders.now.ok.0, length-map c.args.senders.now.items g.O.Tx.sent))
          (record { changed = one.changed_others; told = one.told_others; turned = one.turned_others; fulls = one.fulls_others })
          one.tells
          (room_stays g.O.Tx.clear g.O.Tx.roomy g.O.Tx.unseen _ _ c.loop-mate.mate (c.loop-mate.invariant.later c.loop-mate.mate (omega arith)))
          c.in_ok-sent.field-0 refl one.small;
    }

pub returns-clause-tells : goal.returns-clause-tells
returns-clause-tells g c =
    let ended = c.loop-mate.auto.mate-end in
    let all = c.loop-mate-test.false in
    all_told c.loop-mate.invariant.mates
    (omega (arith, ended, all, c.len-mate-end.ensures, c.args.senders.now.ok.0, length-map c.args.senders.now.items g.O.Tx.sent))
