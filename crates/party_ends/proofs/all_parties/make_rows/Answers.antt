use Rattle.std.proofs.Common.{All, false, map}
use Rattle.std.proofs.lemmas.Result.{IfOk-weaker}
use Rattle.placement.specs.Config.{IsOneOf}
use Rattle.party_ends.specs.Dealt.{AreMade, AreNew, IsEmptyBoxOf}
use Rattle.party_ends.specs.Fresh.{IsFresh}
use Rattle.party_ends.proofs.MadeLemmas.{are_new, empty_box, ends_of, of_each_box}
use Rattle.party_ends.proofs.all_parties.make_rows.Goals as goal

pub returns-clause-new : goal.returns-clause-new
returns-clause-new g c = IfOk-weaker c.make_all.result
    (λ made. AreMade (IsFresh g.S.Tx.number g.S.Tx.sent g.S.Tx.key g.Q.Rx.key g.Q.Rx.pairs g.Q.Rx.senders g.Q.Rx.received g.Q.Rx.about c.args.rows) c.args.boxes c.args.rows (map (λ row. row.items) made.0.items) made.1.items)
    (λ made. AreNew g.S.Tx.key g.S.Tx.number g.S.Tx.sent g.Q.Rx.pairs g.Q.Rx.key g.Q.Rx.about false c.args.rows c.args.boxes (map (λ row. row.items) made.0.items) made.1.items)
    (λ ends made. are_new g.S.Tx.key g.S.Tx.number g.S.Tx.sent g.Q.Rx.pairs g.Q.Rx.key g.Q.Rx.about (λ senders box fresh. ends_of fresh) made)
    c.make_all.ensures

pub returns-clause-empty : goal.returns-clause-empty
returns-clause-empty g c = IfOk-weaker c.make_all.result
    (λ made. AreMade (IsFresh g.S.Tx.number g.S.Tx.sent g.S.Tx.key g.Q.Rx.key g.Q.Rx.pairs g.Q.Rx.senders g.Q.Rx.received g.Q.Rx.about c.args.rows) c.args.boxes c.args.rows (map (λ row. row.items) made.0.items) made.1.items)
    (λ made. All (IsEmptyBoxOf (IsOneOf c.args.rows) g.Q.Rx.key g.Q.Rx.senders g.Q.Rx.received g.Q.Rx.about) made.1.items)
    (λ ends made. of_each_box made (IsEmptyBoxOf (IsOneOf c.args.rows) g.Q.Rx.key g.Q.Rx.senders g.Q.Rx.received g.Q.Rx.about) (λ senders box fresh. empty_box fresh))
    c.make_all.ensures
