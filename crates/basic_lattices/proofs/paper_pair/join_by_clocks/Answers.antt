use Rattle.std.proofs.Common.{◌≡◌, sym, ◌∙◌}
use Rattle.std.proofs.lemmas.Result.{IfOk-weaker}
use Rattle.basic_lattices.specs.PaperPair.{IsPaperJoin, both_joined}
use Rattle.basic_lattices.specs.SeenPair.{seen}
use Rattle.basic_lattices.proofs.PaperPairs.{neither_below, same_answer}
use Rattle.basic_lattices.proofs.paper_pair.join_by_clocks.Goals as goal

pub returns-then-a_is_at_most-b_is_at_most : goal.returns-then-a_is_at_most-b_is_at_most
returns-then-a_is_at_most-b_is_at_most c =
    let a = seen c.args.a.now in
    let b = seen c.args.b.now in
    let alike = same_answer _ _ c.if-a_is_at_most-b_is_at_most.true in
    IfOk-weaker c.join_halves.result (λ both. seen both ≡ both_joined a b) (λ both. IsPaperJoin a b (seen both)) (λ both e.
    neither_below a b (seen both) c.attest.ensures c.attest-2.ensures
    (λ at_most. c.at_most-b_is_at_most.ensures.0 (sym alike ∙ c.at_most-a_is_at_most.ensures.1 at_most))
    (λ at_least. c.at_most-a_is_at_most.ensures.0 (alike ∙ c.at_most-b_is_at_most.ensures.1 at_least))
    e) c.join_halves.ensures
