use Rattle.std.specs.Prelude.{◌≡◌}
use Rattle.std.proofs.lemmas.Result.{IfOk-weaker}
use Rattle.basic_lattices.specs.PaperPair.{IsPaperJoin, IsBelow}
use Rattle.basic_lattices.specs.SeenPair.{seen}
use Rattle.basic_lattices.proofs.PaperPairs.{second_wins, first_wins}
use Rattle.basic_lattices.proofs.paper_pair.paper_join.Goals as goal

pub returns-clause-second : goal.returns-clause-second
returns-clause-second c =
    let a = seen c.args.a.now in
    let b = seen c.args.b.now in
    IfOk-weaker c.join_by_clocks.result (λ joined. IsPaperJoin a b (seen joined)) (λ joined. IsBelow a.clock b.clock → seen joined ≡ b) (λ joined is. second_wins a b (seen joined) c.attest.ensures c.attest-2.ensures is) c.join_by_clocks.ensures

pub returns-clause-first : goal.returns-clause-first
returns-clause-first c =
    let a = seen c.args.a.now in
    let b = seen c.args.b.now in
    IfOk-weaker c.join_by_clocks.result (λ joined. IsPaperJoin a b (seen joined)) (λ joined. IsBelow b.clock a.clock → seen joined ≡ a) (λ joined is. first_wins a b (seen joined) c.attest.ensures c.attest-2.ensures is) c.join_by_clocks.ensures
