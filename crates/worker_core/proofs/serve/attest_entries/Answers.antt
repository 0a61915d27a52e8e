use Rattle.std.proofs.Common.{ℕ, All, subst}
use Rattle.std.proofs.lemmas.List.{take_all}
use Rattle.std.proofs.lemmas.List.Elements.{All-more}
use Rattle.composed_value.specs.Cell.{IsCell, PlainCell}
use Rattle.worker_core.proofs.serve.attest_entries.Goals as goal

pub loop-entry-preserved : goal.loop-entry-preserved
loop-entry-preserved c =
    let good : ℕ × PlainCell → Type 0 = λ entry. IsCell entry.1 in
    All-more good c.args.entries.now c.loop-entry.entry-index c.entry-item.result c.loop-entry-test.true c.loop-entry.invariant (subst good c.entry-item.is c.attest.ensures)

pub returns : goal.returns
returns c =
    let good : ℕ × PlainCell → Type 0 = λ entry. IsCell entry.1 in
    subst (All good) (take_all c.loop-entry.entry-index c.args.entries.now c.loop-entry-test.false) c.loop-entry.invariant
