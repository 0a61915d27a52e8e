use Rattle.std.proofs.Common.{sym, ◌∙◌}
use Rattle.std.proofs.lemmas.Bool.{false≢true}
use Rattle.merge_world.proofs.HeardLemmas.{both_hold, same_hold}
use Rattle.merge_world.proofs.world.are_alike.Goals as goal

pub returns-then-at_most : goal.returns-then-at_most
returns-then-at_most c = (
  λ back. both_hold c.args.a.now c.args.b.now c.attest.ensures c.attest-2.ensures c.requires (c.at_most.ensures.0 c.if-at_most.true) (c.at_most-then-at_most.ensures.0 back),
  λ same. c.at_most-then-at_most.ensures.1 (same_hold c.args.b.now c.args.a.now c.attest.ensures (sym same)),
)

pub returns-else-at_most : goal.returns-else-at_most
returns-else-at_most c = (
  λ is. absurd (false≢true (sym c.if-at_most.false ∙ is)),
  λ same. c.at_most.ensures.1 (same_hold c.args.a.now c.args.b.now c.attest-2.ensures same),
)
