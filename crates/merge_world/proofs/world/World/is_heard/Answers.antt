use Rattle.std.proofs.Common.{◌≢◌, [], sym, ◌∙◌}
use Rattle.std.proofs.lemmas.Bool.{false≢true}
use Rattle.merge_world.proofs.HeardLemmas.{key_from_own, own_from_key}
use Rattle.merge_world.proofs.world.World.is_heard.Goals as goal

pub returns-else-is_empty : goal.returns-else-is_empty
returns-else-is_empty c =
    let some : c.in-Some.own.now.clock ≢ [] = λ none. false≢true (sym c.if-is_empty.false ∙ c.is_empty.ensures.1 (c.clock.ensures ∙ none)) in (
      λ heard. key_from_own c.args.self.now c.args.worker c.args.key c.in-Some.own.now c.in-Some.ensures (c.others_heard.ensures.0 heard),
      λ heard. c.others_heard.ensures.1 (own_from_key c.args.self.now c.args.worker c.args.key c.in-Some.own.now c.in-Some.ensures some heard),
    )
