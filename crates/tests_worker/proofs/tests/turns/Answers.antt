use Rattle.tests_worker.proofs.MatesLemmas.{fixed_through, keys_through, stays_from}
use Rattle.tests_worker.proofs.tests.turns.Goals as goal

pub loop-preserved : goal.loop-preserved
loop-preserved g c =
    let fixed = fixed_through c.loop.invariant.fixed c.turn.ensures.fixed in
    let keys = keys_through c.loop.invariant.keys c.turn.ensures.keys in
    record { stays = stays_from fixed keys; fixed = fixed; keys = keys }
