use Rattle.std.proofs.Common.{refl, length, ap, arith}
use Rattle.merge_world.specs.World.{PlainWorld}
use Rattle.merge_world.proofs.HeardLemmas.{others_from_places}
use Rattle.merge_world.proofs.world.World.others_heard.Goals as goal

pub returns : goal.returns
returns c =
    let long = ap (λ (world : PlainWorld). length world.maps) c.self.view_is in
    (λ _. others_from_places c.args.self.now c.args.worker c.args.key c.args.own.now (λ place low. c.loop-other.invariant place (omega (arith, low, long))), λ _. refl)
