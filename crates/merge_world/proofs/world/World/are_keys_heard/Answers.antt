use Rattle.std.proofs.Common.{◌≡◌, ◌+◌, refl, length, All, ap, subst, arith}
use Rattle.merge_world.specs.Heard.{IsKeyHeard}
use Rattle.merge_world.specs.World.{PlainWorld}
use Rattle.merge_world.proofs.HeardLemmas.{below_more, keys_from_places}
use Rattle.merge_world.proofs.world.World.are_keys_heard.Goals as goal

pub loop-key-preserved : goal.loop-key-preserved
loop-key-preserved c = below_more (λ place. IsKeyHeard c.args.self.now c.args.worker (place + 1)) c.loop-key.key c.loop-key.invariant (c.if-not-is_heard.ensures.0 refl)

pub returns : goal.returns
returns c =
    let world = c.args.self.now in
    let keys = ap (λ (world : PlainWorld). length world.placement) c.self.view_is in
    let long = subst (λ (world : PlainWorld). All (λ map. length map ≡ length world.placement) world.maps) c.self.view_is c.self.invariant.1 in
    (λ _. keys_from_places world long c.args.worker (λ place low. c.loop-key.invariant place (omega (arith, low, keys, c.keys-key-end.ensures.keys, c.loop-key-test.false))), λ _. refl)
