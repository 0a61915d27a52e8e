use Rattle.std.proofs.Common.{rules, ◌≡◌, ◌∷◌, [], All, length, ap, sym, subst, arith, lit≤}
use Rattle.std.proofs.lemmas.List.Elements.{All-push, All-same}
use Rattle.placement.specs.Config.{ArePins, IsOwnFactor}
use Rattle.placement.specs.declared.config.KeyPlace.{KeyPlace}
use Rattle.tests_worker.proofs.tests.shared_keys.Goals as goal

abbrev IsShared : KeyPlace → Type 0
IsShared place = ArePins 2 place.pins

-- the pins of each key
two_pins : ArePins 2 (1 ∷ 2 ∷ [])
two_pins = record { are_workers = search rules; different = search rules }

pub loop-preserved : goal.loop-preserved
loop-preserved c =
    let are : c.new-pins.result ≡ 1 ∷ 2 ∷ [] = search rules in
    record {
      counted = omega (arith, c.loop.invariant.counted, c.in_ok-push.ensures.len);
      pins = All-same IsShared _ _ c.in_ok-push.ensures.items (All-push IsShared c.loop.places.items _ c.loop.invariant.pins (subst (ArePins 2) (sym are) two_pins));
      factors = All-same (IsOwnFactor 2) _ _ c.in_ok-push.ensures.items (All-push (IsOwnFactor 2) c.loop.places.items _ c.loop.invariant.factors tt);
    }

pub build-requires : goal.build-requires
build-requires c = record {
  workers_some = lit≤ tt;
  workers_most = lit≤ tt;
  factor_some = lit≤ tt;
  factor_most = lit≤ tt;
  keys_most = omega (arith, ap length c.new.ensures, c.loop.invariant.counted, c.loop.auto.counter-end, c.requires);
  pins = subst (All IsShared) (sym c.new.ensures) c.loop.invariant.pins;
  factors = subst (All (IsOwnFactor 2)) (sym c.new.ensures) c.loop.invariant.factors;
}
