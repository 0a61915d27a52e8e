use Rattle.std.proofs.Common.{◌≡◌, ◌+◌, ◌∙◌, ◌++◌, ◌∷◌, [], List, length, map, Option, ap, subst, sym, arith}
use Rattle.std.specs.List.{range_with_len}
use Rattle.std.specs.Prelude.{All}
use Rattle.std.proofs.lemmas.List.Elements.{All-map}
use Rattle.std.proofs.lemmas.List.FromFn.{length-map-range_with_len, map-range_with_len_more}
use Rattle.merge_world.specs.Effects.{opening_map}
use Rattle.merge_world.specs.World.{workers_of}
use Rattle.merge_world.specs.declared.private_map.KeyCells.{KeyCells}
use Rattle.merge_world.proofs.WorkersLemmas.{opening_long}
use Rattle.merge_world.proofs.world.World.new.Goals as goal

pub invariant_of-result : goal.invariant_of-result
invariant_of-result c =
    let placement = c.args.placement in
    let kinds = c.args.kinds in
    let IsLong : List (Option KeyCells) → Type 0 = λ m. length m ≡ length placement in
    let count : length c.loop-worker.maps.items ≡ c.loop-worker.worker = ap length c.loop-worker.invariant ∙ length-map-range_with_len (opening_map placement kinds) 1 c.loop-worker.worker in (
      omega (arith, count, c.loop-worker.auto.worker-end, c.workers-worker-end.type_inv),
      subst (All IsLong) (sym c.loop-worker.invariant) (All-map IsLong (opening_map placement kinds) (range_with_len 1 c.loop-worker.worker) (λ k d low. opening_long placement kinds _ c.requires)),
    )

pub loop-worker-preserved : goal.loop-worker-preserved
loop-worker-preserved c =
    c.in_ok-push.ensures.items
    ∙ (λ j. c.loop-worker.invariant j ++ ((c.in_ok-new.ensures ∙ ap (λ kinds. opening_map c.args.placement kinds (c.loop-worker.worker + 1)) c.as_slice.ensures) j) ∷ [])
    ∙ sym (map-range_with_len_more (opening_map c.args.placement c.args.kinds) 1 c.loop-worker.worker (c.loop-worker.worker + 1) (omega arith))

pub returns : goal.returns
returns c =
    let all : c.loop-worker.worker ≡ workers_of c.args.placement = omega (arith, c.loop-worker-test.false, c.loop-worker.auto.worker-end, c.workers-worker-end.ensures) in
    λ j. record {
      placement = c.args.placement;
      kinds = c.args.kinds;
      maps = (c.loop-worker.invariant ∙ ap (λ n. map (opening_map c.args.placement c.args.kinds) (range_with_len 1 n)) all) j;
      pool = c.new-2.ensures.items j;
    }
