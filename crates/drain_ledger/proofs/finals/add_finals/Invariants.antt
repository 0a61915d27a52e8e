use Rattle.std.proofs.Common.{◌≡◌, ◌++◌, map}
use Rattle.std.specs.List.{flat_map, range_with_len}
use Rattle.drain_ledger.specs.Finals.{cells_of, final_where}
use Rattle.merge_world.specs.Effects.{cells_at}
use Rattle.drain_ledger.proofs.finals.add_finals.Given as goal

abbrev pub invariant-loop-place : goal.invariant-loop-place
invariant-loop-place g l =
    l.finals.items ≡ l.fn.finals.items
    ++ flat_map (λ worker. final_where l.key worker (cells_at (cells_of (map (λ worker. worker.cells) l.workers) worker) l.key)) (range_with_len 1 l.place)
