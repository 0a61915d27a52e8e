use Rattle.std.proofs.Common.{◌≡◌, ◌≤◌, length, take}
use Rattle.std.specs.Prelude.{All}
use Rattle.merge_world.specs.World.{IsEvent, opening, ran}
use Rattle.merge_world.proofs.run.run_world.Given as goal

abbrev pub invariant-loop-event : goal.invariant-loop-event
invariant-loop-event l = (l.world ≡ ran (opening l.fn.placement l.fn.kinds) (take l.event-index l.events)) × (length l.world.pool ≤ l.event-index) × All IsEvent (take l.event-index l.events)
