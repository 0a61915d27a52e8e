-- A worker's state, from what it keeps.
use Rattle.worker_core.specs.State.{State}
use Rattle.worker_core.specs.declared.local.Local.{Local}

abbrev pub state_of : Local → State
state_of local = record {
  me = local.me;
  round = local.round;
  placement = local.placement;
  kinds = local.kinds;
  cells = local.map;
  changed = local.changes.of_mates;
  turned = local.turned.items;
  since = local.since;
  kept = local.kept;
  held = local.held;
}
