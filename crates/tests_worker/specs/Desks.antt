-- A worker at its desk, between its turns.
use Rattle.std.specs.Prelude.{◌≡◌, length, None}
use Rattle.worker_core.specs.State.{PlainWorker, State, dirty}

-- what its work leaves as it is: its number, and how many sessions it replies to and how many mates it tells
pub record Stays {Q T O G : Type 0} (before now : PlainWorker Q T O G) : Type 0 where
  pub me : now.state.me ≡ before.state.me
  pub sessions : length now.ends.replies.items ≡ length before.ends.replies.items
  pub mates : length now.ends.gossip_out.items ≡ length before.ends.gossip_out.items

-- nothing is left to tell, to send or to work on
pub record IsAtRest (state : State) : Type 0 where
  pub clean : dirty state ≡ 0
  pub none_held : state.held ≡ None
  pub none_kept : state.kept ≡ None
