-- How far gossip lags behind.
use Rattle.std.specs.Prelude.{◌≡◌, ◌⊎◌, ℕ, ◌+◌, ◌<◌, ◌≤◌, ◌^◌, IsTrue, List, Contains, length, slice_get, slice_index_or, Some}
use Rattle.clock_lattice.specs.Clock.{count_of}
use Rattle.composed_value.specs.Cell.{PlainCell}
use Rattle.composed_value.specs.Keyed.{kind_at}
use Rattle.composed_value.specs.Kind.{kind_of}
use Rattle.composed_value.specs.declared.put.Put.{Put}
use Rattle.store_msg.specs.declared.request.Request.TheVariants as requests
use Rattle.gossip_rounds.specs.Batches.{told_on}
use Rattle.worker_core.specs.Share.{mate_lives_at, told_to}
use Rattle.worker_core.specs.State.{Lists, lives_at}

-- the request at a place, from 0, is a put that changes a key
pub record IsPutAt (lists : Lists) (place key : ℕ) (put : Put) : Type 0 where
  pub session : ℕ
  pub there : slice_get lists.received place ≡ Some (session, requests.Put key put)
  pub numbered : 1 ≤ put.number
  pub held : IsTrue (lives_at lists.state.placement lists.state.me key)
  pub of_kind : kind_of put.payload ≡ kind_at lists.state.kinds key

-- some cell counts a put
pub record IsCounted (put : Put) (cells : List PlainCell) : Type 0 where
  pub cell : PlainCell
  pub has : Contains cells cell
  pub counts : put.number ≤ count_of put.session cell.clock

-- The mate at a place was told of the put, or a batch to it came back when so many requests, or more, were taken.
abbrev pub IsToldOrTurned : Lists → ℕ → Put → ℕ → ℕ → Type 0
IsToldOrTurned lists key put mate taken = IsCounted put (told_on key (told_to lists mate)) ⊎ (taken ≤ slice_index_or lists.state.turned mate 0)

-- Each put of which more than so many requests came after was told to each mate that holds its key, or a batch to the mate came back since.
-- Of places past the greatest number of a `u64` nothing is claimed.
abbrev pub LagsBy : ℕ → Lists → Type 0
LagsBy requests lists =
    (place key : ℕ) (put : Put) (mate : ℕ) → place + 1 + requests < length lists.received → place + 1 < 2 ^ 64 → IsPutAt lists place key put
    → mate < length lists.told → IsTrue (mate_lives_at lists.state mate key) → IsToldOrTurned lists key put mate (place + 1)

-- gossip lags by no more than a round's requests: so it is whenever a get is answered, at the place of the get, which is the last that was received
abbrev pub Lags : Lists → Type 0
Lags lists = LagsBy lists.state.round lists
