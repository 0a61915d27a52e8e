-- What is known of a run between the steps of a sweep.
use Rattle.std.specs.Prelude.{◌≡◌, ◌⊎◌, ℕ, ◌+◌, ◌≤◌, Bool, false, IsTrue, List, slice_get, sum_by, Some}
use Rattle.session_proxy.specs.State as sessions
use Rattle.run_measure.specs.Steps.{done}
use Rattle.parties.specs.Sweeping.{AllAwait, AllServed, AllToAsks, EachMoves, EachStays, FreeBoth, HasBegun, WaitsForOther, rested_at}
use Rattle.parties.specs.declared.run.Run.{Ghosts}
use Rattle.parties.specs.declared.stepping.Polled.{Polled}

module _ {R : Type 0} (run : Ghosts R) where
  -- A run over mail whose boxes show and tell all that was sent, in which no worker keeps a message, and no session took what it waits for.
  pub record IsReady (parties : R) : Type 0 where
    pub free : FreeBoth run.keeps_requests run.keeps_replies
    pub finite : IsTrue run.keeps_gossip.finite
    pub running : run.is_running parties
    pub none_kept : run.none_kept parties
    pub await_theirs : AllAwait (run.session_lists parties)

  -- One all of whose parties are held beside each other, and whose workers have served all sessions.
  pub record IsServed (parties : R) : Type 0 where
    pub ready : IsReady parties
    pub beside : (place at : ℕ) → run.are_beside place at parties
    pub served : AllServed (run.worker_lists parties) (run.session_lists parties)
    pub to_asks : AllToAsks (run.session_lists parties)

-- a session that has begun and of which no ask came to nothing
abbrev pub IsPolled : List Polled → List sessions.Lists → ℕ → Type 0
IsPolled came those at = (rested_at came at ≡ false) × HasBegun those at

-- one that is passed over: an ask of it came to nothing, or it waits for the end of another
abbrev pub IsPassed : List Polled → List sessions.Lists → ℕ → Type 0
IsPassed came those at = IsTrue (rested_at came at) ⊎ ((its : sessions.Lists) × (slice_get those at ≡ Some its) × (sessions.has_begun its.course ≡ false))

-- one that waits for the end of another
pub record SomeWaits (those : List sessions.Lists) : Type 0 where
  pub at : ℕ
  pub its : sessions.Lists
  pub there : slice_get those at ≡ Some its
  pub waits : sessions.has_begun its.course ≡ false

-- The sessions that have begun and of which no ask came to nothing were polled, by whether every session has ended: each has moved or ended, and what
-- each session waits for it did not take; and where not every one has ended and no ask came to nothing, more was done, or some session waits for the end
-- of another.
pub record HasPolledAll (came : List Polled) (ended : Bool) (before now : List sessions.Lists) : Type 0 where
  pub await_theirs : AllAwait now
  pub moved : EachMoves (IsPolled came before) before now
  pub done_more : ended ≡ false → ((at : ℕ) → rested_at came at ≡ false) → (sum_by done before + 1 ≤ sum_by done now) ⊎ SomeWaits before

-- And each session that waited for one that has ended has begun: where not every one has ended and no ask came to nothing, more was done.
pub record HasSwept (came : List Polled) (ended : Bool) (before now : List sessions.Lists) : Type 0 where
  pub await_theirs : AllAwait now
  pub moved : EachMoves (IsPolled came before) before now
  pub waits : (at : ℕ) → WaitsForOther now at
  pub done_more : ended ≡ false → ((at : ℕ) → rested_at came at ≡ false) → sum_by done before + 1 ≤ sum_by done now

module _ {R : Type 0} (run : Ghosts R) where
  -- the sessions that have begun and of which an ask came to nothing stay as they were, and the others were polled
  abbrev pub RestedStay : List Polled → R → R → Type 0
  RestedStay came before now = EachStays (λ at. IsTrue (rested_at came at) × HasBegun (run.session_lists before) at) (run.session_lists before) (run.session_lists now)

  abbrev pub WerePolled : List Polled → Bool → R → R → Type 0
  WerePolled came ended before now = HasPolledAll came ended (run.session_lists before) (run.session_lists now)

  abbrev pub WasSwept : List Polled → Bool → R → R → Type 0
  WasSwept came ended before now = HasSwept came ended (run.session_lists before) (run.session_lists now)
