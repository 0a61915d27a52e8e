-- What a worker shows and tells goes on.
use Rattle.std.specs.Prelude.{◌≡◌, ℕ, ◌≤◌, List, ◌++◌, All}
use Rattle.clock_lattice.specs.Clock.{count_of}
use Rattle.mail_contract.specs.Takes.{IsFront}
use Rattle.merge_world.specs.Effects.{cells_at}
use Rattle.store_msg.specs.Reply.{PlainReply, shown_clock}
use Rattle.worker_core.specs.Share.{replies_to, shown_of, told_to}
use Rattle.worker_core.specs.State.{Lists, State}

-- how many puts of a session are counted in what a worker shows of a key
abbrev pub shown_count : State → ℕ → ℕ → ℕ
shown_count state key session = count_of session (shown_of (cells_at state.cells key)).clock

-- a reply counts at least what was shown of its key
abbrev pub CountsShown : State → PlainReply → Type 0
CountsShown state reply = (session : ℕ) → shown_count state reply.key session ≤ count_of session (shown_clock reply.answered)

-- A worker has gone on: it told each mate more or as much, shows no less of any key, and each reply since counts at least what was shown of its key.
pub record ShowsMore (before now : Lists) : Type 0 where
  pub told : (place : ℕ) → IsFront (told_to before place) (told_to now place)
  pub shown : (key session : ℕ) → shown_count before.state key session ≤ shown_count now.state key session
  pub replies : (to : ℕ) → (more : List PlainReply) × (replies_to now to ≡ replies_to before to ++ more) × All (CountsShown before.state) more
