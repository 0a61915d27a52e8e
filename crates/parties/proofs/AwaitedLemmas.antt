-- What a session waits for is missing still after a poll, whatever the poll says of its ends.
use Rattle.std.specs.Prelude.{ℕ, ⊤, Ok}
use Rattle.std.proofs.Common.{inl, inr}
use Rattle.session_proxy.specs.Polls.{Counts, Polls}
use Rattle.session_proxy.specs.Share.{Share}
use Rattle.session_proxy.specs.State.{Lists}
use Rattle.session_proxy.specs.declared.progress.Progress.{Progress}
use Rattle.session_proxy.specs.declared.progress.Progress.TheVariants as progress
use Rattle.run_measure.specs.Laws.{IsPlaced}
use Rattle.run_waiting.proofs.PolledLemmas.{stays_awaited}
use Rattle.run_waiting.specs.Laws.{StaysAwaited}
use Rattle.run_waiting.specs.Waiting.{AreToAsks, AwaitsMissing}

-- where each reply that a session took was to an ask, and the one that it waits for is missing, each that it took is still
abbrev pub AsksStay : Lists → Lists → Type 0
AsksStay before now = AwaitsMissing before → AreToAsks before → AreToAsks now

-- a poll of whose ends something is said is one of whose ends nothing is said
untold : (answer : Progress) (before now : Lists) (counts counts_now : Counts) (wants_room : ℕ → Type 0) (nothing : Type 0)
    → Polls (Ok answer) before now counts counts_now wants_room nothing → Polls (Ok answer) before now counts counts_now (λ place. ⊤) ⊤
untold progress.Moved before now counts counts_now wants_room nothing polls = polls
untold progress.Rest before now counts counts_now wants_room nothing polls = polls
untold progress.Ended before now counts counts_now wants_room nothing polls = polls
untold progress.NotYet before now counts counts_now wants_room nothing polls = (
  polls.0,
  elim polls.1 [
    | inl back ↦ inl (record { worker = back.worker; item = back.item; next = back.next; rose = back.rose; no_room = tt })
    | inr hears ↦ inr (record { waits = hears.waits; none_kept = hears.none_kept; rose = hears.rose; told = tt })
  ],
)

-- so the law of waiting holds of it
pub stays_missing : (answer : Progress) (before now : Lists) (counts counts_now : Counts) (wants_room : ℕ → Type 0) (nothing : Type 0)
    → Polls (Ok answer) before now counts counts_now wants_room nothing → Share before → IsPlaced before → AwaitsMissing before → AreToAsks before
    → StaysAwaited answer before now
stays_missing answer before now counts counts_now wants_room nothing polls =
    stays_awaited answer before now counts counts_now (untold answer before now counts counts_now wants_room nothing polls)
