-- What a worker made of any front of what it received and of any batches that it heard is sound.
use Rattle.std.specs.Prelude.{◌≡◌, ℕ, suc, ◌<◌, List, [], ◌∷◌, ◌++◌, All, slice_get, Option, Some}
use Rattle.std.proofs.Common.{◌∙◌, sym, ap, subst, arith}
use Rattle.std.proofs.lemmas.List.{append_assoc}
use Rattle.std.proofs.lemmas.List.Elements.{All-append, All-head, All-nil, All-tail, All-weaker}
use Rattle.composed_value.specs.Cell.{PlainCell}
use Rattle.composed_value.specs.Keyed.{kind_at, puts_on}
use Rattle.session_known.specs.Accepted.{accepted}
use Rattle.session_known.specs.Script.{IsValidScript}
use Rattle.session_known.specs.declared.report.Report.{Report}
use Rattle.session_known.specs.declared.script.Script.{Script}
use Rattle.store_msg.specs.Reply.{PlainReply}
use Rattle.store_msg.specs.declared.request.Request.{Request}
use Rattle.worker_core.specs.Sealed.{PlainSealed}
use Rattle.worker_core.specs.Share.{WasOwn, cells_on, entries_in, own_cell}
use Rattle.worker_core.specs.State.{Entries, PlainWorker}
use Rattle.run_ledger.specs.Came.{Came}
use Rattle.run_ledger.specs.Ledger.{Ledger, WorkerEnd, no_worker, worker_at}
use Rattle.legal_runs.proofs.HeardLemmas.{cells_all}
use Rattle.legal_runs.proofs.JoinedSoundLemmas.{joined_sound}
use Rattle.legal_runs.proofs.SoundLemmas.{IsSoundAt, own_at}
use Rattle.run_ledger.proofs.WorkersLemmas.{IsWorker, is_worker, worker_came}
use Rattle.drain_ledger.specs.Drained.{AreFrontsSound, GoesOn, IsDrained, WasHeard, end_in, ledger_in}
use Rattle.party_turns.proofs.ItemsLemmas.{mapped_or}

module _ (script : Script) (table : List (List ℕ)) (report : Report) (ledger : Ledger) (valid : IsValidScript script table) (came : Came script table report ledger) (worker : ℕ) (within : IsWorker script worker) where
  abbrev Sound : ℕ → ℕ × PlainCell → Type 0
  Sound key entry = entry.0 ≡ key → IsSoundAt script table report ledger valid came key entry.1

  -- the entries on a key of batches that it heard are sound
  heard_sound : (key : ℕ) (batches : List (ℕ × Entries)) → All (WasHeard (worker_at ledger worker).got) batches → All (Sound key) (entries_in batches)
  heard_sound key [] were = All-nil (Sound key)
  heard_sound key (batch ∷ batches) were =
      let was = All-head (WasHeard (worker_at ledger worker).got) batch batches were in
      let from = (worker_came script table report ledger came worker within).gossip batch.0 was.0 batch.1 was.1 in
      All-append (Sound key) batch.1 (entries_in batches)
      (All-weaker (λ entry. WasOwn (kind_at script.kinds entry.0) entry.0 (worker_at ledger batch.0).received entry.1) (Sound key)
      (λ entry own same.
      subst (IsSoundAt script table report ledger valid came key) (sym (own.is ∙ ap (λ its. own_cell (kind_at script.kinds its) its own.front) same))
      (own_at script table report ledger valid came batch.0 (is_worker script table report ledger came batch.0 from.worker) key own.front own.back own.split)) batch.1 from.entries)
      (heard_sound key batches (All-tail (WasHeard (worker_at ledger worker).got) batch batches were))

  -- So is what it had, received and heard, at an earlier time.
  pub fronts_sound : (received : List (ℕ × Request)) (got : ℕ → ℕ → Option Entries) (more : List (ℕ × Request)) → (worker_at ledger worker).received ≡ received ++ more
      → ((sender place : ℕ) (batch : Entries) → got sender place ≡ Some batch → (worker_at ledger worker).got sender place ≡ Some batch) → AreFrontsSound script report received got
  fronts_sound received got more received_is got_more key front back split batches were =
      let kind = kind_at script.kinds key in
      (joined_sound kind (puts_on key (accepted script report)) (own_cell kind key front) (cells_on kind key (entries_in batches))
      (own_at script table report ledger valid came worker within key front (back ++ more) (received_is ∙ ap (λ those. those ++ more) split ∙ append_assoc front back more))
      (cells_all (IsSoundAt script table report ledger valid came key) kind key (entries_in batches)
      (heard_sound key batches (All-weaker (WasHeard got) (WasHeard (worker_at ledger worker).got) (λ batch was. (was.0, got_more batch.0 was.0 batch.1 was.1)) batches were)))).sound

module _ {Q T O G R : Type 0} (script : Script) (report : Report) (received : Q → List (ℕ × Request)) (got : G → ℕ → ℕ → Option Entries) (replies : R → List (ℕ × PlainReply)) (heard : List (PlainSealed Q G)) (boxes : List R)
    (drained : IsDrained script report (ledger_in received got replies heard boxes)) where
  -- And so is what a worker had that was handed over, from which a sealed one goes on.
  pub were_sound : {K : Type 0} (in_key : G → K) (place : ℕ) (before : PlainWorker Q T O G) (now : PlainSealed Q G) → place < script.config.workers → slice_get heard place ≡ Some now → GoesOn received in_key got before now
      → AreFrontsSound script report (received before.ends.requests) (got before.ends.gossip_in)
  were_sound in_key place before now low there goes =
      let end : worker_at (ledger_in received got replies heard boxes) (suc place) ≡ end_in received got now = mapped_or (end_in received got) heard place now no_worker there in
      fronts_sound script drained.table report (ledger_in received got replies heard boxes) drained.valid drained.came (suc place) (omega arith, omega (arith, low))
      (received before.ends.requests) (got before.ends.gossip_in) goes.more (ap (λ (its : WorkerEnd). its.received) end ∙ goes.received_is)
      (λ sender at batch is. ap (λ (its : WorkerEnd). its.got sender at) end ∙ goes.got_more sender at batch is)
