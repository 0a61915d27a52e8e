-- Every cell at a worker is sound: what it joined itself after any front of what it received, what it heard, and the join of both. At the home
-- of a session it counts no more puts of that one than came there.
use Rattle.std.specs.Prelude.{◌≡◌, ◌≢◌, ℕ, List, [], ◌++◌, All, Contains, length, Some}
use Rattle.std.proofs.Common.{◌∙◌, sym, ap, subst}
use Rattle.std.proofs.lemmas.List.Elements.{All-contains, All-weaker}
use Rattle.lattice_laws.proofs.ListLemmas.{All-front}
use Rattle.merge_world.specs.Effects.{cells_at}
use Rattle.merge_world.specs.declared.private_map.KeyCells.{KeyCells}
use Rattle.clock_lattice.specs.Clock.{count_of}
use Rattle.composed_value.specs.Cell.{PlainCell}
use Rattle.placement.specs.Asked.{home_at}
use Rattle.composed_value.specs.Keyed.{kind_at, puts_on}
use Rattle.composed_value.specs.declared.kind.Kind.{Kind}
use Rattle.session_known.specs.Accepted.{accepted, made_on}
use Rattle.session_known.specs.Script.{IsValidScript}
use Rattle.session_known.specs.declared.report.Report.{Report}
use Rattle.session_known.specs.declared.script.Script.{Script}
use Rattle.store_msg.specs.declared.request.Request.{Request}
use Rattle.worker_core.specs.Kept.{IsRequest}
use Rattle.worker_core.specs.Share.{IsMadeFrom, WasOwn, cells_on, entries_in, own_cell, puts_in}
use Rattle.worker_core.proofs.OwnLemmas.{IsCellOfKind, own_is}
use Rattle.run_ledger.specs.Came.{Came, CameToWorker}
use Rattle.run_ledger.specs.Ledger.{Ledger, worker_at}
use Rattle.legal_runs.proofs.AcceptedLemmas.{are, are_accepted}
use Rattle.legal_runs.proofs.FrontsLemmas.{elsewhere, fronts}
use Rattle.legal_runs.proofs.HeardLemmas.{cells_all, heard_all}
use Rattle.legal_runs.proofs.JoinedCountsLemmas.{counts_no_more}
use Rattle.legal_runs.proofs.SessionsLemmas.{IsSession}
use Rattle.legal_runs.proofs.JoinedSoundLemmas.{IsSoundOf, joined_sound}
use Rattle.legal_runs.proofs.OwnSoundLemmas.{own_count_is, own_sound}
use Rattle.run_ledger.proofs.WorkersLemmas.{IsWorker, is_worker, me_is, worker_came}
use Rattle.legal_runs.proofs.CameHereLemmas.{came_here}

module _ (script : Script) (table : List (List ℕ)) (report : Report) (ledger : Ledger) (valid : IsValidScript script table) (came : Came script table report ledger) where
  -- a cell of a key is sound for the accepted puts there
  abbrev pub IsSoundAt : ℕ → PlainCell → Type 0
  IsSoundAt key cell = IsSoundOf (kind_at script.kinds key) (puts_on key (accepted script report)) cell

  -- what the worker of a number received
  abbrev pub received_by : ℕ → List (ℕ × Request)
  received_by worker = (worker_at ledger worker).received

  -- the own cell after any front
  pub own_at : (worker : ℕ) → IsWorker script worker → (key : ℕ) (front back : List (ℕ × Request)) → received_by worker ≡ front ++ back
      → IsSoundAt key (own_cell (kind_at script.kinds key) key front)
  own_at worker within key front back split =
      let it : CameToWorker script table ledger (worker_at ledger worker) = worker_came script table report ledger came worker within in
      let sessions = are script table report ledger valid came in
      let is_request : ℕ × Request → Type 0 = λ message. IsRequest message.1 in
      record {
        of_kind = own_is (kind_at script.kinds key) key front (All-front is_request front back (subst (All is_request) split it.requests));
        sound = own_sound (kind_at script.kinds key) key (accepted script report) (are_accepted script table report ledger valid came key) (λ session. sessions.next session key) front
            (λ session. fronts script table report sessions worker (received_by worker) (came_here script table report ledger came worker within) session key front back split);
      }

  -- it counts of each session as many puts as came in the front
  pub own_counts_at : (worker : ℕ) → IsWorker script worker → (key : ℕ) (front back : List (ℕ × Request)) → received_by worker ≡ front ++ back → (session : ℕ)
      → count_of session (own_cell (kind_at script.kinds key) key front).clock ≡ length (made_on session key (puts_in front))
  own_counts_at worker within key front back split =
      let sessions = are script table report ledger valid came in
      own_count_is (kind_at script.kinds key) key (accepted script report) (are_accepted script table report ledger valid came key) (λ session. sessions.next session key) front
      (λ session. fronts script table report sessions worker (received_by worker) (came_here script table report ledger came worker within) session key front back split)

  module _ (worker : ℕ) (within : IsWorker script worker) where
    abbrev it : CameToWorker script table ledger (worker_at ledger worker)
    it = worker_came script table report ledger came worker within

    -- what holds of the own cells of other workers after any front holds of what it joined
    pub heard_from : (key : ℕ) (Holds : PlainCell → Type 0)
        → ((sender : ℕ) → IsWorker script sender → sender ≢ worker → (front back : List (ℕ × Request)) → received_by sender ≡ front ++ back → Holds (own_cell (kind_at script.kinds key) key front))
        → All Holds (cells_on (kind_at script.kinds key) key (entries_in it.holds.joined))
    heard_from key Holds of_own =
        cells_all Holds (kind_at script.kinds key) key (entries_in it.holds.joined)
        (heard_all (λ entry. entry.0 ≡ key → Holds entry.1) (worker_at ledger worker).got it.holds.joined it.holds.got_are (λ sender place batch is.
        let from = it.gossip sender place batch is in
        All-weaker (λ entry. WasOwn (kind_at script.kinds entry.0) entry.0 (received_by sender) entry.1) (λ entry. entry.0 ≡ key → Holds entry.1)
        (λ entry was same.
        subst Holds (sym (was.is ∙ ap (λ its. own_cell (kind_at script.kinds its) its was.front) same))
        (of_own sender (is_worker script table report ledger came sender from.worker)
        (λ is_it. from.another (is_it ∙ sym (me_is script table report ledger came worker within))) was.front was.back was.split)) batch from.entries))

    -- so what it joined of a key is sound
    pub heard_at : (key : ℕ) → All (IsSoundAt key) (cells_on (kind_at script.kinds key) key (entries_in it.holds.joined))
    heard_at key = heard_from key (IsSoundAt key) (λ sender is other. own_at sender is key)

    -- the whole cell
    pub whole_at : (key : ℕ) (at : KeyCells) → cells_at (worker_at ledger worker).cells key ≡ Some at → IsSoundAt key at.whole
    whole_at key at is =
        let kind : Kind = kind_at script.kinds key in
        let heard : List PlainCell = cells_on kind key (entries_in it.holds.joined) in
        let own : IsSoundAt key at.own = subst (IsSoundAt key) (sym (it.holds.own key at is)) (own_at worker within key it.holds.worked [] it.holds.received_is) in
        subst (IsSoundAt key) (sym (it.holds.whole key at is)) (joined_sound kind (puts_on key (accepted script report)) at.own heard own (heard_at key))

    -- and each cell that a reply was made from
    pub made_at : (key : ℕ) (before after : List (ℕ × Request)) (cell : PlainCell) → received_by worker ≡ before ++ after
        → IsMadeFrom (kind_at script.kinds key) key before (entries_in it.holds.joined) cell → IsSoundAt key cell
    made_at key before after cell split made =
        let kind : Kind = kind_at script.kinds key in
        let heard : List PlainCell = cells_on kind key (entries_in it.holds.joined) in
        subst (IsSoundAt key) (sym made.is)
        (joined_sound kind (puts_on key (accepted script report)) (own_cell kind key before) made.heard (own_at worker within key before after split)
        (All-weaker (Contains heard) (IsSoundAt key) (λ cell has_it. All-contains (IsSoundAt key) heard cell (heard_at key) has_it) made.heard made.are_heard))

    -- a cell that a reply was made from counts, of a session whose home of the key this is, the puts that came before the get alone
    pub home_counts : (session : ℕ) → IsSession script session → (key : ℕ) → home_at table session key ≡ worker → (before after : List (ℕ × Request)) (cell : PlainCell)
        → received_by worker ≡ before ++ after → IsMadeFrom (kind_at script.kinds key) key before (entries_in it.holds.joined) cell
        → count_of session cell.clock ≡ length (made_on session key (puts_in before))
    home_counts session is key home before after cell split made =
        let kind : Kind = kind_at script.kinds key in
        let heard : List PlainCell = cells_on kind key (entries_in it.holds.joined) in
        let own = own_at worker within key before after split in
        let none : All (λ cell. count_of session cell.clock ≡ 0) heard =
        heard_from key (λ cell. count_of session cell.clock ≡ 0) (λ sender its other front back split.
        own_counts_at sender its key front back split session
        ∙ ap length (elsewhere script table report (are script table report ledger valid came) sender (received_by sender) (came_here script table report ledger came sender its)
        session key is front back split (λ same. other (sym same ∙ home))))
        in
        ap (λ (c : PlainCell). count_of session c.clock) made.is
        ∙ counts_no_more kind session (own_cell kind key before) made.heard own.of_kind
        (All-weaker (Contains heard) (IsCellOfKind kind) (λ cell has_it. (All-contains (IsSoundAt key) heard cell (heard_at key) has_it).of_kind) made.heard made.are_heard)
        (All-weaker (Contains heard) (λ cell. count_of session cell.clock ≡ 0) (λ cell has_it. All-contains (λ c. count_of session c.clock ≡ 0) heard cell none has_it) made.heard made.are_heard)
        ∙ own_counts_at worker within key before after split session
