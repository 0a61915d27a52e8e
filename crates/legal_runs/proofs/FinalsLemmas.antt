-- The final cells: each is sound and counts every accepted put of its key, the session's home's own cell or what it last told.
use Rattle.std.specs.Prelude.{◌≡◌, ◌≢◌, ◌+◌, ◌<◌, ◌≤◌, ◌==◌, ◌&&◌, ℕ, true, is_some, List, [], ◌∷◌, All, Contains, filter, flat_map, length, map, slice_index_or, Option, Some, None, option_map}
use Rattle.std.specs.List.{list_any, range_with_len}
use Rattle.std.proofs.Common.{◌∙◌, refl, sym, ap, subst, inl, inr, append-nil, arith}
use Rattle.std.proofs.lemmas.Bool.{and_from, eq-eqb, false≢true}
use Rattle.std.proofs.lemmas.Bool.Decides.{eqb_tells}
use Rattle.std.proofs.lemmas.List.{get_or-map, length-map}
use Rattle.std.proofs.lemmas.List.Elements.{All-append, All-contains, All-contains_itself, All-filter, All-head, All-map, All-tail, All-nil, All-weaker, Contains-append_left, Contains-append_right, filter_passes}
use Rattle.std.proofs.lemmas.List.FromFn.{get_or-range_with_len, length-range_with_len}
use Rattle.std.proofs.lemmas.Option.{none-some, same_Some}
use Rattle.lattice_laws.proofs.MembersLemmas.{contains_cases, contains_filter, contains_map, contains_none}
use Rattle.clock_lattice.specs.Clock.{count_of}
use Rattle.composed_value.specs.Cell.{PlainCell}
use Rattle.composed_value.specs.Keyed.{kind_at, puts_on}
use Rattle.composed_value.specs.Kind.{kind_of_value}
use Rattle.composed_value.specs.declared.kind.Kind.{Kind}
use Rattle.composed_value.specs.declared.put.Put.{Put}
use Rattle.merge_world.specs.Effects.{cells_at, is_kind}
use Rattle.merge_world.specs.declared.private_map.KeyCells.{KeyCells}
use Rattle.merge_world.proofs.CellsLemmas.{kind_itself}
use Rattle.placement.specs.Asked.{home_at, replicas_of}
use Rattle.placement.specs.Config.{IsOneOf}
use Rattle.session_known.specs.Accepted.{accepted, made_on}
use Rattle.session_known.specs.Form.{final_places, replicas_ascending}
use Rattle.session_known.specs.Legal.{IsLawfulFinal}
use Rattle.session_known.specs.Script.{IsValidScript}
use Rattle.session_known.specs.declared.report.FinalCell.{FinalCell}
use Rattle.session_known.specs.declared.report.Report.{Report}
use Rattle.session_known.specs.declared.script.Script.{Script}
use Rattle.worker_core.specs.Share.{cells_on, entries_in, puts_in}
use Rattle.worker_core.specs.State.{Entries, lives_at}
use Rattle.worker_core.proofs.OwnLemmas.{IsCellOfKind}
use Rattle.run_ledger.specs.Came.{Came, CameToWorker, IsSettled, final_of}
use Rattle.run_ledger.specs.Ledger.{Ledger, worker_at}
use Rattle.legal_runs.proofs.AcceptedLemmas.{are, are_accepted}
use Rattle.legal_runs.proofs.AskedLemmas.{holds_key, home_is_replica}
use Rattle.legal_runs.proofs.FrontsLemmas.{at_home}
use Rattle.legal_runs.proofs.JoinedCountsLemmas.{counts_each, counts_first}
use Rattle.legal_runs.proofs.JoinedSoundLemmas.{IsSoundOf}
use Rattle.legal_runs.proofs.MadePutsLemmas.{accepted_of_sessions}
use Rattle.legal_runs.proofs.OnKeyLemmas.{held_on_key}
use Rattle.legal_runs.proofs.RepliersLemmas.{home_in_script}
use Rattle.legal_runs.proofs.SessionsLemmas.{IsSession}
use Rattle.run_ledger.proofs.ByNumberLemmas.{from_first}
use Rattle.legal_runs.proofs.SoundLemmas.{IsSoundAt, heard_at, own_at, own_counts_at, received_by, whole_at}
use Rattle.run_ledger.proofs.WorkersLemmas.{IsWorker, me_is, worker_came}
use Rattle.legal_runs.proofs.CameHereLemmas.{came_here}

-- what holds of each piece holds of all pieces
all_pieces : {X Y : Type 0} (P : Y → Type 0) (pieces : X → List Y) (xs : List X) → All (λ x. All P (pieces x)) xs → All P (flat_map pieces xs)
all_pieces P pieces [] all = All-nil P
all_pieces P pieces (x ∷ xs) all =
    All-append P (pieces x) (flat_map pieces xs) (All-head (λ x. All P (pieces x)) x xs all) (all_pieces P pieces xs (All-tail (λ x. All P (pieces x)) x xs all))

-- what is in a piece is in all pieces
pub in_piece : {X Y : Type 0} (pieces : X → List Y) (xs : List X) (x : X) (y : Y) → Contains xs x → Contains (pieces x) y → Contains (flat_map pieces xs) y
in_piece pieces [] x y has_x has_y = absurd (contains_none x has_x)
in_piece pieces (first ∷ xs) x y has_x has_y = elim (contains_cases first x xs has_x) [
  | inl same ↦ Contains-append_left (pieces first) (flat_map pieces xs) y (subst (λ its. Contains (pieces its) y) (sym same) has_y)
  | inr there ↦ Contains-append_right (pieces first) (flat_map pieces xs) y (in_piece pieces xs x y there has_y)
]

-- what is made of a value was made of one that is there
of_some : {X Y : Type 0} (make : X → Y) (option : Option X) (y : Y) → option_map make option ≡ Some y → (x : X) × (option ≡ Some x) × (make x ≡ y)
of_some make None y is = absurd (none-some y is)
of_some make (Some x) y is = (x, refl, same_Some (make x) y is)

-- an option that is some
pub is_there : {X : Type 0} (option : Option X) → is_some option ≡ true → (x : X) × (option ≡ Some x)
is_there None is = absurd (false≢true is)
is_there (Some x) is = (x, refl)

module _ (script : Script) (table : List (List ℕ)) (report : Report) (ledger : Ledger) (valid : IsValidScript script table) (came : Came script table report ledger) where
  -- a replica of a key of the script
  record IsPlace (place : ℕ × ℕ) : Type 0 where
    key : IsOneOf (length script.config.keys) place.0
    worker : IsWorker script place.1
    lives : lives_at table place.1 place.0 ≡ true

  numbers_within : (last : ℕ) → All (IsOneOf last) (range_with_len 1 last)
  numbers_within last k d low =
      let within : k + 1 ≤ last = omega (arith, low, length-range_with_len 1 last) in
      let is = get_or-range_with_len 1 last k d (omega (arith, within)) in
      (omega (arith, is), omega (arith, is, within))

  places_are : All IsPlace (final_places script table)
  places_are =
      all_pieces IsPlace (λ key. map (λ worker. (key, worker)) (replicas_ascending script table key)) (range_with_len 1 (length script.config.keys)) (λ k d low.
      let key : ℕ = slice_index_or (range_with_len 1 (length script.config.keys)) k d in
      let known : IsOneOf (length script.config.keys) key = numbers_within (length script.config.keys) k d low in
      let test = λ (worker : ℕ). list_any (λ replica. replica == worker) (replicas_of table key) in
      All-map IsPlace (λ worker. (key, worker)) (replicas_ascending script table key) (λ i e few. record {
        key = known;
        worker = All-filter test (IsWorker script) (range_with_len 1 script.config.workers) (numbers_within script.config.workers) i e few;
        lives = ap (list_any (λ replica. replica == slice_index_or (replicas_ascending script table key) i e)) (from_first [] table key known.0)
            ∙ filter_passes test (range_with_len 1 script.config.workers) i e few;
      }))

  -- each final cell is at such a place
  final_place : All (λ cell. IsPlace (cell.key, cell.worker)) report.finals
  final_place k d low =
      let place : FinalCell → ℕ × ℕ = λ cell. (cell.key, cell.worker) in
      subst IsPlace (get_or-map place report.finals k d (place d) low)
      (subst (All IsPlace) (sym came.places) places_are k (place d) (omega (arith, low, length-map report.finals place)))

  module _ (key worker : ℕ) (place : IsPlace (key, worker)) (at : KeyCells) (is : cells_at (worker_at ledger worker).cells key ≡ Some at) where
    abbrev kind : Kind
    kind = kind_at script.kinds key

    abbrev it : CameToWorker script table ledger (worker_at ledger worker)
    it = worker_came script table report ledger came worker place.worker

    -- what it joined on the key
    abbrev heard : List PlainCell
    heard = cells_on kind key (entries_in it.holds.joined)

    own_sound : IsSoundAt script table report ledger valid came key at.own
    own_sound = subst (IsSoundAt script table report ledger valid came key) (sym (it.holds.own key at is))
        (own_at script table report ledger valid came worker place.worker key it.holds.worked [] it.holds.received_is)

    heard_are : All (IsCellOfKind kind) heard
    heard_are = All-weaker (IsSoundAt script table report ledger valid came key) (IsCellOfKind kind) (λ cell sound. sound.of_kind) heard
        (heard_at script table report ledger valid came worker place.worker key)

    -- the whole cell counts at least what the own one counts
    counts_own : (session : ℕ) → count_of session at.own.clock ≤ count_of session at.whole.clock
    counts_own session =
        subst (λ (cell : PlainCell). count_of session at.own.clock ≤ count_of session cell.clock) (sym (it.holds.whole key at is))
        (counts_first kind session at.own heard own_sound.of_kind heard_are)

    -- and what an entry that it heard counts
    counts_heard : (session sender there : ℕ) (batch : Entries) (cell : PlainCell) → (worker_at ledger worker).got sender there ≡ Some batch → Contains batch (key, cell) → kind_of_value cell.value ≡ kind
        → count_of session cell.clock ≤ count_of session at.whole.clock
    counts_heard session sender there batch cell got has_it of_kind =
        let test = λ (entry : ℕ × PlainCell). entry.0 == key && is_kind (kind_of_value entry.1.value) kind in
        let joined : Contains it.holds.joined (sender, batch) = subst (λ batches. Contains batches (sender, batch)) (append-nil it.holds.joined) (it.holds.got_are.all sender there batch got) in
        let among : Contains (entries_in it.holds.joined) (key, cell) = in_piece (λ (batch : ℕ × Entries). batch.1) it.holds.joined (sender, batch) (key, cell) joined has_it in
        let on_key : Contains heard cell =
        contains_map (λ (entry : ℕ × PlainCell). entry.1) (filter test (entries_in it.holds.joined)) (key, cell)
        (contains_filter test (entries_in it.holds.joined) (key, cell) among
        (and_from (key == key) (is_kind (kind_of_value cell.value) kind) (eq-eqb key key refl) (ap (λ its. is_kind its kind) of_kind ∙ kind_itself kind)))
        in
        subst (λ (whole : PlainCell). count_of session cell.clock ≤ count_of session whole.clock) (sym (it.holds.whole key at is))
        (counts_each kind session at.own heard own_sound.of_kind heard_are cell on_key)

  -- the own cell at the home of a session counts all that the session made on the key
  module _ (session : ℕ) (within : IsSession script session) (key : ℕ) (known : IsOneOf (length script.config.keys) key) where
    abbrev home : ℕ
    home = home_at table session key

    home_place : IsPlace (key, home)
    home_place = record {
      key = known;
      worker = home_in_script script table valid session key known within.0;
      lives = holds_key table key home known.0 (home_is_replica script table valid session key known);
    }

    home_counts_all : (at : KeyCells) → cells_at (worker_at ledger home).cells key ≡ Some at → count_of session at.own.clock ≡ length (made_on session key (accepted script report))
    home_counts_all at is =
        let holds = (worker_came script table report ledger came home home_place.worker).holds in
        let worked : holds.worked ≡ received_by script table report ledger valid came home = sym (append-nil holds.worked) ∙ sym holds.received_is in
        ap (λ (cell : PlainCell). count_of session cell.clock) (holds.own key at is)
        ∙ own_counts_at script table report ledger valid came home home_place.worker key holds.worked [] holds.received_is session
        ∙ ap (λ those. length (made_on session key (puts_in those))) worked
        ∙ ap length (at_home script table report (are script table report ledger valid came) home (received_by script table report ledger valid came home)
        (came_here script table report ledger came home home_place.worker) session key within refl)

    -- and each of its puts there has a number up to that
    number_within : (put : Put) → Contains (puts_on key (accepted script report)) put → put.session ≡ session → (1 ≤ put.number) × (put.number ≤ length (made_on session key (accepted script report)))
    number_within put has_it same =
        All-contains (λ (p : Put). (1 ≤ p.number) × (p.number ≤ length (made_on session key (accepted script report)))) (made_on session key (accepted script report)) put
        ((are_accepted script table report ledger valid came key).numbered session).within
        (contains_filter (λ (p : Put). session == p.session) (puts_on key (accepted script report)) put has_it (eq-eqb session put.session (sym same)))

  module _ (settled : IsSettled table ledger) (key worker : ℕ) (place : IsPlace (key, worker)) (at : KeyCells) (is : cells_at (worker_at ledger worker).cells key ≡ Some at)
      (session : ℕ) (within : IsSession script session) where
    abbrev its_home : ℕ
    its_home = home_at table session key

    abbrev all_made : ℕ
    all_made = length (made_on session key (accepted script report))

    -- the whole cell counts all that the session made on the key: at the home by its own cell
    at_its_home : its_home ≡ worker → all_made ≤ count_of session at.whole.clock
    at_its_home same =
        let counts = home_counts_all session within key place.key at (ap (λ (w : ℕ). cells_at (worker_at ledger w).cells key) same ∙ is) in
        omega (arith, counts, counts_own key worker place at is session)

    -- and elsewhere by the own cell of the home, which the worker heard
    elsewhere_too : (put : Put) → Contains (puts_on key (accepted script report)) put → put.session ≡ session → its_home ≢ worker → all_made ≤ count_of session at.whole.clock
    elsewhere_too put has_it same other =
        let there : IsPlace (key, its_home) = home_place session within key place.key in
        let held = is_there (cells_at (worker_at ledger its_home).cells key)
        ((worker_came script table report ledger came its_home there.worker).keys key ∙ ap (λ me. lives_at table me key) (me_is script table report ledger came its_home there.worker) ∙ there.lives) in
        let counts = home_counts_all session within key place.key held.0 held.1 in
        elim (settled key worker its_home held.0 place.lives there.lives (λ it. other (sym it)) held.1) [
          | inl none ↦
              let zero : count_of session held.0.own.clock ≡ 0 = ap (count_of session) none in
              let some = (number_within session within key place.key put has_it same) in
              absurd (omega (arith, zero, counts, some.0, some.1))
          | inr heard ↦
              let at_least = counts_heard key worker place at is session its_home heard.0 heard.1 held.0.own heard.2 heard.3 (own_sound key its_home there held.0 held.1).of_kind.has_kind in
              omega (arith, counts, at_least)
        ]

  -- So a whole cell counts every accepted put of its key.
  counts_every : IsSettled table ledger → (key worker : ℕ) → IsPlace (key, worker) → (at : KeyCells) → cells_at (worker_at ledger worker).cells key ≡ Some at
      → (put : Put) → Contains (puts_on key (accepted script report)) put → put.number ≤ count_of put.session at.whole.clock
  counts_every settled key worker place at is put has_it =
      let session : ℕ = put.session in
      let within : IsSession script session =
      held_on_key (λ p. IsSession script p.session) key (accepted script report) (accepted_of_sessions script table report (are script table report ledger valid came)) put has_it
      in
      let number = number_within session within key place.key put has_it refl in
      elim (eqb_tells (home_at table session key) worker) [
        | inl same ↦ let all = at_its_home settled key worker place at is session within same.1 in omega (arith, number.1, all)
        | inr other ↦ let all = elsewhere_too settled key worker place at is session within put has_it refl other.1 in omega (arith, number.1, all)
      ]

  -- what is at a final cell's place
  final_at : (k : ℕ) (d : FinalCell) → k < length report.finals → (at : KeyCells) × (cells_at (worker_at ledger (slice_index_or report.finals k d).worker).cells (slice_index_or report.finals k d).key ≡ Some at)
      × (final_of (slice_index_or report.finals k d).key (slice_index_or report.finals k d).worker at ≡ slice_index_or report.finals k d)
  final_at k d low =
      let cell : FinalCell = slice_index_or report.finals k d in
      of_some (final_of cell.key cell.worker) (cells_at (worker_at ledger cell.worker).cells cell.key) cell (came.finals k d low)

  pub finals_lawful : IsSettled table ledger → All (IsLawfulFinal script.kinds (accepted script report)) report.finals
  finals_lawful settled k d low =
      let cell : FinalCell = slice_index_or report.finals k d in
      let place : IsPlace (cell.key, cell.worker) = final_place k d low in
      let found = final_at k d low in
      subst (IsLawfulFinal script.kinds (accepted script report)) found.2 (record {
        sound = (whole_at script table report ledger valid came cell.worker place.worker cell.key found.0 found.1).sound.shown;
        counts_all = λ i e few. counts_every settled cell.key cell.worker place found.0 found.1 (slice_index_or (puts_on cell.key (accepted script report)) i e)
            (All-contains_itself (puts_on cell.key (accepted script report)) i e few);
      })

  -- and what each final cell shows is of its worker's whole cell, which is sound
  pub finals_of_sound : (IsSo : FinalCell → Type 0) → ((key worker : ℕ) (at : KeyCells) → IsSoundOf (kind_at script.kinds key) (puts_on key (accepted script report)) at.whole → IsSo (final_of key worker at))
      → All IsSo report.finals
  finals_of_sound IsSo of_sound k d low =
      let cell : FinalCell = slice_index_or report.finals k d in
      let found = final_at k d low in
      subst IsSo found.2 (of_sound cell.key cell.worker found.0 (whole_at script table report ledger valid came cell.worker (final_place k d low).worker cell.key found.0 found.1))
