-- Gossip of a drained run: what a worker heard was an own cell of another worker, and the present own cells of the others it heard.
use Rattle.std.specs.Prelude.{◌≡◌, ◌≢◌, ◌⊎◌, ℕ, ◌+◌, ◌-◌, ◌<◌, ◌==◌, true, if◌then◌else◌, List, [], ◌∷◌, All, Contains, length, slice_get, slice_index_or, Some}
use Rattle.std.proofs.Common.{◌∙◌, sym, ap, subst, inl, inr, arith}
use Rattle.std.proofs.lemmas.Bool.{cases_lt, eqb-true, le-ltb, lt-ltb}
use Rattle.std.proofs.lemmas.List.{get_or_past}
use Rattle.std.proofs.lemmas.List.Elements.{All-cons, All-contains, All-nil, All-weaker}
use Rattle.std.proofs.lemmas.Map.Views.{Contains-from_any}
use Rattle.std.proofs.lemmas.Option.{get_or_from_slice_get, slice_get-get_or, slice_get_within}
use Rattle.composed_value.specs.Cell.{PlainCell}
use Rattle.composed_value.specs.Keyed.{kind_at}
use Rattle.merge_world.specs.Effects.{cells_at}
use Rattle.placement.specs.Config.{IsOneOf}
use Rattle.session_known.specs.Script.{IsValidScript}
use Rattle.session_known.specs.declared.report.Report.{Report}
use Rattle.session_known.specs.declared.script.Script.{Script}
use Rattle.session_proxy.specs.Lines.{AreReplicas}
use Rattle.worker_core.specs.Share.{WasOwn, told_to}
use Rattle.worker_core.specs.State.{Entries, lives_at, mate_at, place_at}
use Rattle.run_ledger.specs.Came.{CameFrom, IsSettled}
use Rattle.run_ledger.specs.Ledger.{WorkerEnd, worker_at}
use Rattle.run_ledger.specs.Parties.{AreDrained, Parties, ledger_of, sealed_at}
use Rattle.legal_runs.proofs.PartiesLemmas.{end_at, in_ledger, me_is, of_worker, sealed}
use Rattle.session_proxy.proofs.ReplicasLemmas.{table_has_replicas}
use Rattle.legal_runs.proofs.SealedLemmas.{IsEmptyOrTold, own_told, were_own}
use Rattle.run_ledger.proofs.WorkersLemmas.{IsWorker}

-- Of another worker among so many: its place among a worker's mates, where it is the mate.
record IsMate (workers me mate : ℕ) : Type 0 where
  few : place_at me mate + 1 < workers
  is : mate_at me (place_at me mate) ≡ mate

-- each other worker is one
is_mate : (workers me mate : ℕ) → IsOneOf workers me → IsOneOf workers mate → mate ≢ me → IsMate workers me mate
is_mate workers me mate one other apart = elim (cases_lt mate me) [
  | inl low ↦
      let place : place_at me mate ≡ mate - 1 = ap (λ t. if t then mate - 1 else mate - 2) (lt-ltb mate me low) in
      let there : place_at me mate + 1 ≡ mate = omega (arith, place, other.0) in
      record {
        few = omega (arith, there, low, one.1);
        is = ap (λ t. if t then place_at me mate + 1 else place_at me mate + 2) (lt-ltb (place_at me mate + 1) me (omega (arith, there, low))) ∙ there;
      }
  | inr high ↦
      let above : me < mate = elim (cases_lt me mate) [
        | inl low ↦ low
        | inr same ↦ absurd (apart (omega (arith, high, same)))
      ] in
      let place : place_at me mate ≡ mate - 2 = ap (λ t. if t then mate - 1 else mate - 2) (le-ltb mate me high) in
      let there : place_at me mate + 2 ≡ mate = omega (arith, place, above, one.0) in
      record {
        few = omega (arith, there, other.1);
        is = ap (λ t. if t then place_at me mate + 1 else place_at me mate + 2) (le-ltb (place_at me mate + 1) me (omega (arith, there, above))) ∙ there;
      }
]

-- what stands at a place of a list is in the list
at_place : {X : Type 0} (xs : List X) (place : ℕ) (x : X) → slice_get xs place ≡ Some x → Contains xs x
at_place xs place x is = (place, slice_get_within xs place x is, get_or_from_slice_get xs place x x is)

-- whoever holds a key is a worker of the script
holder_is_worker : (script : Script) (table : List (List ℕ)) → IsValidScript script table → (key worker : ℕ) → lives_at table worker key ≡ true → IsWorker script worker
holder_is_worker script table valid key worker lives =
    let replicas : List ℕ = slice_index_or ([] ∷ table) key [] in
    let AreWorkers : List ℕ → Type 0 = All (IsWorker script) in
    let all : All AreWorkers ([] ∷ table) =
    All-cons AreWorkers [] table (All-nil (IsWorker script)) (All-weaker (AreReplicas script.config.workers) AreWorkers (λ its are. are.are_workers) table (table_has_replicas script table valid))
    in
    let are : All (IsWorker script) replicas = elim (cases_lt key (length ([] ∷ table))) [
      | inl low ↦ all key [] low
      | inr past ↦ subst AreWorkers (sym (get_or_past ([] ∷ table) key [] past)) (All-nil (IsWorker script))
    ] in
    All-contains (IsWorker script) replicas worker are (Contains-from_any {eq = λ one other. other == one} (λ one other same. sym (eqb-true other one same)) worker replicas lives)

module _ (script : Script) (table : List (List ℕ)) (report : Report) (parties : Parties) (drained : AreDrained script table report parties) where
  -- a worker is a mate of another
  its_place : (teller worker : ℕ) → IsWorker script teller → IsWorker script worker → worker ≢ teller → IsMate script.config.workers teller worker
  its_place = is_mate script.config.workers

  -- and it told the mate at that place
  place_told : (teller worker : ℕ) (is : IsWorker script teller) → IsWorker script worker → worker ≢ teller → place_at teller worker < length (sealed_at parties teller).lists.told
  place_told teller worker is within apart =
      let few = (its_place teller worker is within apart).few in
      let mates = (sealed script table report parties drained teller is).mates in
      omega (arith, few, mates)

  -- a batch that a worker heard came from another worker
  pub gossip_came : (worker : ℕ) → IsWorker script worker → (sender place : ℕ) (batch : Entries) → (sealed_at parties worker).got sender place ≡ Some batch
      → CameFrom script (ledger_of parties) worker sender batch
  gossip_came worker within sender place batch got =
      let from =
      of_worker script table report parties drained
      (λ its. (sender place : ℕ) (batch : Entries) → its.got sender place ≡ Some batch → IsWorker script sender × (sender ≢ its.lists.state.me)) drained.of_mates worker within sender place batch got
      in
      let apart : sender ≢ worker = λ same. from.1 (same ∙ sym (me_is script table report parties drained worker within)) in
      let told : Contains (told_to (sealed_at parties sender).lists (place_at sender worker)) batch =
      at_place (told_to (sealed_at parties sender).lists (place_at sender worker)) place batch ((drained.mates worker sender within from.0 apart).sent place batch got)
      in
      record {
        worker = in_ledger script table report parties drained sender from.0;
        another = apart;
        entries = subst (λ (end : WorkerEnd). All (λ entry. WasOwn (kind_at script.kinds entry.0) entry.0 end.received entry.1) batch) (sym (end_at parties sender))
            (were_own script table (sealed_at parties sender) (sealed script table report parties drained sender from.0) (place_at sender worker)
            (place_told sender worker from.0 within (λ same. apart (sym same))) batch told);
      }

  -- a cell of another worker is empty, or a worker heard it
  abbrev IsEmptyOrHeard : ℕ → ℕ → ℕ → PlainCell → Type 0
  IsEmptyOrHeard key worker other cell =
      (cell.clock ≡ []) ⊎ ((place : ℕ) × (batch : Entries) × ((worker_at (ledger_of parties) worker).got other place ≡ Some batch) × Contains batch (key, cell))

  -- for all that it told was
  all_heard : (key worker other : ℕ) (cell : PlainCell) → IsWorker script worker → IsWorker script other → other ≢ worker
      → IsEmptyOrTold (sealed_at parties other) (place_at other worker) key cell → IsEmptyOrHeard key worker other cell
  all_heard key worker other cell within is apart (inl none) = inl none
  all_heard key worker other cell within is apart (inr (batch, told, has_it)) =
      let batches : List Entries = told_to (sealed_at parties other).lists (place_at other worker) in
      let got : (sealed_at parties worker).got other told.0 ≡ Some batch =
      (drained.mates worker other within is apart).all told.0 told.1 ∙ slice_get-get_or batches told.0 batch told.1 ∙ ap (λ its. Some its) told.2
      in
      inr (told.0, batch, ap (λ (end : WorkerEnd). end.got other told.0) (end_at parties worker) ∙ got, has_it)

  -- So gossip has settled.
  pub settled : IsValidScript script table → IsSettled table (ledger_of parties)
  settled valid key worker other at lives lives_there apart is =
      let within : IsWorker script worker = holder_is_worker script table valid key worker lives in
      let there : IsWorker script other = holder_is_worker script table valid key other lives_there in
      let mate = its_place other worker there within apart in
      all_heard key worker other at.own within there (λ same. apart (sym same))
      (own_told script table (sealed_at parties other) (sealed script table report parties drained other there) (place_at other worker) key at (place_told other worker there within apart)
      (subst (λ holder. lives_at table holder key ≡ true) (sym (ap (λ me. mate_at me (place_at other worker)) (me_is script table report parties drained other there) ∙ mate.is)) lives)
      (ap (λ (end : WorkerEnd). cells_at end.cells key) (sym (end_at parties other)) ∙ is))
