-- The accepted puts of a report that came so are puts that there can be, of their keys' kinds, and each session's on a key are numbered one by one.
use Rattle.std.specs.Prelude.{◌≡◌, ◌==◌, ℕ, List, All, Contains, filter, length, slice_index_or}
use Rattle.std.proofs.Common.{◌∙◌, refl, subst}
use Rattle.std.proofs.lemmas.Bool.{eqb-true}
use Rattle.std.proofs.lemmas.List.Elements.{All-contains, All-filter, All-map, All-weaker, filter_passes}
use Rattle.placement.specs.Asked.{home_at}
use Rattle.placement.specs.Config.{IsOneOf}
use Rattle.composed_value.specs.Keyed.{kind_at, puts_on}
use Rattle.composed_value.specs.Kind.{kind_of}
use Rattle.composed_value.specs.PlainValue.{IsPutOf}
use Rattle.composed_value.specs.Put.{IsPut}
use Rattle.composed_value.specs.Sound.{AreAccepted}
use Rattle.composed_value.specs.declared.put.Put.{Put}
use Rattle.session_known.specs.Accepted.{accepted, made_on}
use Rattle.session_known.specs.Script.{IsValidScript}
use Rattle.session_known.specs.declared.report.Report.{Report}
use Rattle.session_known.specs.declared.script.Script.{Script}
use Rattle.session_known.proofs.NumberedLemmas.{numbered_from_next}
use Rattle.store_msg.specs.declared.request.Request.{Request}
use Rattle.worker_core.specs.Share.{puts_in}
use Rattle.worker_core.proofs.OwnLemmas.{HasPut, puts_are}
use Rattle.run_ledger.specs.Came.{Came}
use Rattle.run_ledger.specs.Ledger.{Ledger, worker_at}
use Rattle.legal_runs.proofs.FrontsLemmas.{at_home}
use Rattle.legal_runs.proofs.OnKeyLemmas.{on_key}
use Rattle.legal_runs.proofs.PutsInScriptLemmas.{puts_in_script}
use Rattle.legal_runs.proofs.RepliersLemmas.{home_in_script}
use Rattle.legal_runs.proofs.SessionsLemmas.{AreSessions, IsSession, are_sessions, made_by}
use Rattle.run_ledger.proofs.WorkersLemmas.{IsWorker, worker_came}
use Rattle.legal_runs.proofs.CameHereLemmas.{came_here}

-- an accepted put is on a key of the script and is one that there can be, of the key's kind
abbrev pub IsPutIn : Script → ℕ × Put → Type 0
IsPutIn script entry = IsOneOf (length script.config.keys) entry.0 × IsPutOf (kind_at script.kinds entry.0) entry.1

module _ (script : Script) (table : List (List ℕ)) (report : Report) (ledger : Ledger) (valid : IsValidScript script table) (came : Came script table report ledger) where
  pub are : AreSessions script table report
  are = are_sessions script table report ledger came.sessions

  -- each put that came to a worker is one that there can be
  puts_there : (worker : ℕ) → IsWorker script worker → (session key : ℕ) → All IsPut (made_on session key (puts_in (worker_at ledger worker).received))
  puts_there worker within session key =
      let received : List (ℕ × Request) = (worker_at ledger worker).received in
      All-filter (λ (put : Put). session == put.session) IsPut (puts_on key (puts_in received))
      (All-map IsPut (λ (entry : ℕ × Put). entry.1) (filter (λ (entry : ℕ × Put). entry.0 == key) (puts_in received))
      (All-filter (λ (entry : ℕ × Put). entry.0 == key) HasPut (puts_in received) (puts_are received (worker_came script table report ledger came worker within).requests)))

  -- and each put that a session made came to its home
  put_is : (session : ℕ) → IsSession script session → (entry : ℕ × Put) → Contains (made_by script report session) entry → IsOneOf (length script.config.keys) entry.0 → IsPut entry.1
  put_is session within entry has_it there =
      let home : ℕ = home_at table session entry.0 in
      let is : IsWorker script home = home_in_script script table valid session entry.0 there within.0 in
      let received : List (ℕ × Request) = (worker_at ledger home).received in
      All-contains IsPut (puts_on entry.0 (made_by script report session)) entry.1
      (subst (All IsPut) (at_home script table report are home received (came_here script table report ledger came home is) session entry.0 within refl ∙ are.made session entry.0 within)
      (puts_there home is session entry.0))
      (on_key (made_by script report session) entry has_it)

  pub puts_are_in : All (IsPutIn script) (accepted script report)
  puts_are_in = All-weaker (λ entry. (session : ℕ) × IsSession script session × Contains (made_by script report session) entry) (IsPutIn script)
      (λ entry of_one.
      let known = All-contains (λ e. IsOneOf (length script.config.keys) e.0 × (kind_of e.1.payload ≡ kind_at script.kinds e.0)) (made_by script report of_one.0) entry
      (puts_in_script script table report valid of_one.0 of_one.1) of_one.2 in
      (known.0, record { is_put = put_is of_one.0 of_one.1 entry of_one.2 known.0; of_kind = known.1 })) (accepted script report) are.of_one

  -- the accepted puts on a key
  pub are_accepted : (key : ℕ) → AreAccepted (kind_at script.kinds key) (puts_on key (accepted script report))
  are_accepted key = record {
    of_kind = All-map (IsPutOf (kind_at script.kinds key)) (λ (entry : ℕ × Put). entry.1) (filter (λ (entry : ℕ × Put). entry.0 == key) (accepted script report)) (λ k d low.
        let entry : ℕ × Put = slice_index_or (filter (λ (e : ℕ × Put). e.0 == key) (accepted script report)) k d in
        subst (λ its. IsPutOf (kind_at script.kinds its) entry.1) (eqb-true entry.0 key (filter_passes (λ (e : ℕ × Put). e.0 == key) (accepted script report) k d low))
        (All-filter (λ (e : ℕ × Put). e.0 == key) (IsPutIn script) (accepted script report) puts_are_in k d low).1);
    numbered = λ session. numbered_from_next (made_on session key (accepted script report)) (are.next session key);
  }
