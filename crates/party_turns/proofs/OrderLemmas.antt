-- In a run each session that waits does so for an earlier one.
use Rattle.std.specs.Prelude.{◌≡◌, ℕ, List, map, slice_get, MatchOption, Option, Some, None, ⊤}
use Rattle.std.proofs.Common.{ap, arith, subst, sym, ◌∙◌}
use Rattle.std.proofs.lemmas.Option.{slice_get_within}
use Rattle.placement.specs.Config.{IsOneOf}
use Rattle.session_known.proofs.EndsLemmas.{earlier_at}
use Rattle.session_known.specs.declared.script.Script.{Script}
use Rattle.session_proxy.specs.State.{Course, Knew, Lists, Origin, PlainProxy, WaitsFor}
use Rattle.worker_core.specs.State.{PlainWorker}
use Rattle.party_turns.proofs.ItemsLemmas.{of_mapped, there_is}
use Rattle.party_turns.specs.Ends.{Ends, session_lists}
use Rattle.party_turns.specs.Running.{AreRunning, BeginsAs}

-- a session that waits does so for the one that its plan names
pub waits_for_that : (courses : List Course) (after : Option ℕ) (origin : Origin) (session : ℕ) → BeginsAs courses after origin → origin ≡ WaitsFor session → after ≡ Some session
waits_for_that courses None origin session begins waits = let differ : Knew _ ≡ WaitsFor session = sym begins ∙ waits in absurd (cc)
waits_for_that courses (Some after) (Knew known) session begins waits = absurd (cc)
waits_for_that courses (Some after) (WaitsFor other) session begins waits = let same : other ≡ session = cc in ap Some (sym begins ∙ same)

module _ {S T O Q G R SK TK OK QK GK RK : Type 0} {mail : Ends S T O Q G R SK TK OK QK GK RK} where
  pub wait_for_earlier : (workers : List (PlainWorker Q T O G)) (sessions : List (PlainProxy S R)) → ((script : Script) × AreRunning mail script workers sessions)
      → (at : ℕ) (its : Lists) (session : ℕ) → slice_get (map (session_lists mail) sessions) at ≡ Some its → its.course.origin ≡ WaitsFor session → IsOneOf at session
  wait_for_earlier workers sessions running at its session there waits =
      let run = running.1 in
      let proxy = of_mapped (session_lists mail) sessions at its there in
      let plan = there_is running.0.sessions at (omega (arith, slice_get_within sessions at proxy.0 proxy.1, run.as_many_sessions)) in
      let after = waits_for_that _ plan.0.after proxy.0.course.origin session (run.begins at plan.0 proxy.0 plan.1 proxy.1) (ap (λ its. its.course.origin) proxy.2 ∙ waits) in
      subst (λ after. MatchOption after ⊤ (IsOneOf at)) after (earlier_at running.0 run.table run.valid at plan.0 plan.1)
