-- The lines of a session of a script are such as its level has, and the replicas of its table are workers to which it sends.
use Rattle.std.specs.Prelude.{◌≡◌, ℕ, List, All, length, map, slice_get, Some}
use Rattle.std.proofs.Common.{◌∙◌, ap, arith, subst, sym}
use Rattle.std.proofs.lemmas.List.Elements.{All-weaker}
use Rattle.std.proofs.lemmas.List.{length-map}
use Rattle.std.proofs.lemmas.Option.{slice_get_within}
use Rattle.placement.specs.Config.{IsOneOf, replicas_on}
use Rattle.session_known.specs.Script.{IsValidScript, IsValidSession, MayStand}
use Rattle.session_known.specs.declared.script.Level.{Level}
use Rattle.session_known.specs.declared.script.Line.{Line}
use Rattle.session_known.specs.declared.script.Line.TheVariants as lines
use Rattle.session_known.specs.declared.script.Script.{Script}
use Rattle.session_known.specs.declared.script.SessionPlan.{SessionPlan}
use Rattle.session_proxy.specs.Lines.{AreReplicas, MayRun}
use Rattle.session_proxy.specs.Share.{Share}
use Rattle.session_proxy.specs.State.{PlainProxy, lists_of}
use Rattle.store_msg.specs.Reply.{PlainReply}
use Rattle.store_msg.specs.declared.request.Request.{Request}
use Rattle.worker_core.specs.State.{PlainWorker}
use Rattle.session_proxy.proofs.ReplicasLemmas.{table_has_replicas}
use Rattle.party_turns.proofs.ItemsLemmas.{at_its_place, of_mapped, there_is}
use Rattle.run_measure.specs.Laws.{AreOfWorkers, IsOfWorkers, IsPlaced}
use Rattle.party_turns.specs.Running.{AreRunning, IsSessionOf}
use Rattle.party_turns.specs.Ends.{Ends, session_lists}

module _ (script : Script) (table : List (List ℕ)) (valid : IsValidScript script table) where
  -- the table has the replicas of each key
  keys_are : (key : ℕ) → IsOneOf (length script.config.keys) key → IsOneOf (length table) key
  keys_are key = subst (λ many. IsOneOf many key) (sym (ap length valid.placed.replicas ∙ length-map script.config.keys (replicas_on valid.placed.ring script.config)))

  -- a line that may stand in the script may run
  may_run : (level : Level) (line : Line) → MayStand script table level line → MayRun table level line
  may_run level (lines.Put key payload) stands = keys_are key stands.0
  may_run level (lines.Get key named) stands = (keys_are key stands.0, stands.1)
  may_run level (lines.Await key session count) stands = (keys_are key stands.0, stands.2)
  may_run level lines.Begin stands = stands
  may_run level lines.Commit stands = stands
  may_run level lines.Abort stands = stands

  pub is_placed : {S R : Type 0} (asked : S → List Request) (received : R → List (ℕ × PlainReply)) (place : ℕ) (plan : SessionPlan) (proxy : PlainProxy S R)
      → slice_get script.sessions place ≡ Some plan → IsSessionOf asked received table script.config.workers place plan proxy → IsPlaced (lists_of asked received proxy)
  is_placed asked received place plan proxy planned is =
      let stands = (at_its_place (IsValidSession script table) script.sessions place plan valid.sessions planned).lines in
      let run = All-weaker (MayStand script table plan.level) (MayRun table plan.level) (may_run plan.level) plan.lines stands in
      record {
        replicas =
            subst (λ those. All (AreReplicas (length (map asked proxy.ends.requests.items))) those) (sym is.table_is)
            (subst (λ many. All (AreReplicas many) table) (sym (length-map proxy.ends.requests.items asked ∙ is.senders)) (table_has_replicas script table valid));
        lines =
            subst (λ client. All (MayRun proxy.course.table client.level) proxy.course.lines) (sym is.client_is)
            (subst (λ those. All (MayRun those plan.level) proxy.course.lines) (sym is.table_is)
            (subst (λ those. All (MayRun table plan.level) those) (sym is.lines_are) run));
      }

-- So may each session of a run be polled: its requests go to workers that are there, and it keeps its share.
pub may_be_polled : {S T O Q G R SK TK OK QK GK RK : Type 0} {mail : Ends S T O Q G R SK TK OK QK GK RK}
    (script : Script) (workers : List (PlainWorker Q T O G)) (sessions : List (PlainProxy S R))
    → AreRunning mail script workers sessions
    → (place : ℕ) (proxy : PlainProxy S R) → slice_get sessions place ≡ Some proxy
    → IsPlaced (session_lists mail proxy) × Share (session_lists mail proxy)
may_be_polled {mail = mail} script workers sessions running place proxy there =
    let plan = there_is script.sessions place (omega (arith, slice_get_within sessions place proxy there, running.as_many_sessions)) in
    let is = running.sessions_are place plan.0 proxy plan.1 there in
    (is_placed script running.table running.valid mail.request_tx.sent mail.reply_rx.received place plan.0 proxy plan.1 is, is.share)

-- Each session of a run keeps its share, took replies of workers alone, and has a sender for each.
pub are_of_workers : {S T O Q G R SK TK OK QK GK RK : Type 0} {mail : Ends S T O Q G R SK TK OK QK GK RK}
    (script : Script) (workers : List (PlainWorker Q T O G)) (sessions : List (PlainProxy S R))
    → AreRunning mail script workers sessions
    → AreOfWorkers (length workers) (map (session_lists mail) sessions)
are_of_workers {mail = mail} script workers sessions running = λ at its there.
    let proxy = of_mapped (session_lists mail) sessions at its there in
    let plan = there_is script.sessions at (omega (arith, slice_get_within sessions at proxy.0 proxy.1, running.as_many_sessions)) in
    let is = running.sessions_are at plan.0 proxy.0 plan.1 proxy.1 in
    subst (IsOfWorkers (length workers)) proxy.2 (record {
      share = is.share;
      hears = subst (λ many. All (λ message. IsOneOf many message.0) (mail.reply_rx.received proxy.0.ends.replies)) (sym running.as_many) is.of_workers;
      senders = length-map proxy.0.ends.requests.items mail.request_tx.sent ∙ is.senders ∙ sym running.as_many;
    })
