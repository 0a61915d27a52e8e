-- A run of which sessions were polled goes on.
use Rattle.std.specs.Prelude.{◌≡◌, ℕ, All, List, length, slice_get, Some}
use Rattle.std.proofs.Common.{◌∙◌, ap, refl, subst, sym}
use Rattle.std.proofs.lemmas.List.{length-map}
use Rattle.placement.specs.Config.{IsOneOf}
use Rattle.session_known.specs.declared.script.SessionPlan.{SessionPlan}
use Rattle.session_proxy.specs.State.{PlainProxy}
use Rattle.worker_core.specs.State.{PlainWorker}
use Rattle.party_turns.specs.Running.{BeginsAs, GoesOn, HaveEnds, IsSessionOf, courses_of}
use Rattle.party_turns.proofs.BeginsLemmas.{StaysEnded, begins_still}
use Rattle.party_turns.proofs.ItemsLemmas.{long_alike, there_too}
use Rattle.parties.specs.Polling.{HasPolled}
use Rattle.parties.proofs.ChangedLemmas.{done_to_made, done_to_none}
use Rattle.parties.proofs.KeptLemmas.{KeepsSessionEnds, KeepsWorkerEnds, ends_kept, worker_keeps}
use Rattle.parties.proofs.TurnedRunLemmas.{not_settled_yet}
use Rattle.party_turns.specs.Ends.{Ends}

-- a session of a script that was polled is one still
session_stays : {S T O Q G R SK TK OK QK GK RK : Type 0} (mail : Ends S T O Q G R SK TK OK QK GK RK) (table : List (List ℕ)) (many place : ℕ) (plan : SessionPlan) (was is : PlainProxy S R)
    → HasPolled mail.request_tx mail.reply_rx was is → mail.reply_rx.senders (mail.reply_rx.key was.ends.replies) ≡ many
    → IsSessionOf mail.request_tx.sent mail.reply_rx.received table many place plan was → IsSessionOf mail.request_tx.sent mail.reply_rx.received table many place plan is
session_stays mail table many place plan was is polled of_all session = record {
  client_is = polled.fixed.client ∙ session.client_is;
  table_is = polled.fixed.table ∙ session.table_is;
  lines_are = polled.fixed.lines ∙ session.lines_are;
  senders = long_alike mail.request_tx.number was.ends.requests.items is.ends.requests.items polled.keys.requests_numbers ∙ session.senders;
  share = polled.share session.share;
  of_workers =
      subst (λ last. All (λ message. IsOneOf last message.0) (mail.reply_rx.received is.ends.replies)) (ap mail.reply_rx.senders polled.keys.replies_key ∙ of_all)
      (polled.in_range (subst (λ last. All (λ message. IsOneOf last message.0) (mail.reply_rx.received was.ends.replies)) (sym of_all) session.of_workers));
}

-- and it keeps its ends
pub polled_keeps : {S T O Q G R SK TK OK QK GK RK : Type 0} {mail : Ends S T O Q G R SK TK OK QK GK RK} (was is : PlainProxy S R)
    → HasPolled mail.request_tx mail.reply_rx was is
    → KeepsSessionEnds mail was is
polled_keeps {mail = mail} was is polled = record {
  keys = polled.keys;
  no_worker = not_settled_yet (mail.reply_rx.about was.ends.replies) (mail.reply_rx.about is.ends.replies) polled.stand;
}

module _ {S T O Q G R SK TK OK QK GK RK : Type 0} {mail : Ends S T O Q G R SK TK OK QK GK RK}
    (workers : List (PlainWorker Q T O G)) (sessions sessions_now : List (PlainProxy S R)) (long : length sessions_now ≡ length sessions)
    (each : (place : ℕ) (was is : PlainProxy S R) → slice_get sessions place ≡ Some was → slice_get sessions_now place ≡ Some is
    → HasPolled mail.request_tx mail.reply_rx was is) where
  -- and the run goes on
  pub polled_goes_on : GoesOn mail workers workers sessions sessions_now
  polled_goes_on = record {
    workers_long = refl;
    sessions_long = long;
    gossip_keys = refl;
    ends = ends_stay;
    running = λ script running. record {
      table = running.table;
      valid = running.valid;
      as_many = running.as_many;
      workers_are = running.workers_are;
      as_many_sessions = long ∙ running.as_many_sessions;
      sessions_are = λ place plan is planned there.
          let was = there_too sessions sessions_now place is long there in
          session_stays mail running.table script.config.workers place plan was.0 is (each place was.0 is was.1 there)
          (running.ends.reply_boxes place was.0 was.1 ∙ running.as_many) (running.sessions_are place plan was.0 planned was.1);
      begins = λ place plan is planned there.
          let was = there_too sessions sessions_now place is long there in
          subst (BeginsAs (courses_of sessions_now) plan.after) (sym (each place was.0 is was.1 there).fixed.origin)
          (begins_still (courses_of sessions) (courses_of sessions_now) courses_long (done_to_made StaysEnded (λ its. its.course) sessions sessions_now ended_stay) plan.after was.0.course.origin
          (running.begins place plan was.0 planned was.1));
      ends = ends_stay running.ends;
    };
  }
    where
      courses_long : length (courses_of sessions_now) ≡ length (courses_of sessions)
      courses_long = length-map sessions_now (λ its. its.course) ∙ long ∙ sym (length-map sessions (λ its. its.course))

      -- those that have ended stay as they are
      ended_stay : (place : ℕ) (was is : PlainProxy S R) → slice_get sessions place ≡ Some was → slice_get sessions_now place ≡ Some is → StaysEnded was.course is.course
      ended_stay place was is there here begun answered = (each place was is there here).ended answered

      -- the ends of all stay such
      ends_stay : HaveEnds mail workers sessions
          → HaveEnds mail workers sessions_now
      ends_stay =
          ends_kept workers workers sessions sessions_now refl long
          (done_to_none (KeepsWorkerEnds mail
          (length workers) (length sessions)) (worker_keeps (length workers) (length sessions)) workers)
          (λ place was is there also. polled_keeps was is (each place was is there also))
