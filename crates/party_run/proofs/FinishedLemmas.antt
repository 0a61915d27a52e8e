-- The parties of a run whose lines are all answered are those that a drain takes over.
use Rattle.std.specs.Prelude.{◌≡◌, ℕ, suc, ◌+◌, ◌-◌, All, false, IsTrue, List, [], ◌∷◌, length, map, slice_get, Option, Some, None}
use Rattle.std.proofs.Common.{◌∙◌, ap, arith, refl, subst, sym}
use Rattle.std.proofs.lemmas.Bool.{false≢true}
use Rattle.std.proofs.lemmas.List.{length-map}
use Rattle.std.proofs.lemmas.Option.{slice_get_within}
use Rattle.placement.specs.Config.{IsOneOf}
use Rattle.session_known.specs.Accepted.{client_of, origin_of}
use Rattle.session_known.specs.Session.{Knowledge, handed, nothing_known}
use Rattle.session_known.specs.declared.script.Script.{Script}
use Rattle.session_known.specs.declared.script.SessionPlan.{SessionPlan}
use Rattle.session_proxy.specs.State.{Course, Knew, Origin, PlainProxy, WaitsFor, begins, lists_of, state_now}
use Rattle.store_msg.specs.Reply.{PlainReply}
use Rattle.store_msg.specs.declared.request.Request.{Request}
use Rattle.worker_core.specs.State.{PlainWorker}
use Rattle.drain_ledger.specs.Parties.{HasEnded, HaveEnded, known_then}
use Rattle.party_turns.specs.Mates.{IsMate}
use Rattle.party_turns.specs.Making.{AreOfOneMaking, IsBoxOf, IsWeakBoxOf}
use Rattle.drain_ledger.specs.Handed.{AreHandedOver, lists_left}
use Rattle.party_turns.specs.Running.{AreRunning, BeginsAs, IsSessionOf, courses_of}
use Rattle.party_turns.proofs.ItemsLemmas.{all_there, at_its_place, made_of_made, mapped, mapped_or, of_mapped, there_is}
use Rattle.parties.specs.Polling.{IsAllAnswered, left_by}
use Rattle.party_turns.specs.Ends.{Ends}
use Rattle.parties.specs.Sweeping.{AreAnswered}

-- what each session knows by how far it is
abbrev known_now : List Course → List Knowledge
known_now = map (λ course. (state_now course).knows)

-- a session that has begun as its plan says knew at its start what the ends of the others say
origin_is : (courses : List Course) (after : Option ℕ) (origin : Origin) → BeginsAs courses after origin → IsTrue (begins origin) → origin ≡ Knew (origin_of (known_now courses) after)
origin_is courses None origin as_planned begun = as_planned
origin_is courses (Some after) (Knew known) hands begun =
    ap Knew (hands.known_is ∙ ap handed (sym (mapped_or (λ (course : Course). (state_now course).knows) courses (after - 1) hands.course nothing_known hands.there)))
origin_is courses (Some after) (WaitsFor session) waits begun = absurd (false≢true begun)

module _ {S R : Type 0} (asked : S → List Request) (received : R → List (ℕ × PlainReply)) (table : List (List ℕ)) (workers : ℕ) (courses : List Course) where
  -- a session of a script that has begun as its plan says, and whose lines are all answered, has ended
  has_ended : (place : ℕ) (plan : SessionPlan) (proxy : PlainProxy S R) → IsSessionOf asked received table workers place plan proxy → BeginsAs courses plan.after proxy.course.origin → IsAllAnswered proxy
      → HasEnded table workers (client_of (place + 1) plan) (origin_of (known_now courses) plan.after) plan (lists_of asked received proxy)
  has_ended place plan proxy session as_planned answered = record {
    client_is = session.client_is;
    table_is = session.table_is;
    lines_are = session.lines_are;
    origin_is = origin_is courses plan.after proxy.course.origin as_planned answered.0;
    whole = answered.1;
    asked = length-map proxy.ends.requests.items asked ∙ session.senders;
    share = session.share;
  }

  -- and so all of them, from a place on
  have_ended : (from : ℕ) (plans : List SessionPlan) (sessions : List (PlainProxy S R)) → length sessions ≡ length plans
      → ((place : ℕ) (plan : SessionPlan) (proxy : PlainProxy S R) → slice_get plans place ≡ Some plan → slice_get sessions place ≡ Some proxy
      → IsSessionOf asked received table workers (from + place) plan proxy × BeginsAs courses plan.after proxy.course.origin × IsAllAnswered proxy)
      → HaveEnded table workers (known_now courses) (from + 1) plans (lists_left asked received (map (λ proxy. proxy.course) sessions) (map left_by sessions))
  have_ended from [] [] long each = tt
  have_ended from [] (proxy ∷ sessions) long each = absurd (omega (arith, long))
  have_ended from (plan ∷ plans) [] long each = absurd (omega (arith, long))
  have_ended from (plan ∷ plans) (proxy ∷ sessions) long each =
      let here = each 0 plan proxy refl refl in (
        has_ended from plan proxy (subst (λ place. IsSessionOf asked received table workers place plan proxy) (omega arith) here.0) here.1 here.2,
        have_ended (from + 1) plans sessions (omega (arith, long)) (λ place plan proxy planned there.
            let later = each (suc place) plan proxy planned there in
            (subst (λ place. IsSessionOf asked received table workers place plan proxy) (omega arith) later.0, later.1, later.2)),
      )

-- sessions that have ended have answered every line
pub all_answered : {S R : Type 0} (asked : S → List Request) (received : R → List (ℕ × PlainReply)) (sessions : List (PlainProxy S R))
    → AreAnswered (map (lists_of asked received) sessions) → All IsAllAnswered sessions
all_answered asked received sessions answered = all_there IsAllAnswered sessions (λ at proxy there.
    answered at (lists_of asked received proxy) (mapped (lists_of asked received) sessions at proxy there))

module _ {S T O Q G R SK TK OK QK GK RK : Type 0} {mail : Ends S T O Q G R SK TK OK QK GK RK} where
  -- so a drain takes them over
  pub of_one_run : (script : Script) (workers : List (PlainWorker Q T O G)) (sessions : List (PlainProxy S R))
      → AreRunning mail script workers sessions
      → All IsAllAnswered sessions
      → AreHandedOver mail script workers (map left_by sessions)
  of_one_run script workers sessions running answered = record {
    table = running.table;
    valid = running.valid;
    as_many = running.as_many;
    workers_are = running.workers_are;
    courses = map (λ proxy. proxy.course) sessions;
    courses_are = made_of_made (λ proxy. proxy.course) (λ course. course.answers) sessions ∙ sym (made_of_made left_by (λ its. its.0) sessions);
    ended = subst (λ ends. HaveEnded running.table script.config.workers ends 1 script.sessions (lists_left mail.request_tx.sent mail.reply_rx.received (courses_of sessions) (map left_by sessions))) known_so
        (have_ended mail.request_tx.sent mail.reply_rx.received running.table script.config.workers (courses_of sessions) 0 script.sessions sessions running.as_many_sessions (λ place plan proxy planned there. (
          subst (λ at. IsSessionOf mail.request_tx.sent mail.reply_rx.received running.table script.config.workers at plan proxy) (omega arith)
              (running.sessions_are place plan proxy planned there),
          running.begins place plan proxy planned there,
          at_its_place IsAllAnswered sessions place proxy answered there,
        )));
    requests =
        subst (λ rows. AreOfOneMaking mail.request_tx.key mail.request_tx.number mail.request_rx.pairs (λ (worker : PlainWorker Q T O G). mail.request_rx.key worker.ends.requests)
        (λ worker. mail.request_rx.about worker.ends.requests) false rows workers) (sym (made_of_made left_by (λ its. its.1.requests.items) sessions)) running.ends.requests;
    replies =
        subst (AreOfOneMaking mail.reply_tx.key mail.reply_tx.number mail.reply_rx.pairs mail.reply_rx.key mail.reply_rx.about false (map (λ worker. worker.ends.replies.items) workers))
        (sym (made_of_made left_by (λ its. its.1.replies) sessions)) running.ends.replies;
    gossip = running.ends.gossip;
    request_boxes = λ place worker there.
        subst (λ many. IsBoxOf (IsOneOf many) (mail.request_rx.senders (mail.request_rx.key worker.ends.requests)) (mail.request_rx.received worker.ends.requests) (mail.request_rx.about worker.ends.requests))
        running.as_many_sessions (running.ends.request_boxes place worker there);
    gossip_boxes = λ place worker there.
        subst (λ many. IsWeakBoxOf (IsMate many (place + 1)) (mail.gossip_rx.senders (mail.gossip_rx.key worker.ends.gossip_in)) (mail.gossip_rx.got worker.ends.gossip_in) (mail.gossip_rx.about worker.ends.gossip_in))
        running.as_many (running.ends.gossip_boxes place worker there);
    reply_boxes = λ session its there.
        let proxy = of_mapped left_by sessions session its there in
        let within = slice_get_within sessions session proxy.0 proxy.1 in
        let plan = there_is script.sessions session (omega (arith, within, running.as_many_sessions)) in
        subst (λ those. All (λ message. IsOneOf script.config.workers message.0) (mail.reply_rx.received those.1.replies)) proxy.2
        (running.sessions_are session plan.0 proxy.0 plan.1 proxy.1).of_workers;
  }
    where
      -- what is left of them says what they know
      left_courses : (those : List (PlainProxy S R)) → known_now (courses_of those) ≡ known_then (lists_left mail.request_tx.sent mail.reply_rx.received (courses_of those) (map left_by those))
      left_courses [] = refl
      left_courses (proxy ∷ those) = ap (λ rest. (state_now proxy.course).knows ∷ rest) (left_courses those)

      known_so : known_now (courses_of sessions) ≡ known_then (lists_left mail.request_tx.sent mail.reply_rx.received (courses_of sessions) (map left_by sessions))
      known_so = left_courses sessions
