-- A session begins among others, and the run goes on.
use Rattle.std.specs.Prelude.{◌≡◌, ℕ, zero, suc, ◌<◌, ◌-◌, IsTrue, List, [], ◌∷◌, All, length, map, slice_get, slice_set, Option, Some}
use Rattle.std.specs.List.{insert, remove}
use Rattle.std.proofs.Common.{◌∙◌, ap, arith, inl, inr, refl, subst, sym}
use Rattle.std.proofs.lemmas.Bool.{false≢true}
use Rattle.std.proofs.lemmas.List.{length-map, length-set}
use Rattle.std.proofs.lemmas.Option.{get_or_from_slice_get, same_Some, slice_get_within}
use Rattle.mail_contract.proofs.PostsLemmas.{stays_elsewhere}
use Rattle.placement.specs.Config.{IsOneOf}
use Rattle.run_measure.proofs.DoneLemmas.{goes_still}
use Rattle.run_measure.specs.Steps.{HasDone, HasServed}
use Rattle.run_measure.proofs.ServedLemmas.{served_still}
use Rattle.run_waiting.specs.Waiting.{AwaitsMissing}
use Rattle.session_known.specs.Session.{Knowledge, handed}
use Rattle.session_known.specs.declared.script.SessionPlan.{SessionPlan}
use Rattle.session_proxy.specs.State.{Course, Knew, Lists, Origin, PlainProxy, WaitsFor, has_begun, state_now}
use Rattle.worker_core.specs.State.{PlainWorker}
use Rattle.party_turns.proofs.BeginsLemmas.{StaysEnded, begins_still}
use Rattle.party_turns.proofs.ItemsLemmas.{all_there, at_its_place, mapped, of_mapped, there_is}
use Rattle.party_turns.proofs.OrderLemmas.{waits_for_that}
use Rattle.party_turns.proofs.StepsLemmas.{steps_still}
use Rattle.party_turns.proofs.TogetherLemmas.{all_stepped}
use Rattle.party_turns.specs.Ends.{Ends, session_lists, worker_lists}
use Rattle.party_turns.specs.Places.{OthersSame}
use Rattle.party_turns.specs.Running.{BeginsAs, GoesOn, HaveEnds, IsSessionOf, courses_of}
use Rattle.party_turns.specs.Steps.{StepsOn}
use Rattle.parties.proofs.ChangedLemmas.{done_to_made, done_to_none, done_to_one}
use Rattle.parties.proofs.KeptLemmas.{KeepsSessionEnds, KeepsWorkerEnds, NoneTakenIn, ends_kept, session_keeps, worker_keeps}
use Rattle.parties.specs.Beginning.{Begins, MayBegin}
use Rattle.parties.specs.Sweeping.{AllAwait}

-- an item that was taken out and put back
pub put_back : {X : Type 0} (items : List X) (place : ℕ) (now : X) → place < length items → insert (remove items place) place now ≡ slice_set items place now
put_back [] place now within = absurd (omega (arith, within))
put_back (first ∷ items) zero now within = refl
put_back (first ∷ items) (suc place) now within = ap (λ rest. first ∷ rest) (put_back items place now (omega (arith, within)))

-- a session that waits has not begun
pub waits_yet : (origin : Origin) (session : ℕ) → origin ≡ WaitsFor session → (known : Knowledge) → origin ≡ Knew known → ⊥
waits_yet origin session waits known knew = absurd (cc)

not_begun : (course : Course) (session : ℕ) → course.origin ≡ WaitsFor session → IsTrue (has_begun course) → ⊥
not_begun course session waits begun = false≢true (sym (ap (λ origin. has_begun (record course { origin = origin })) waits) ∙ begun)

-- and one that begins has gone on
begun_goes : (was is : Lists) (session : ℕ) (known : Knowledge) → was.course.origin ≡ WaitsFor session → is ≡ record was { course = record was.course { origin = Knew known } } → HasDone was is
begun_goes was is session known waits begun = subst (HasDone was) (sym begun) (record {
  client = refl;
  table = refl;
  lines = refl;
  origin = λ knew before. absurd (waits_yet was.course.origin session waits knew before);
  workers = refl;
  answered = still.answered;
  asked_more = still.asked_more;
  heard_more = still.heard_more;
})
  where
    still : HasDone was was
    still = goes_still was

module _ {S T O Q G R SK TK OK QK GK RK : Type 0} (mail : Ends S T O Q G R SK TK OK QK GK RK)
    (workers : List (PlainWorker Q T O G)) (sessions : List (PlainProxy S R)) (place : ℕ) (was is : PlainProxy S R)
    (there : slice_get sessions place ≡ Some was) (within : place < length sessions)
    (begins : Begins mail.request_tx.sent mail.reply_rx.received sessions was is) where
  abbrev sessions_now : List (PlainProxy S R)
  sessions_now = slice_set sessions place is

  long : length sessions_now ≡ length sessions
  long = length-set sessions place is

  -- what it does to that session is done to the one at its place, and nothing to the others
  one_does : (Does : ℕ → PlainProxy S R → PlainProxy S R → Type 0) → ((at : ℕ) (its : PlainProxy S R) → Does at its its) → Does place was is
      → (at : ℕ) (before now : PlainProxy S R) → slice_get sessions at ≡ Some before → slice_get sessions_now at ≡ Some now → Does at before now
  one_does Does still does = done_to_one Does still sessions place was is within (sym (get_or_from_slice_get sessions place was was there)) does

  keeps : KeepsSessionEnds mail was is
  keeps = record {
    keys = record {
      requests_keys = ap (λ ends. map mail.request_tx.key ends.requests.items) begins.ends;
      requests_numbers = ap (λ ends. map mail.request_tx.number ends.requests.items) begins.ends;
      replies_key = ap (λ ends. mail.reply_rx.key ends.replies) begins.ends;
    };
    no_worker = subst (λ ends. NoneTakenIn (mail.reply_rx.about was.ends.replies) (mail.reply_rx.about ends.replies)) (sym begins.ends) (session_keeps {mail = mail} was).no_worker;
  }

  -- it is the session of the same plan
  is_of_plan : (table : List (List ℕ)) (many at : ℕ) (plan : SessionPlan) → IsSessionOf mail.request_tx.sent mail.reply_rx.received table many at plan was
      → IsSessionOf mail.request_tx.sent mail.reply_rx.received table many at plan is
  is_of_plan table many at plan session = record {
    client_is = ap (λ (course : Course). course.client) begins.course ∙ session.client_is;
    table_is = ap (λ (course : Course). course.table) begins.course ∙ session.table_is;
    lines_are = ap (λ (course : Course). course.lines) begins.course ∙ session.lines_are;
    senders = ap (λ ends. length ends.requests.items) begins.ends ∙ session.senders;
    share = begins.share;
    of_workers = subst (λ ends. All (λ message. IsOneOf many message.0) (mail.reply_rx.received ends.replies)) (sym begins.ends) session.of_workers;
  }

  -- and begins as its plan says
  begins_as : (after : Option ℕ) → BeginsAs (courses_of sessions) after was.course.origin → BeginsAs (courses_of sessions) after is.course.origin
  begins_as after before =
      subst (BeginsAs (courses_of sessions) after) (sym (ap (λ (course : Course). course.origin) begins.course))
      (subst (λ after. BeginsAs (courses_of sessions) after (Knew (handed (state_now begins.other.course).knows)))
      (sym (waits_for_that (courses_of sessions) after was.course.origin begins.session before begins.waited)) (record {
        course = begins.other.course;
        there = mapped (λ its. its.course) sessions (begins.session - 1) begins.other begins.there;
        begun = begins.ended.0;
        answered = begins.ended.1;
        known_is = refl;
      }))

  -- those that have ended stay as they are
  ended_stay : (at : ℕ) (before now : PlainProxy S R) → slice_get sessions at ≡ Some before → slice_get sessions_now at ≡ Some now → StaysEnded before.course now.course
  ended_stay = one_does (λ at before now. StaysEnded before.course now.course) (λ at its begun answered. refl)
      (λ begun answered. absurd (not_begun was.course begins.session begins.waited begun))

  begun_goes_on : GoesOn mail workers workers sessions sessions_now
  begun_goes_on = record {
    workers_long = refl;
    sessions_long = long;
    gossip_keys = refl;
    ends = ends_stay;
    running = λ script running. record {
      table = running.table;
      valid = running.valid;
      as_many = running.as_many;
      workers_are = running.workers_are;
      as_many_sessions = long ∙ running.as_many_sessions;
      sessions_are = λ at plan now planned here.
          let before = there_is sessions at (omega (arith, slice_get_within sessions_now at now here, long)) in
          one_does (λ at before now. IsSessionOf mail.request_tx.sent mail.reply_rx.received running.table script.config.workers at plan before
          → IsSessionOf mail.request_tx.sent mail.reply_rx.received running.table script.config.workers at plan now) (λ at its is. is) (is_of_plan running.table script.config.workers place plan)
          at before.0 now before.1 here (running.sessions_are at plan before.0 planned before.1);
      begins = λ at plan now planned here.
          let before = there_is sessions at (omega (arith, slice_get_within sessions_now at now here, long)) in
          begins_still (courses_of sessions) (courses_of sessions_now) courses_long (done_to_made StaysEnded (λ its. its.course) sessions sessions_now ended_stay) plan.after now.course.origin
          (one_does (λ at before now. BeginsAs (courses_of sessions) plan.after before.course.origin → BeginsAs (courses_of sessions) plan.after now.course.origin) (λ at its is. is) (begins_as plan.after)
          at before.0 now before.1 here (running.begins at plan before.0 planned before.1));
      ends = ends_stay running.ends;
    };
  }
    where
      courses_long : length (courses_of sessions_now) ≡ length (courses_of sessions)
      courses_long = length-map sessions_now (λ its. its.course) ∙ long ∙ sym (length-map sessions (λ its. its.course))

      ends_stay : HaveEnds mail workers sessions → HaveEnds mail workers sessions_now
      ends_stay =
          ends_kept workers workers sessions sessions_now refl long
          (done_to_none (KeepsWorkerEnds mail (length workers) (length sessions)) (worker_keeps (length workers) (length sessions)) workers)
          (one_does (λ at. KeepsSessionEnds mail) (λ at. session_keeps) keeps)

  begun_steps_on : StepsOn mail workers workers sessions sessions_now
  begun_steps_on = record {
    goes_on = begun_goes_on;
    gone_on = λ script running.
        all_stepped mail workers workers sessions sessions_now refl long
        (λ place worker there. (running.workers_are place worker there).sessions ∙ sym running.as_many_sessions)
        (λ place before now there also kept. subst (λ now. HasServed (worker_lists mail before) (worker_lists mail now)) (same_Some before now (sym there ∙ also)) (served_still (worker_lists mail before) kept))
        (one_does (λ at before now. HasDone (session_lists mail before) (session_lists mail now)) (λ at its. goes_still (session_lists mail its)) goes);
  }
    where
      goes : HasDone (session_lists mail was) (session_lists mail is)
      goes =
          begun_goes (session_lists mail was) (session_lists mail is) begins.session (handed (state_now begins.other.course).knows) begins.waited
          (λ j. session_lists mail (record { course = begins.course j; ends = begins.ends j }))

  -- while it waits for no reply
  begun_awaits : AwaitsMissing (session_lists mail is)
  begun_awaits waits = absurd (false≢true (sym begins.silent ∙ sym (ap (λ (course : Course). course.waits) begins.course) ∙ waits))

module _ {S T O Q G R SK TK OK QK GK RK : Type 0} (mail : Ends S T O Q G R SK TK OK QK GK RK)
    (workers : List (PlainWorker Q T O G)) (sessions sessions_now : List (PlainProxy S R)) (place : ℕ) (within : place < length sessions)
    (may : MayBegin mail.request_tx.sent mail.reply_rx.received place sessions sessions_now) where
  -- where the session at a place may have begun the others are as they were,
  pub others_stay : OthersSame place sessions sessions_now
  others_stay other apart = elim may [
    | inl same ↦ ap (λ all. slice_get all other) same
    | inr (is, now, begins) ↦ ap (λ all. slice_get all other) now ∙ stays_elsewhere sessions place other is apart
  ]

  -- the run goes on,
  pub may_step_on : StepsOn mail workers workers sessions sessions_now
  may_step_on = elim may [
    | inl same ↦ subst (λ now. StepsOn mail workers workers sessions now) (sym same) (steps_still workers sessions)
    | inr (is, now, begins) ↦
        let was = there_is sessions place within in
        subst (λ now. StepsOn mail workers workers sessions now) (sym now) (begun_steps_on mail workers sessions place was.0 is was.1 within (begins was.0 was.1))
  ]

  -- one that had begun stays as it was,
  pub begun_stays : ((was : PlainProxy S R) → slice_get sessions place ≡ Some was → IsTrue (has_begun was.course)) → sessions_now ≡ sessions
  begun_stays begun = elim may [
    | inl same ↦ same
    | inr (is, now, begins) ↦ let was = there_is sessions place within in absurd (not_begun was.0.course (begins was.0 was.1).session (begins was.0 was.1).waited (begun was.0 was.1))
  ]

  -- and nothing else is awaited
  pub await_still : AllAwait (map (session_lists mail) sessions) → AllAwait (map (session_lists mail) sessions_now)
  await_still all = elim may [
    | inl same ↦ subst (λ now. AllAwait (map (session_lists mail) now)) (sym same) all
    | inr (is, now, begins) ↦
        let was = there_is sessions place within in
        subst (λ now. AllAwait (map (session_lists mail) now)) (sym now)
        (all_there AwaitsMissing (map (session_lists mail) (slice_set sessions place is)) (λ at its there.
        let proxy = of_mapped (session_lists mail) (slice_set sessions place is) at its there in
        let before = there_is sessions at (omega (arith, slice_get_within (slice_set sessions place is) at proxy.0 proxy.1, length-set sessions place is)) in
        subst AwaitsMissing proxy.2
        (one_does mail workers sessions place was.0 is was.1 within (begins was.0 was.1)
        (λ at before now. AwaitsMissing (session_lists mail before) → AwaitsMissing (session_lists mail now)) (λ at its is. is)
        (λ before. begun_awaits mail workers sessions place was.0 is was.1 within (begins was.0 was.1))
        at before.0 proxy.0 before.1 proxy.1
        (at_its_place AwaitsMissing (map (session_lists mail) sessions) at (session_lists mail before.0) all (mapped (session_lists mail) sessions at before.0 before.1)))))
  ]
