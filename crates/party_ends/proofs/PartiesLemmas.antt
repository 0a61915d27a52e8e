-- The parties that are made over all ends are those of a run.
use Rattle.std.specs.Prelude.{◌≡◌, ℕ, ◌+◌, true, false, List, [], ◌∷◌, ◌++◌, All, length, map, take, slice_get, MatchOption, Option, Some, None, Result, Ok, Err, IfOk, IfSome, ⊤}
use Rattle.std.proofs.Common.{◌∙◌, refl, sym, ap, subst, inl, inr, arith, length-append}
use Rattle.std.proofs.lemmas.List.{length-map, map-id}
use Rattle.std.proofs.lemmas.List.Elements.{All-nil}
use Rattle.std.proofs.lemmas.Option.{same_Some, slice_get_within}
use Rattle.placement.specs.Config.{IsOneOf}
use Rattle.session_known.specs.Script.{IsValidScript, MayComeAfter}
use Rattle.session_known.specs.declared.script.Level.{Level}
use Rattle.session_known.specs.declared.script.Level.TheVariants.{Causal}
use Rattle.session_known.specs.declared.script.Line.{Line}
use Rattle.session_known.specs.declared.script.Script.{Script}
use Rattle.session_known.specs.declared.script.SessionPlan.{SessionPlan}
use Rattle.session_proxy.specs.Share.{Share}
use Rattle.session_proxy.specs.State.{Course, PlainProxy, first_origin, lists_of, opening}
use Rattle.store_msg.specs.Reply.{PlainReply}
use Rattle.store_msg.specs.declared.ends.SessionEndsOver.{SessionEndsOver}
use Rattle.store_msg.specs.declared.ends.WorkerEndsOver.{WorkerEndsOver}
use Rattle.store_msg.specs.declared.request.Request.{Request}
use Rattle.worker_core.specs.State.{PlainWorker}
use Rattle.party_turns.proofs.ItemsLemmas.{all_there, at_its_place, made_of_made, mapped, there_is, there_too, same_made}
use Rattle.party_turns.specs.Making.{AreOfOneMaking, IsBoxOf, IsWeakBoxOf}
use Rattle.party_turns.specs.Mates.{IsMate}
use Rattle.party_turns.specs.Running.{AreRunning, BeginsAs, HaveEnds, courses_of}
use Rattle.party_ends.specs.AllEnds.{AreAllEnds}
use Rattle.party_ends.specs.Parties.{AreMadeOf, AreUnusedOfSession, AreUnusedOfWorker, IsNewSession, IsNewWorker}
use Rattle.party_ends.proofs.AllEndsLemmas.{making_over}
use Rattle.party_ends.proofs.DealLemmas.{of_one_more}
use Rattle.party_turns.specs.Ends.{Ends}

-- one more was made
pub one_more : {X Y : Type 0} {IsMadeOf : ℕ → X → Y → Type 0} (items : List X) (made : List Y) (item : X) (its : Y) → AreMadeOf IsMadeOf items made → IsMadeOf (length items) item its
    → AreMadeOf IsMadeOf (items ++ item ∷ []) (made ++ its ∷ [])
one_more {IsMadeOf = IsMadeOf} items made item its so_far is = record {
  long = length-append made (its ∷ []) ∙ ap (λ n. n + 1) so_far.long ∙ sym (length-append items (item ∷ []));
  each = λ place x y there here. elim (of_one_more items item place x there) [
    | inl earlier ↦ elim (of_one_more made its place y here) [
      | inl also ↦ so_far.each place x y earlier also
      | inr last ↦ let within = slice_get_within items place x earlier in absurd (omega (arith, within, so_far.long, last.0))
    ]
    | inr last ↦ elim (of_one_more made its place y here) [
      | inl earlier ↦ let within = slice_get_within made place y earlier in absurd (omega (arith, within, so_far.long, last.0))
      | inr also ↦
          subst (λ n. IsMadeOf n x y) (sym last.0) (subst (λ p. IsMadeOf (length items) p y) (sym last.1) (subst (IsMadeOf (length items) item) (sym also.1) is))
    ]
  ];
}

-- A session that was made with the plan at its place is new.
pub session_is_new : {S R X E : Type 0} (asked : S → List Request) (heard : R → List (ℕ × PlainReply)) (proxy_of : X → PlainProxy S R) (script : Script) (table : List (List ℕ)) (place : ℕ)
    (ends : SessionEndsOver S R) (plan : SessionPlan) (lines : List Line) (copy : List (List ℕ)) (result : Result X E) → slice_get script.sessions place ≡ Some plan → lines ≡ plan.lines → copy ≡ table
    → IfOk result (λ session. proxy_of session ≡ record { course = opening (record { session = place + 1; level = plan.level }) copy lines (first_origin plan.after); ends = ends })
    → IfOk result (λ session. Share (lists_of asked heard (proxy_of session))) → IfOk result (λ session. IsNewSession asked heard script table place ends (proxy_of session))
session_is_new asked heard proxy_of script table place ends plan lines copy (Ok session) there lines_are copied is share = record {
  proxy_is = λ other also.
      let same = same_Some plan other (sym there ∙ also) in
      is ∙ (λ j. record { course = opening (record { session = place + 1; level = (same j).level }) (copied j) ((lines_are ∙ ap (λ (one : SessionPlan). one.lines) same) j) (first_origin (same j).after); ends = ends });
  share = share;
}
session_is_new asked heard proxy_of script table place ends plan lines copy (Err error) there lines_are copied is share = tt

-- a session that comes after another is causal
causal_after : (version : ℕ) (earlier : List SessionPlan) (level : Level) (after : Option ℕ) → MatchOption after ⊤ (MayComeAfter version earlier level) → IfSome after (λ _. level ≡ Causal)
causal_after version earlier level None may = tt
causal_after version earlier level (Some after) may = may.causal

pub plan_is_causal : (script : Script) (table : List (List ℕ)) → IsValidScript script table → (place : ℕ) (plan : SessionPlan) → slice_get script.sessions place ≡ Some plan → IfSome plan.after (λ _. plan.level ≡ Causal)
plan_is_causal script table valid place plan there = causal_after script.version (take place script.sessions) plan.level plan.after (valid.orders place plan there)

-- before the first line each begins, or waits, as its plan says
begins_first : (courses : List Course) (after : Option ℕ) → BeginsAs courses after (first_origin after)
begins_first courses None = refl
begins_first courses (Some after) = refl

-- What is made of items at their places has those as a part of each, where it has so at each place.
parts_are : {X Y : Type 0} (part : Y → X) (items : List X) (made : List Y) → length made ≡ length items
    → ((place : ℕ) (item : X) (its : Y) → slice_get items place ≡ Some item → slice_get made place ≡ Some its → part its ≡ item) → map part made ≡ items
parts_are part items made long each = sym (same_made (λ item. item) part items made long (λ place item its there here. sym (each place item its there here))) ∙ map-id items

module _ {S T O Q G R SK TK OK QK GK RK : Type 0}
    {mail : Ends S T O Q G R SK TK OK QK GK RK}
    {many_workers many_sessions : ℕ} {worker_ends : List (WorkerEndsOver Q T O G)} {session_ends : List (SessionEndsOver S R)}
    (ends : AreAllEnds mail many_workers many_sessions worker_ends session_ends) where
  -- the ends of a worker are unused
  pub of_workers : All (AreUnusedOfWorker mail.request_rx.received mail.gossip_rx.got mail.reply_tx.sent mail.gossip_tx.sent many_workers) worker_ends
  of_workers = all_there (AreUnusedOfWorker mail.request_rx.received mail.gossip_rx.got mail.reply_tx.sent mail.gossip_tx.sent many_workers) worker_ends (λ place its there. record {
    mates =
        at_its_place (λ senders. length senders + 1 ≡ length worker_ends) (map (λ (one : WorkerEndsOver Q T O G). one.gossip_out.items) worker_ends) place its.gossip_out.items ends.gossip.many
        (mapped (λ (one : WorkerEndsOver Q T O G). one.gossip_out.items) worker_ends place its there)
        ∙ ends.workers_are;
    none_received = at_its_place (λ (one : WorkerEndsOver Q T O G). mail.request_rx.received one.requests ≡ []) worker_ends place its ends.none_received there;
    none_got = at_its_place (λ (one : WorkerEndsOver Q T O G). (sender at : ℕ) → mail.gossip_rx.got one.gossip_in sender at ≡ None) worker_ends place its ends.none_got there;
    none_replied = at_its_place (λ (one : WorkerEndsOver Q T O G). All (λ sender. mail.reply_tx.sent sender ≡ []) one.replies.items) worker_ends place its ends.none_replied there;
    none_told = at_its_place (λ (one : WorkerEndsOver Q T O G). All (λ sender. mail.gossip_tx.sent sender ≡ []) one.gossip_out.items) worker_ends place its ends.none_told there;
  })

  -- and so are those of a session
  pub of_sessions : All (AreUnusedOfSession mail.request_tx.sent mail.reply_rx.received many_workers) session_ends
  of_sessions = all_there (AreUnusedOfSession mail.request_tx.sent mail.reply_rx.received many_workers) session_ends (λ place its there. record {
    senders =
        let many = at_its_place (λ senders. length senders + 0 ≡ length worker_ends) (map (λ (one : SessionEndsOver S R). one.requests.items) session_ends) place its.requests.items ends.requests.many
        (mapped (λ (one : SessionEndsOver S R). one.requests.items) session_ends place its there) in
        omega (arith, many, ends.workers_are);
    none_asked = at_its_place (λ (one : SessionEndsOver S R). All (λ sender. mail.request_tx.sent sender ≡ []) one.requests.items) session_ends place its ends.none_asked there;
    none_heard = at_its_place (λ (one : SessionEndsOver S R). mail.reply_rx.received one.replies ≡ []) session_ends place its ends.none_heard there;
  })

  -- to each session a worker has a sender of replies
  replies_long : (place : ℕ) (its : WorkerEndsOver Q T O G) → slice_get worker_ends place ≡ Some its → length its.replies.items ≡ many_sessions
  replies_long place its there =
      let many = at_its_place (λ senders. length senders + 0 ≡ length (map (λ (one : SessionEndsOver S R). one.replies) session_ends)) (map (λ (one : WorkerEndsOver Q T O G). one.replies.items) worker_ends)
      place its.replies.items ends.replies.many (mapped (λ (one : WorkerEndsOver Q T O G). one.replies.items) worker_ends place its there) in
      omega (arith, many, ends.sessions_are, length-map session_ends (λ (one : SessionEndsOver S R). one.replies))

  module _ (workers : List (PlainWorker Q T O G)) (sessions : List (PlainProxy S R)) (workers_over : map (λ worker. worker.ends) workers ≡ worker_ends)
      (sessions_over : map (λ its. its.ends) sessions ≡ session_ends) where
    -- the ends of the party at a place
    ends_there : (place : ℕ) (worker : PlainWorker Q T O G) → slice_get workers place ≡ Some worker → slice_get worker_ends place ≡ Some worker.ends
    ends_there place worker there = sym (ap (λ all. slice_get all place) workers_over) ∙ mapped (λ (one : PlainWorker Q T O G). one.ends) workers place worker there

    session_ends_there : (place : ℕ) (proxy : PlainProxy S R) → slice_get sessions place ≡ Some proxy → slice_get session_ends place ≡ Some proxy.ends
    session_ends_there place proxy there = sym (ap (λ all. slice_get all place) sessions_over) ∙ mapped (λ (one : PlainProxy S R). one.ends) sessions place proxy there

    workers_long : length workers ≡ many_workers
    workers_long = sym (length-map workers (λ (one : PlainWorker Q T O G). one.ends)) ∙ ap length workers_over ∙ ends.workers_are

    sessions_long : length sessions ≡ many_sessions
    sessions_long = sym (length-map sessions (λ (one : PlainProxy S R). one.ends)) ∙ ap length sessions_over ∙ ends.sessions_are

    -- a part of the ends of each
    worker_parts : {V : Type 0} (part : WorkerEndsOver Q T O G → V) → map part worker_ends ≡ map (λ (worker : PlainWorker Q T O G). part worker.ends) workers
    worker_parts part = ap (map part) (sym workers_over) ∙ made_of_made (λ (one : PlainWorker Q T O G). one.ends) part workers

    session_parts : {V : Type 0} (part : SessionEndsOver S R → V) → map part session_ends ≡ map (λ (its : PlainProxy S R). part its.ends) sessions
    session_parts part = ap (map part) (sym sessions_over) ∙ made_of_made (λ (one : PlainProxy S R). one.ends) part sessions

    have_ends : ((place : ℕ) (worker : PlainWorker Q T O G) → slice_get workers place ≡ Some worker → worker.state.me ≡ place + 1)
        → HaveEnds mail workers sessions
    have_ends numbered = record {
      requests =
          subst (λ rows. AreOfOneMaking mail.request_tx.key mail.request_tx.number mail.request_rx.pairs (λ (worker : PlainWorker Q T O G). mail.request_rx.key worker.ends.requests) (λ worker. mail.request_rx.about worker.ends.requests) false rows workers)
          (session_parts (λ its. its.requests.items)) (making_over (λ (worker : PlainWorker Q T O G). worker.ends) workers worker_ends workers_over ends.requests);
      replies =
          subst (AreOfOneMaking mail.reply_tx.key mail.reply_tx.number mail.reply_rx.pairs mail.reply_rx.key mail.reply_rx.about false (map (λ (worker : PlainWorker Q T O G). worker.ends.replies.items) workers)) (session_parts (λ its. its.replies))
          (subst (λ rows. AreOfOneMaking mail.reply_tx.key mail.reply_tx.number mail.reply_rx.pairs mail.reply_rx.key mail.reply_rx.about false rows (map (λ (its : SessionEndsOver S R). its.replies) session_ends))
          (worker_parts (λ its. its.replies.items)) ends.replies);
      gossip =
          subst (λ rows. AreOfOneMaking mail.gossip_tx.key mail.gossip_tx.number mail.gossip_rx.pairs (λ (worker : PlainWorker Q T O G). mail.gossip_rx.key worker.ends.gossip_in) (λ worker. mail.gossip_rx.about worker.ends.gossip_in) true rows workers)
          (worker_parts (λ its. its.gossip_out.items)) (making_over (λ (worker : PlainWorker Q T O G). worker.ends) workers worker_ends workers_over ends.gossip);
      request_boxes = λ place worker there.
          subst (λ n. IsBoxOf (IsOneOf n) (mail.request_rx.senders (mail.request_rx.key worker.ends.requests)) (mail.request_rx.received worker.ends.requests) (mail.request_rx.about worker.ends.requests)) (sym sessions_long)
          (at_its_place (λ (its : WorkerEndsOver Q T O G). IsBoxOf (IsOneOf many_sessions) (mail.request_rx.senders (mail.request_rx.key its.requests)) (mail.request_rx.received its.requests) (mail.request_rx.about its.requests))
          worker_ends place worker.ends ends.request_boxes (ends_there place worker there));
      gossip_boxes = λ place worker there.
          subst (λ n. IsWeakBoxOf (IsMate n (place + 1)) (mail.gossip_rx.senders (mail.gossip_rx.key worker.ends.gossip_in)) (mail.gossip_rx.got worker.ends.gossip_in) (mail.gossip_rx.about worker.ends.gossip_in)) (sym workers_long)
          (ends.gossip_boxes place worker.ends (ends_there place worker there));
      reply_boxes = λ place proxy there.
          at_its_place (λ (its : SessionEndsOver S R). mail.reply_rx.senders (mail.reply_rx.key its.replies) ≡ many_workers) session_ends place proxy.ends ends.reply_boxes (session_ends_there place proxy there)
          ∙ sym workers_long;
      numbered = numbered;
    }

module _ {S T O Q G R SK TK OK QK GK RK : Type 0}
    {mail : Ends S T O Q G R SK TK OK QK GK RK}
    (script : Script) (table : List (List ℕ)) (worker_ends : List (WorkerEndsOver Q T O G)) (session_ends : List (SessionEndsOver S R)) (workers : List (PlainWorker Q T O G))
    (sessions : List (PlainProxy S R)) (many_sessions : ℕ) (as_many : many_sessions ≡ length script.sessions) where
  -- Over all ends the new workers and the new sessions of a valid script are running.
  pub are_running : IsValidScript script table
      → AreAllEnds mail script.config.workers many_sessions worker_ends session_ends
      → AreMadeOf (IsNewWorker script table) worker_ends workers
      → AreMadeOf (IsNewSession mail.request_tx.sent mail.reply_rx.received script table) session_ends sessions
      → AreRunning mail script workers sessions
  are_running valid ends workers_new sessions_new = record {
    table = table;
    valid = valid;
    as_many = workers_new.long ∙ ends.workers_are;
    workers_are = λ place worker there.
        let its = there_too worker_ends workers place worker workers_new.long there in
        let is = workers_new.each place its.0 worker its.1 there in
        let mates = (at_its_place (AreUnusedOfWorker mail.request_rx.received mail.gossip_rx.got mail.reply_tx.sent mail.gossip_tx.sent script.config.workers) worker_ends place its.0 (of_workers ends) its.1).mates in
        record {
          me = ap (λ (one : PlainWorker Q T O G). one.state.me) is;
          round = ap (λ (one : PlainWorker Q T O G). one.state.round) is;
          placement = ap (λ (one : PlainWorker Q T O G). one.state.placement) is;
          kinds = ap (λ (one : PlainWorker Q T O G). one.state.kinds) is;
          sessions = ap (λ (one : PlainWorker Q T O G). length one.ends.replies.items) is ∙ replies_long ends place its.0 its.1 ∙ as_many;
          mates = ap (λ (one : PlainWorker Q T O G). length one.ends.gossip_out.items + 1) is ∙ mates;
        };
    as_many_sessions = sessions_new.long ∙ ends.sessions_are ∙ as_many;
    sessions_are = λ place plan proxy plan_there there.
        let its = there_too session_ends sessions place proxy sessions_new.long there in
        let new = sessions_new.each place its.0 proxy its.1 there in
        let is = new.proxy_is plan plan_there in
        let unused = at_its_place (AreUnusedOfSession mail.request_tx.sent mail.reply_rx.received script.config.workers) session_ends place its.0 (of_sessions ends) its.1 in
        record {
          client_is = ap (λ (one : PlainProxy S R). one.course.client) is;
          table_is = ap (λ (one : PlainProxy S R). one.course.table) is;
          lines_are = ap (λ (one : PlainProxy S R). one.course.lines) is;
          senders = ap (λ (one : PlainProxy S R). length one.ends.requests.items) is ∙ unused.senders;
          share = new.share;
          of_workers =
              subst (All (λ message. IsOneOf script.config.workers message.0)) (sym (ap (λ (one : PlainProxy S R). mail.reply_rx.received one.ends.replies) is ∙ unused.none_heard))
              (All-nil (λ (message : ℕ × PlainReply). IsOneOf script.config.workers message.0));
        };
    begins = λ place plan proxy plan_there there.
        let its = there_too session_ends sessions place proxy sessions_new.long there in
        subst (BeginsAs (courses_of sessions) plan.after) (sym (ap (λ (one : PlainProxy S R). one.course.origin) ((sessions_new.each place its.0 proxy its.1 there).proxy_is plan plan_there)))
        (begins_first (courses_of sessions) plan.after);
    ends = have_ends ends workers sessions
        (parts_are (λ (one : PlainWorker Q T O G). one.ends) worker_ends workers workers_new.long (λ place item its there here. ap (λ (one : PlainWorker Q T O G). one.ends) (workers_new.each place item its there here)))
        (parts_are (λ (one : PlainProxy S R). one.ends) session_ends sessions sessions_new.long (λ place item its there here.
        let plan = there_is script.sessions place (let within = slice_get_within session_ends place item there in omega (arith, within, ends.sessions_are, as_many)) in
        ap (λ (one : PlainProxy S R). one.ends) ((sessions_new.each place item its there here).proxy_is plan.0 plan.1)))
        (λ place worker there.
        let its = there_too worker_ends workers place worker workers_new.long there in
        ap (λ (one : PlainWorker Q T O G). one.state.me) (workers_new.each place its.0 worker its.1 there));
  }

-- what is told of the ends of new workers was told of those over which they were made
pub told_of_ends : {Q T O G V : Type 0} (tells : WorkerEndsOver Q T O G → V) (script : Script) (table : List (List ℕ)) (ends : List (WorkerEndsOver Q T O G))
    (workers : List (PlainWorker Q T O G)) → AreMadeOf (IsNewWorker script table) ends workers → map tells ends ≡ map (λ worker. tells worker.ends) workers
told_of_ends {Q} {T} {O} {G} tells script table ends workers made =
    same_made tells (λ (worker : PlainWorker Q T O G). tells worker.ends) ends workers made.long (λ place its worker there here.
    ap (λ (one : PlainWorker Q T O G). tells one.ends) (sym (made.each place its worker there here)))

-- new workers keep no message
pub none_kept : {Q T O G : Type 0} (script : Script) (table : List (List ℕ)) (ends : List (WorkerEndsOver Q T O G)) (workers : List (PlainWorker Q T O G))
    → AreMadeOf (IsNewWorker script table) ends workers → All (λ worker. worker.state.kept ≡ None) workers
none_kept script table ends workers made = all_there (λ worker. worker.state.kept ≡ None) workers (λ place worker there.
    let its = there_too ends workers place worker made.long there in
    ap (λ one. one.state.kept) (made.each place its.0 worker its.1 there))

-- new sessions await no reply
pub none_waits : {S R : Type 0} (asked : S → List Request) (heard : R → List (ℕ × PlainReply)) (script : Script) (table : List (List ℕ)) (ends : List (SessionEndsOver S R))
    (sessions : List (PlainProxy S R)) → length ends ≡ length script.sessions → AreMadeOf (IsNewSession asked heard script table) ends sessions → All (λ proxy. proxy.course.waits ≡ false) sessions
none_waits asked heard script table ends sessions as_many made = all_there (λ proxy. proxy.course.waits ≡ false) sessions (λ place proxy there.
    let its = there_too ends sessions place proxy made.long there in
    let plan = there_is script.sessions place (let within = slice_get_within ends place its.0 its.1 in omega (arith, within, as_many)) in
    ap (λ one. one.course.waits) ((made.each place its.0 proxy its.1 there).proxy_is plan.0 plan.1))
