-- A run goes on where its ends stay of one making, and what is told of its workers and of its sessions stays.
use Rattle.std.specs.Prelude.{◌≡◌, ℕ, ◌+◌, List, All, length, map, Option}
use Rattle.std.proofs.Common.{◌∙◌, sym, ap, subst}
use Rattle.std.proofs.lemmas.List.{length-map}
use Rattle.placement.specs.Config.{IsOneOf}
use Rattle.session_known.specs.declared.script.Script.{Script}
use Rattle.session_known.specs.declared.script.SessionPlan.{SessionPlan}
use Rattle.session_proxy.specs.Share.{Share}
use Rattle.session_proxy.specs.State as sessions
use Rattle.store_msg.specs.Reply.{PlainReply}
use Rattle.store_msg.specs.declared.request.Request.{Request}
use Rattle.worker_core.specs.State as workers
use Rattle.party_turns.proofs.ItemsLemmas.{also_there, long_alike, made_of_made}
use Rattle.party_turns.specs.Making.{IsOfScript}
use Rattle.party_turns.specs.Running.{BeginsAs, GoesOn, HaveEnds, IsSessionOf, courses_of}
use Rattle.party_turns.specs.Ends.{Ends, session_lists, worker_lists}

-- a session of which the same is told is one of the same plan
session_still : {S R : Type 0} {asked : S → List Request} {received : R → List (ℕ × PlainReply)} {table : List (List ℕ)} {workers place : ℕ} {plan : SessionPlan}
    (was is : sessions.PlainProxy S R)
    → sessions.lists_of asked received was ≡ sessions.lists_of asked received is → IsSessionOf asked received table workers place plan was
    → IsSessionOf asked received table workers place plan is
session_still {asked = asked} {received = received} {workers = workers} was is same its = record {
  client_is = ap (λ lists. lists.course.client) (sym same) ∙ its.client_is;
  table_is = ap (λ lists. lists.course.table) (sym same) ∙ its.table_is;
  lines_are = ap (λ lists. lists.course.lines) (sym same) ∙ its.lines_are;
  senders = sym (length-map is.ends.requests.items asked) ∙ ap (λ lists. length lists.sent) (sym same) ∙ length-map was.ends.requests.items asked ∙ its.senders;
  share = subst Share same its.share;
  of_workers = subst (λ messages. All (λ message. IsOneOf workers message.0) messages) (ap (λ lists. lists.received) same) its.of_workers;
}

-- and a worker of which the same is told is one of the same script
worker_still : {Q T O G : Type 0} (received : Q → List (ℕ × Request)) (replied : T → List PlainReply) (told : O → List workers.Entries) (got : G → ℕ → ℕ → Option workers.Entries)
    {script : Script} {table : List (List ℕ)} {place : ℕ} (was is : workers.PlainWorker Q T O G)
    → workers.lists_of received replied told got was ≡ workers.lists_of received replied told got is → IsOfScript script table place was → IsOfScript script table place is
worker_still received replied told got was is same its = record {
  me = ap (λ lists. lists.state.me) (sym same) ∙ its.me;
  round = ap (λ lists. lists.state.round) (sym same) ∙ its.round;
  placement = ap (λ lists. lists.state.placement) (sym same) ∙ its.placement;
  kinds = ap (λ lists. lists.state.kinds) (sym same) ∙ its.kinds;
  sessions = sym (length-map is.ends.replies.items replied) ∙ ap (λ lists. length lists.replied) (sym same) ∙ length-map was.ends.replies.items replied ∙ its.sessions;
  mates = ap (λ n. n + 1) (sym (length-map is.ends.gossip_out.items told) ∙ ap (λ lists. length lists.told) (sym same) ∙ length-map was.ends.gossip_out.items told)
      ∙ its.mates;
}

module _ {S T O Q G R SK TK OK QK GK RK : Type 0}
    {mail : Ends S T O Q G R SK TK OK QK GK RK} where
  -- a run that went on twice went on
  pub goes_on_through : (those those_then those_now : List (workers.PlainWorker Q T O G)) (proxies proxies_then proxies_now : List (sessions.PlainProxy S R))
      → GoesOn mail those those_then proxies proxies_then
      → GoesOn mail those_then those_now proxies_then proxies_now
      → GoesOn mail those those_now proxies proxies_now
  goes_on_through those those_then those_now proxies proxies_then proxies_now first second = record {
    workers_long = second.workers_long ∙ first.workers_long;
    sessions_long = second.sessions_long ∙ first.sessions_long;
    gossip_keys = second.gossip_keys ∙ first.gossip_keys;
    ends = λ ends. second.ends (first.ends ends);
    running = λ script run. second.running script (first.running script run);
  }

  -- Of each worker and of each session the same is told, and the ends are kept.
  pub goes_on_so : (those those_now : List (workers.PlainWorker Q T O G)) (proxies proxies_now : List (sessions.PlainProxy S R))
      → map (worker_lists mail) those_now ≡ map (worker_lists mail) those
      → map (session_lists mail) proxies_now ≡ map (session_lists mail) proxies
      → map (λ (worker : workers.PlainWorker Q T O G). mail.gossip_rx.key worker.ends.gossip_in) those_now ≡ map (λ (worker : workers.PlainWorker Q T O G). mail.gossip_rx.key worker.ends.gossip_in) those
      → (HaveEnds mail those proxies
      → HaveEnds mail those_now proxies_now)
      → GoesOn mail those those_now proxies proxies_now
  goes_on_so those those_now proxies proxies_now same_workers same_sessions keys ends =
      let its_workers = worker_lists mail in
      let its_sessions = session_lists mail in
      let as_many = long_alike its_workers those those_now same_workers in
      let so_many = long_alike its_sessions proxies proxies_now same_sessions in
      record {
        workers_long = as_many;
        sessions_long = so_many;
        gossip_keys = keys;
        ends = ends;
        running = λ script run. record {
          table = run.table;
          valid = run.valid;
          as_many = as_many ∙ run.as_many;
          workers_are = λ place worker there.
              let was = also_there its_workers those those_now same_workers place worker there in
              worker_still mail.request_rx.received mail.reply_tx.sent mail.gossip_tx.sent mail.gossip_rx.got was.0 worker was.2 (run.workers_are place was.0 was.1);
          as_many_sessions = so_many ∙ run.as_many_sessions;
          sessions_are = λ place plan proxy plan_is there.
              let was = also_there its_sessions proxies proxies_now same_sessions place proxy there in
              session_still was.0 proxy was.2 (run.sessions_are place plan was.0 plan_is was.1);
          begins = λ place plan proxy plan_is there.
              let was = also_there its_sessions proxies proxies_now same_sessions place proxy there in
              let courses = sym (made_of_made its_sessions (λ its. its.course) proxies) ∙ sym (ap (map (λ its. its.course)) same_sessions) ∙ made_of_made its_sessions (λ its. its.course) proxies_now in
              subst (λ those. BeginsAs those plan.after proxy.course.origin) courses
              (subst (BeginsAs (courses_of proxies) plan.after) (ap (λ its. its.course.origin) was.2) (run.begins place plan was.0 plan_is was.1));
          ends = ends run.ends;
        };
      }
