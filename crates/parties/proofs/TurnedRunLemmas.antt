-- A run of which workers took turns goes on.
use Rattle.std.specs.Prelude.{◌≡◌, ℕ, ◌+◌, List, length, slice_get, Some}
use Rattle.std.proofs.Common.{◌∙◌, ap, refl, subst, sym}
use Rattle.mail_contract.specs.Standing.{About, AllStand, IsSettled}
use Rattle.session_known.specs.declared.script.Script.{Script}
use Rattle.session_proxy.specs.State.{PlainProxy}
use Rattle.worker_core.specs.State.{PlainWorker}
use Rattle.party_turns.specs.Making.{IsOfScript}
use Rattle.party_turns.proofs.ItemsLemmas.{same_made, long_alike, there_too}
use Rattle.party_turns.specs.Running.{GoesOn, HaveEnds}
use Rattle.placement.specs.Config.{IsOneOf}
use Rattle.party_turns.specs.Mates.{IsMate}
use Rattle.parties.proofs.ChangedLemmas.{done_to_none}
use Rattle.parties.proofs.KeptLemmas.{KeepsSessionEnds, KeepsWorkerEnds, ends_kept, session_keeps}
use Rattle.parties.specs.Turning.{HasTurned}
use Rattle.parties.proofs.UnusedLemmas.{box_stays, weak_box_stays}
use Rattle.party_turns.specs.Ends.{Ends}

-- a sender that was not taken in is not, where the box stands to its senders as before
pub not_settled_yet : {M : Type 0} (about about_now : ℕ → About M) → AllStand about about_now → (sender : ℕ) → (IsSettled (about sender).standing → ⊥)
    → IsSettled (about_now sender).standing → ⊥
not_settled_yet about about_now stand sender not settled = not (subst (λ standing. IsSettled standing) (stand sender).0 settled)

-- a worker of a script that took turns is one still
worker_stays : {S T O Q G R SK TK OK QK GK RK : Type 0} (mail : Ends S T O Q G R SK TK OK QK GK RK)
    (script : Script) (table : List (List ℕ)) (place : ℕ) (was is : PlainWorker Q T O G)
    → HasTurned mail.request_rx mail.reply_tx mail.gossip_tx mail.gossip_rx was is
    → IsOfScript script table place was → IsOfScript script table place is
worker_stays mail script table place was is turned of_script =
    let gone_on = turned.gone_on in
    record {
      me = gone_on.fixed.me ∙ of_script.me;
      round = gone_on.fixed.round ∙ of_script.round;
      placement = gone_on.fixed.placement ∙ of_script.placement;
      kinds = gone_on.fixed.kinds ∙ of_script.kinds;
      sessions = long_alike mail.reply_tx.number was.ends.replies.items is.ends.replies.items gone_on.keys.replies_numbers ∙ of_script.sessions;
      mates = ap (λ n. n + 1) (long_alike mail.gossip_tx.number was.ends.gossip_out.items is.ends.gossip_out.items gone_on.keys.gossip_out_numbers) ∙ of_script.mates;
    }

-- and it keeps its ends
pub turned_keeps : {S T O Q G R SK TK OK QK GK RK : Type 0} {mail : Ends S T O Q G R SK TK OK QK GK RK} (many many_sessions place : ℕ) (was is : PlainWorker Q T O G)
    → HasTurned mail.request_rx mail.reply_tx mail.gossip_tx mail.gossip_rx was is
    → KeepsWorkerEnds mail
    many many_sessions place was is
turned_keeps {mail = mail} many many_sessions place was is turned = record {
  me = turned.gone_on.fixed.me;
  keys = turned.gone_on.keys;
  no_session = not_settled_yet (mail.request_rx.about was.ends.requests) (mail.request_rx.about is.ends.requests) turned.gone_on.stand;
  no_mate = not_settled_yet (mail.gossip_rx.about was.ends.gossip_in) (mail.gossip_rx.about is.ends.gossip_in) turned.gossip_stands;
  request_box =
      box_stays mail.request_rx.keeps.complete (IsOneOf many_sessions) (mail.request_rx.senders (mail.request_rx.key was.ends.requests)) (mail.request_rx.senders (mail.request_rx.key is.ends.requests))
      (mail.request_rx.received was.ends.requests) (mail.request_rx.received is.ends.requests) (mail.request_rx.about was.ends.requests) (mail.request_rx.about is.ends.requests)
      (ap mail.request_rx.senders turned.gone_on.keys.requests_key) turned.gone_on.in_range turned.gone_on.stand turned.gone_on.fronts;
  gossip_box =
      weak_box_stays mail.gossip_rx.keeps.complete (IsMate many (place + 1)) (mail.gossip_rx.senders (mail.gossip_rx.key was.ends.gossip_in)) (mail.gossip_rx.senders (mail.gossip_rx.key is.ends.gossip_in))
      (mail.gossip_rx.got was.ends.gossip_in) (mail.gossip_rx.got is.ends.gossip_in) (mail.gossip_rx.about was.ends.gossip_in) (mail.gossip_rx.about is.ends.gossip_in)
      (ap mail.gossip_rx.senders turned.gone_on.keys.gossip_in_key) turned.gone_on.got_in_range turned.gossip_stands turned.gone_on.of_sent;
}

module _ {S T O Q G R SK TK OK QK GK RK : Type 0} {mail : Ends S T O Q G R SK TK OK QK GK RK} (workers workers_now : List (PlainWorker Q T O G)) (sessions : List (PlainProxy S R)) (long : length workers_now ≡ length workers)
    (each : (place : ℕ) (was is : PlainWorker Q T O G) → slice_get workers place ≡ Some was → slice_get workers_now place ≡ Some is
    → HasTurned mail.request_rx mail.reply_tx mail.gossip_tx mail.gossip_rx was is) where
  -- and the run goes on
  pub turned_goes_on :
      GoesOn mail workers workers_now sessions sessions
  turned_goes_on = record {
    workers_long = long;
    sessions_long = refl;
    gossip_keys =
        let key_of = λ (worker : PlainWorker Q T O G). mail.gossip_rx.key worker.ends.gossip_in in
        same_made key_of key_of workers_now workers (sym long) (λ place is was also there. (each place was is there also).gone_on.keys.gossip_in_key);
    ends = ends_stay;
    running = λ script running. record {
      table = running.table;
      valid = running.valid;
      as_many = long ∙ running.as_many;
      workers_are = λ place is there.
          let was = there_too workers workers_now place is long there in
          worker_stays mail script running.table place was.0 is (each place was.0 is was.1 there) (running.workers_are place was.0 was.1);
      as_many_sessions = running.as_many_sessions;
      sessions_are = running.sessions_are;
      begins = running.begins;
      ends = ends_stay running.ends;
    };
  }
    where
      -- the ends of all stay such
      ends_stay : HaveEnds mail workers sessions
          → HaveEnds mail workers_now sessions
      ends_stay =
          ends_kept workers workers_now sessions sessions long refl
          (λ place was is there also. turned_keeps (length workers) (length sessions) place was is (each place was is there also))
          (done_to_none (λ at. KeepsSessionEnds mail) (λ at. session_keeps) sessions)
