-- A worker that goes on: one thing that nothing changes, and one step after another.
use Rattle.std.specs.Prelude.{ℕ, Bool, List, [], ◌++◌, map, Option}
use Rattle.std.proofs.Common.{refl, sym, ap, subst, ◌∙◌, append_assoc, arith, inl}
use Rattle.std.proofs.lemmas.List.{append-nil}
use Rattle.mail_contract.specs.Boxes.{MayHandOut, MayTake, box_of, weak_box_of}
use Rattle.mail_contract.specs.Parts.{Parts}
use Rattle.mail_contract.specs.Standing.{About, AllStand}
use Rattle.mail_contract.specs.Takes.{Answers}
use Rattle.mail_contract.proofs.StandsLemmas.{stands_through}
use Rattle.store_msg.specs.Reply.{PlainReply}
use Rattle.store_msg.specs.declared.request.Request.{Request}
use Rattle.worker_core.proofs.ServingLemmas.{none_back_still, none_back_through}
use Rattle.worker_core.specs.Serving.{NoneTakenBack}
use Rattle.worker_core.specs.State.{Entries, IsFixed, KeysStay, PlainWorker, State, dirty}
use Rattle.party_turns.specs.Turning.{AreGotInRange, AreInRange, HasGoneOn}
use Rattle.party_turns.proofs.HandedOutLemmas.{hand_out_keeps}
use Rattle.party_turns.specs.Stretch.{GoesOn}
use Rattle.party_turns.proofs.DueLemmas.{due_through}
use Rattle.party_turns.proofs.TurningBoxesLemmas.{take_keeps}
use Rattle.party_turns.proofs.TurningKeysLemmas.{owes_still, owes_through}

fixed_through : {before between now : State} → IsFixed before between → IsFixed between now → IsFixed before now
fixed_through first then = record {
  me = then.me ∙ first.me;
  round = then.round ∙ first.round;
  placement = then.placement ∙ first.placement;
  kinds = then.kinds ∙ first.kinds;
}

module _ {Q T O G QK TK OK GK : Type 0} {request_key : Q → QK} {reply_key : T → TK} {reply_number : T → ℕ}
    {gossip_key : O → OK} {gossip_number : O → ℕ} {in_key : G → GK} where
  keys_through : {before between now : PlainWorker Q T O G}
      → KeysStay request_key reply_key reply_number gossip_key gossip_number in_key before between
      → KeysStay request_key reply_key reply_number gossip_key gossip_number in_key between now
      → KeysStay request_key reply_key reply_number gossip_key gossip_number in_key before now
  keys_through first then = record {
    requests_key = then.requests_key ∙ first.requests_key;
    replies_keys = then.replies_keys ∙ first.replies_keys;
    replies_numbers = then.replies_numbers ∙ first.replies_numbers;
    gossip_out_keys = then.gossip_out_keys ∙ first.gossip_out_keys;
    gossip_out_numbers = then.gossip_out_numbers ∙ first.gossip_out_numbers;
    gossip_in_key = then.gossip_in_key ∙ first.gossip_in_key;
  }

  module _ {complete : Bool} {senders : QK → ℕ} {received : Q → List (ℕ × Request)} {about : Q → ℕ → About Request} {replied : T → List PlainReply}
      {all_told : Bool} {mates : GK → ℕ} {got : G → ℕ → ℕ → Option Entries} {about_mates : G → ℕ → About Entries} where
    -- a worker that nothing changed has gone on
    pub gone_on_still : (worker : PlainWorker Q T O G)
        → HasGoneOn request_key reply_key reply_number gossip_key gossip_number in_key complete senders received about replied all_told mates got about_mates worker worker
    gone_on_still worker = record {
      fixed = record { me = refl; round = refl; placement = refl; kinds = refl };
      keys = record { requests_key = refl; replies_keys = refl; replies_numbers = refl; gossip_out_keys = refl; gossip_out_numbers = refl; gossip_in_key = refl };
      replied_more = none_back_still (map replied worker.ends.replies.items);
      more = [];
      received_is = sym (append-nil (received worker.ends.requests));
      in_range = λ are. are;
      stand = λ sender. (refl, refl);
      fronts = λ sender is. is;
      got_more = λ sender place batch is. is;
      got_in_range = λ are. are;
      of_sent = λ sender is. is;
    }

    -- what it kept in one step and in the next it kept in both
    pub gone_on_through : {before between now : PlainWorker Q T O G}
        → HasGoneOn request_key reply_key reply_number gossip_key gossip_number in_key complete senders received about replied all_told mates got about_mates before between
        → HasGoneOn request_key reply_key reply_number gossip_key gossip_number in_key complete senders received about replied all_told mates got about_mates between now
        → HasGoneOn request_key reply_key reply_number gossip_key gossip_number in_key complete senders received about replied all_told mates got about_mates before now
    gone_on_through {before} {between} {now} first then = record {
      fixed = fixed_through first.fixed then.fixed;
      keys = keys_through first.keys then.keys;
      replied_more =
          none_back_through (map replied before.ends.replies.items) (map replied between.ends.replies.items) (map replied now.ends.replies.items) first.replied_more
          then.replied_more;
      more = first.more ++ then.more;
      received_is = then.received_is ∙ ap (λ those. those ++ then.more) first.received_is ∙ append_assoc (received before.ends.requests) first.more then.more;
      in_range = λ are. then.in_range (first.in_range are);
      stand = stands_through (about before.ends.requests) (about between.ends.requests) (about now.ends.requests) first.stand then.stand;
      fronts = λ sender is. then.fronts sender (first.fronts sender is);
      got_more = λ sender place batch is. then.got_more sender place batch (first.got_more sender place batch is);
      got_in_range = λ are. then.got_in_range (first.got_in_range are);
      of_sent = λ sender is. then.of_sent sender (first.of_sent sender is);
    }

    module _ {told : O → List Entries} {due : G → ℕ → Bool} where
      pub goes_on_still : (worker : PlainWorker Q T O G)
          → GoesOn request_key reply_key reply_number gossip_key gossip_number in_key complete senders received about replied told all_told mates got about_mates due worker worker
      goes_on_still worker = record {
        gone_on = gone_on_still worker;
        gossip_stand = λ sender. (refl, refl);
        left = omega arith;
        to_serve = omega arith;
        owes = λ none. owes_still (map told worker.ends.gossip_out.items) (map told worker.ends.gossip_out.items) (dirty worker.state) (dirty worker.state) refl refl;
        stay_due = λ sender is. inl is;
      }

      pub goes_on_through : {before between now : PlainWorker Q T O G}
          → GoesOn request_key reply_key reply_number gossip_key gossip_number in_key complete senders received about replied told all_told mates got about_mates due before between
          → GoesOn request_key reply_key reply_number gossip_key gossip_number in_key complete senders received about replied told all_told mates got about_mates due between now
          → GoesOn request_key reply_key reply_number gossip_key gossip_number in_key complete senders received about replied told all_told mates got about_mates due before now
      goes_on_through {before} {between} {now} first then = record {
        gone_on = gone_on_through first.gone_on then.gone_on;
        gossip_stand =
            stands_through (about_mates before.ends.gossip_in) (about_mates between.ends.gossip_in) (about_mates now.ends.gossip_in)
            first.gossip_stand then.gossip_stand;
        left = omega (arith, first.left, then.left);
        to_serve = omega (arith, first.to_serve, then.to_serve);
        owes = λ none. owes_through (first.owes none) (then.owes (omega (arith, none, first.left)));
        stay_due =
            due_through (got before.ends.gossip_in) (got between.ends.gossip_in) (got now.ends.gossip_in) (about_mates before.ends.gossip_in) (about_mates between.ends.gossip_in)
            (due before.ends.gossip_in) (due between.ends.gossip_in) (due now.ends.gossip_in) first.gossip_stand first.gone_on.got_more then.gone_on.got_more first.stay_due then.stay_due;
      }

  -- What one turn tells is enough; and how its box of gossip stands to the mates stays too.
  pub gone_on_once : {senders : QK → ℕ} {received : Q → List (ℕ × Request)} {about : Q → ℕ → About Request} {replied : T → List PlainReply}
      {mates : GK → ℕ} {got : G → ℕ → ℕ → Option Entries} {about_mates : G → ℕ → About Entries}
      {keeps mates_keep : Parts} (answers : Q → Answers) (gossip_answers : G → Answers) (due : G → ℕ → Bool) (most : G → ℕ) (was is : PlainWorker Q T O G)
      → IsFixed was.state is.state → KeysStay request_key reply_key reply_number gossip_key gossip_number in_key was is
      → NoneTakenBack (map replied was.ends.replies.items) (map replied is.ends.replies.items)
      → MayTake keeps (senders (request_key was.ends.requests)) (box_of received answers about was.ends.requests) (box_of received answers about is.ends.requests)
      → MayHandOut mates_keep (mates (in_key was.ends.gossip_in)) (weak_box_of got gossip_answers about_mates due most was.ends.gossip_in)
      (weak_box_of got gossip_answers about_mates due most is.ends.gossip_in)
      → HasGoneOn request_key reply_key reply_number gossip_key gossip_number in_key keeps.complete senders received about replied mates_keep.complete mates got about_mates was is
      × AllStand (about_mates was.ends.gossip_in) (about_mates is.ends.gossip_in)
  gone_on_once {senders} {received} {about} {replied} {mates} {got} {about_mates} {keeps} {mates_keep} answers gossip_answers due most was is fixed keys replied_more takes hands_out =
      let took = take_keeps keeps (senders (request_key was.ends.requests)) (box_of received answers about was.ends.requests) (box_of received answers about is.ends.requests) takes in
      let handed = hand_out_keeps mates_keep (mates (in_key was.ends.gossip_in)) (weak_box_of got gossip_answers about_mates due most was.ends.gossip_in)
      (weak_box_of got gossip_answers about_mates due most is.ends.gossip_in) hands_out
      in (
        record {
          fixed = fixed;
          keys = keys;
          replied_more = replied_more;
          more = took.more;
          received_is = took.received_is;
          in_range = λ are. subst (λ key. AreInRange (senders key) (received is.ends.requests)) (sym keys.requests_key) (took.in_range are);
          stand = took.stand;
          fronts = took.fronts;
          got_more = handed.got_more;
          got_in_range = λ are. subst (λ key. AreGotInRange (mates key) (got is.ends.gossip_in)) (sym keys.gossip_in_key) (handed.got_in_range are);
          of_sent = handed.of_sent;
        },
        handed.stand,
      )
