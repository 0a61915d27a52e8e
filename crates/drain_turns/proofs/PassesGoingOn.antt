-- Workers that were ready are ready once they have gone on, and those that found places find them.
use Rattle.std.specs.Prelude.{◌≡◌, ℕ, ◌+◌, ◌-◌, Bool, IsTrue, List, [], flat_map, length, slice_get, Option, Some}
use Rattle.std.proofs.Common.{sym, ap, arith, inl, inr, subst}
use Rattle.mail_contract.proofs.FrontLemmas.{front_short}
use Rattle.mail_contract.specs.Parts.{Parts}
use Rattle.mail_contract.specs.Standing.{About}
use Rattle.placement.specs.Config.{IsOneOf}
use Rattle.store_msg.specs.Reply.{PlainReply}
use Rattle.store_msg.specs.declared.request.Request.{Request}
use Rattle.worker_core.specs.Share.{asked_by}
use Rattle.worker_core.specs.State.{Entries, PlainWorker}
use Rattle.party_turns.specs.Mates.{HaveGoneOn, IsMate}
use Rattle.drain_turns.specs.Ready.{AreReady, FindPlaces}
use Rattle.party_turns.specs.Turning.{AreKnown, known_sent}
use Rattle.party_turns.proofs.ItemsLemmas.{there_too}
use Rattle.party_turns.proofs.TurningBoxesLemmas.{known_stays}
use Rattle.party_turns.proofs.GoingOnLemmas.{as_many_items, mates_stay}

module _ {Q T O G QK TK OK GK : Type 0} {request_key : Q → QK} {reply_key : T → TK} {reply_number : T → ℕ} {gossip_key : O → OK} {gossip_number : O → ℕ} {in_key : G → GK}
    {complete : Bool} {senders : QK → ℕ} {received : Q → List (ℕ × Request)} {about : Q → ℕ → About Request} {replied : T → List PlainReply}
    {all_told : Bool} {mates : GK → ℕ} {got : G → ℕ → ℕ → Option Entries} {about_mates : G → ℕ → About Entries} (before now : List (PlainWorker Q T O G))
    (goes_on : HaveGoneOn request_key reply_key reply_number gossip_key gossip_number in_key complete senders received about replied all_told mates got about_mates before now) where
  -- who stood at a place before
  who_was : (place : ℕ) (is : PlainWorker Q T O G) → slice_get now place ≡ Some is → (was : PlainWorker Q T O G) × (slice_get before place ≡ Some was)
  who_was place is there = there_too before now place is goes_on.long there

  -- workers that were ready are ready
  pub ready_stays : {pairs : GK → OK → ℕ → Type 0}
      → AreReady complete (λ its. senders (request_key its)) received about gossip_key gossip_number in_key pairs mates about_mates before
      → AreReady complete (λ its. senders (request_key its)) received about gossip_key gossip_number in_key pairs mates about_mates now
  ready_stays ready = record {
    are_mates = mates_stay before now goes_on.long (λ place was is there also.
        let goes = goes_on.gone_on place was is there also in
        record { me = goes.fixed.me; keys = goes.keys.gossip_out_keys; numbers = goes.keys.gossip_out_numbers; box_key = goes.keys.gossip_in_key }) ready.are_mates;
    known = λ place is there.
        let was = who_was place is there in
        let goes = goes_on.gone_on place was.0 is was.1 there in
        subst (λ key. AreKnown complete (senders key) (received is.ends.requests) (about is.ends.requests)) (sym goes.keys.requests_key)
        (known_stays complete (senders (request_key was.0.ends.requests)) (received was.0.ends.requests) (received is.ends.requests) (about was.0.ends.requests) (about is.ends.requests)
        goes.stand goes.fronts (ready.known place was.0 was.1));
    met = λ place is there sender one_of.
        let was = who_was place is there in
        let same_key = (goes_on.gone_on place was.0 is was.1 there).keys.gossip_in_key in
        elim (goes_on.gossip_stands place was.0 is was.1 there sender) [
          | inl same ↦
              elim (ready.met place was.0 was.1 sender (subst (λ key. IsOneOf (mates key) sender) same_key one_of)) [
                | inl mate ↦ inl (subst (λ n. IsMate n (place + 1) sender) (sym goes_on.long) mate)
                | inr met ↦ inr (subst IsTrue (sym same.1) met)
              ]
          | inr shown ↦ inl (subst (λ n. IsMate n (place + 1) sender) (sym goes_on.long) shown.0)
        ];
  }

  -- and workers that found places find them
  pub places_stay : {keeps : Parts} → FindPlaces keeps about replied (λ its. senders (request_key its)) before → FindPlaces keeps about replied (λ its. senders (request_key its)) now
  places_stay finds = record {
    frees = finds.frees;
    replied = λ place is there session one_of.
        let was = who_was place is there in
        let goes = goes_on.gone_on place was.0 is was.1 there in
        let enough = finds.replied place was.0 was.1 session (subst (λ n. IsOneOf n session) (as_many_items reply_key was.0.ends.replies.items is.ends.replies.items goes.keys.replies_keys) one_of) in
        let more = front_short _ _ (goes.replied_more (session - 1)) in
        let same = ap (λ those. length (flat_map (asked_by []) (known_sent those))) (goes.stand session).0 in
        omega (arith, enough, more, same);
    senders_are = λ place is there session one_of.
        let was = who_was place is there in
        let keys = (goes_on.gone_on place was.0 is was.1 there).keys in
        subst (λ key. IsOneOf (senders key) session) (sym keys.requests_key)
        (finds.senders_are place was.0 was.1 session (subst (λ n. IsOneOf n session) (as_many_items reply_key was.0.ends.replies.items is.ends.replies.items keys.replies_keys) one_of));
  }
