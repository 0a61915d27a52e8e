-- A worker that was shown to its mates is turned.
use Rattle.std.specs.Prelude.{◌≡◌, ◌≢◌, ◌⊎◌, ℕ, ◌+◌, ◌-◌, ◌≤◌, Bool, IsTrue, List, [], length, option_map, slice_get, slice_set, unwrap_or, Option, Some, None}
use Rattle.std.proofs.Common.{◌∙◌, refl, sym, ap, arith, inl, inr, subst}
use Rattle.std.proofs.lemmas.Bool.{cases_eq}
use Rattle.std.proofs.lemmas.List.{length-set}
use Rattle.std.proofs.lemmas.Option.{same_Some, slice_get_within}
use Rattle.mail_contract.specs.Got.{missing}
use Rattle.mail_contract.specs.Parts.{Parts}
use Rattle.mail_contract.specs.Standing.{About, AllStand, AreMet, OnShown}
use Rattle.mail_contract.proofs.PostsLemmas.{stays_elsewhere}
use Rattle.store_msg.specs.Reply.{PlainReply}
use Rattle.store_msg.specs.declared.request.Request.{Request}
use Rattle.worker_core.specs.State.{Entries, PlainWorker, place_at}
use Rattle.drain_turns.specs.Ready.{AreReady, FreesPlaces, Hears, MatesMiss, heard_of, missing_to}
use Rattle.party_turns.specs.Mates.{HaveGoneOn, Knows, StandsOrIsShown, Steady, steady_of, told_at}
use Rattle.party_turns.specs.Turning.{HasGoneOn, HearsDue, SomeBack}
use Rattle.party_turns.proofs.ItemsLemmas.{there_is}
use Rattle.party_turns.proofs.PlacesLemmas.{now_there}
use Rattle.party_turns.proofs.PairPlacesLemmas.{mate_there}
use Rattle.party_turns.proofs.GoingOnLemmas.{all_stay}

module _ {Q T O G QK TK OK GK : Type 0} {request_key : Q → QK} {reply_key : T → TK} {reply_number : T → ℕ} {gossip_key : O → OK} {gossip_number : O → ℕ} {in_key : G → GK}
    {complete : Bool} {senders : QK → ℕ} {received : Q → List (ℕ × Request)} {about : Q → ℕ → About Request} {replied : T → List PlainReply}
    {all_told : Bool} {mates : GK → ℕ} {got : G → ℕ → ℕ → Option Entries} {about_mates : G → ℕ → About Entries} (workers : List (PlainWorker Q T O G)) (place : ℕ) (was is : PlainWorker Q T O G) where
  -- where one worker goes on, all go on
  pub one_goes_on : slice_get workers place ≡ Some was
      → HasGoneOn request_key reply_key reply_number gossip_key gossip_number in_key complete senders received about replied all_told mates got about_mates was is
      → AllStand (about_mates was.ends.gossip_in) (about_mates is.ends.gossip_in)
      → HaveGoneOn request_key reply_key reply_number gossip_key gossip_number in_key complete senders received about replied all_told mates got about_mates workers (slice_set workers place is)
  one_goes_on there goes stand =
      let is_here : slice_get (slice_set workers place is) place ≡ Some is = now_there workers place is (slice_get_within workers place was there) in
      record {
        long = length-set workers place is;
        gone_on = λ at before now before_there now_is.
            elim (cases_eq at place) [
              | inl here ↦
                  let before_is : was ≡ before = same_Some was before (sym there ∙ ap (slice_get workers) (sym here) ∙ before_there) in
                  let now_same : is ≡ now = same_Some is now (sym is_here ∙ ap (slice_get (slice_set workers place is)) (sym here) ∙ now_is) in
                  subst (λ (both : PlainWorker Q T O G × PlainWorker Q T O G).
                  HasGoneOn request_key reply_key reply_number gossip_key gossip_number in_key complete senders received about replied all_told mates got about_mates both.0 both.1)
                  (λ j. (before_is j, now_same j)) goes
              | inr apart ↦ (all_stay workers).gone_on at before now before_there (sym (stays_elsewhere workers place at is apart) ∙ now_is)
            ];
        gossip_stands = λ at before now before_there now_is.
            elim (cases_eq at place) [
              | inl here ↦
                  let before_is : was ≡ before = same_Some was before (sym there ∙ ap (slice_get workers) (sym here) ∙ before_there) in
                  let now_same : is ≡ now = same_Some is now (sym is_here ∙ ap (slice_get (slice_set workers place is)) (sym here) ∙ now_is) in
                  subst (λ (both : PlainWorker Q T O G × PlainWorker Q T O G). StandsOrIsShown (length workers) (at + 1) (about_mates both.0.ends.gossip_in) (about_mates both.1.ends.gossip_in))
                  (λ j. (before_is j, now_same j)) (λ sender. inl (stand sender))
              | inr apart ↦ λ sender. inl (
                  let same : before ≡ now = same_Some before now (sym before_there ∙ sym (stays_elsewhere workers place at is apart) ∙ now_is) in (
                    ap (λ (one : PlainWorker Q T O G). (about_mates one.ends.gossip_in sender).standing) (sym same),
                    ap (λ (one : PlainWorker Q T O G). (about_mates one.ends.gossip_in sender).met) (sym same),
                  )
                  )
            ];
      }

-- of each mate it is known how many batches are left, and so of each sender
pub all_met : {Q T O G OK GK : Type 0} {complete : Bool} {senders : Q → ℕ} {received : Q → List (ℕ × Request)} {about : Q → ℕ → About Request} {out_key : O → OK} {number : O → ℕ} {in_key : G → GK}
    {pairs : GK → OK → ℕ → Type 0} {in_senders : GK → ℕ} {in_about : G → ℕ → About Entries} {clear : O → Type 0} {unseen : O → ℕ} {told : O → List Entries} {keeps : Parts} {due : G → ℕ → Bool}
    (workers : List (PlainWorker Q T O G)) (steady : List (Steady Q T OK GK)) (place : ℕ) (worker : PlainWorker Q T O G)
    → AreReady complete senders received about out_key number in_key pairs in_senders in_about workers → length steady ≡ length workers → slice_get workers place ≡ Some worker
    → ((other : ℕ) (mate : Steady Q T OK GK) → other ≢ place → slice_get steady other ≡ Some mate → Knows clear unseen told keeps in_about due place other worker mate)
    → AreMet (in_senders (in_key worker.ends.gossip_in)) (in_about worker.ends.gossip_in)
all_met {in_about = in_about} workers steady place worker ready long there knows = λ sender some few.
    elim (ready.met place worker there sender (some, few)) [
      | inl mate ↦
          let one : 1 ≤ sender = mate.0.0 in
          let last : sender ≤ length workers = mate.0.1 in
          let is : sender - 1 + 1 ≡ sender = omega (arith, one) in
          let its = there_is steady (sender - 1) (omega (arith, one, last, long)) in
          subst (λ n. IsTrue (in_about worker.ends.gossip_in n).met) is (knows (sender - 1) its.0 (λ same. mate.1 (omega (arith, is, same))) its.1).met
      | inr met ↦ met
    ]

-- how many batches are missing of those that one worker told another, where both are there
pub missing_is : {Q T OK GK : Type 0} (workers : List (Steady Q T OK GK)) (teller hearer : ℕ) (tells hears : Steady Q T OK GK) → slice_get workers teller ≡ Some tells → slice_get workers hearer ≡ Some hears
    → missing_to workers teller hearer ≡ missing (hears.got (teller + 1)) (told_at tells.told teller hearer)
missing_is workers teller hearer tells hears there its_there =
    λ j. missing (unwrap_or (option_map (λ worker. worker.got (teller + 1)) (its_there j)) (λ place. None)) (told_at (unwrap_or (option_map (λ worker. worker.told) (there j)) []) teller hearer)

-- and none where there is no teller
pub none_missing_of : {Q T OK GK : Type 0} (workers : List (Steady Q T OK GK)) (teller hearer : ℕ) → slice_get workers teller ≡ None → missing_to workers teller hearer ≡ 0
none_missing_of workers teller hearer none =
    λ j. missing (heard_of workers hearer teller) (told_at (unwrap_or (option_map (λ worker. worker.told) (none j)) []) teller hearer)

module _ {Q T O G OK GK : Type 0} {clear : O → Type 0} {unseen : O → ℕ} {told : O → List Entries} {keeps : Parts} {about : G → ℕ → About Entries} {due : G → ℕ → Bool}
    (out_key : O → OK) (number : O → ℕ) (in_key : G → GK) (got : G → ℕ → ℕ → Option Entries) (steady : List (Steady Q T OK GK)) (place : ℕ) (was is : PlainWorker Q T O G)
    (frees : FreesPlaces keeps) (there : slice_get steady place ≡ Some (steady_of out_key number told in_key got was))
    (knows : (other : ℕ) (mate : Steady Q T OK GK) → other ≢ place → slice_get steady other ≡ Some mate → Knows clear unseen told keeps about due place other was mate) where
  abbrev steady_now : List (Steady Q T OK GK)
  steady_now = slice_set steady place (steady_of out_key number told in_key got is)

  -- where each that was due was heard, the worker has heard each of its mates
  pub hears_mates : HearsDue (got was.ends.gossip_in) (got is.ends.gossip_in) (about was.ends.gossip_in) (due was.ends.gossip_in) → (other : ℕ) → other ≢ place
      → Hears other place steady steady_now
  hears_mates heard other differs = by_teller (slice_get steady other) refl
    where
      there_now : slice_get steady_now place ≡ Some (steady_of out_key number told in_key got is)
      there_now = now_there steady place (steady_of out_key number told in_key got is) (slice_get_within steady place (steady_of out_key number told in_key got was) there)

      stays : slice_get steady_now other ≡ slice_get steady other
      stays = stays_elsewhere steady place other (steady_of out_key number told in_key got is) differs

      by_teller : (teller : Option (Steady Q T OK GK)) → slice_get steady other ≡ teller → Hears other place steady steady_now
      by_teller None none = inl (none_missing_of steady_now other place (stays ∙ none))
      by_teller (Some tells) its_there =
          let known = knows other tells differs its_there in
          let sent = told_at tells.told other place in
          let fell = subst (λ standing. OnShown standing (λ sent. (missing (got is.ends.gossip_in (other + 1)) sent ≡ 0) ⊎ (missing (got is.ends.gossip_in (other + 1)) sent + 1 ≤ missing (got was.ends.gossip_in (other + 1)) sent)))
          (known.shown frees.shows) (heard (other + 1) known.is_due)
          in
          let before = missing_is steady other place tells (steady_of out_key number told in_key got was) its_there there in
          let now = missing_is steady_now other place tells (steady_of out_key number told in_key got is) (stays ∙ its_there) there_now in
          elim fell [ inl none ↦ inl (now ∙ none) | inr fewer ↦ inr (omega (arith, before, now, fewer)) ]

  -- where a batch came back from a mate, that one misses some
  pub some_missing : {roomy : Bool} (workers : ℕ) → length steady ≡ workers → length was.ends.gossip_out.items + 1 ≡ workers → SomeBack clear roomy unseen was.ends.gossip_out.items
      → MatesMiss place steady
  some_missing workers long mates (at, tries, within, room) =
      let its = mate_there workers place at (omega (arith, mates, within)) in
      let mate = there_is steady its.other (let few = its.within in omega (arith, few, long)) in
      let sender = there_is was.ends.gossip_out.items at (omega (arith, within)) in
      let known = knows its.other mate.0 its.differs mate.1 in
      let sender_there : slice_get was.ends.gossip_out.items (place_at (place + 1) (its.other + 1)) ≡ Some sender.0 = ap (slice_get was.ends.gossip_out.items) its.is ∙ sender.1 in
      let is = missing_is steady place its.other (steady_of out_key number told in_key got was) mate.0 there mate.1 in
      elim (cases_eq (missing_to steady place its.other) 0) [
        | inl none ↦ absurd ((room sender.0 sender.1).first refl ((known.room sender.0 sender_there).freed frees.freed (sym is ∙ none)))
        | inr some ↦ (its.other, (let few = its.within in omega (arith, few, long)), its.differs, omega (arith, some))
      ]
