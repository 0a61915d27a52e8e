-- Workers that go on, and go on again, and can be held beside each other still.
use Rattle.std.specs.Prelude.{◌≡◌, ℕ, ◌+◌, Bool, List, All, length, map, slice_get, Option, Some}
use Rattle.std.proofs.Common.{◌∙◌, refl, sym, ap, arith, inl, inr, subst}
use Rattle.std.proofs.lemmas.List.{get_or-map, length-map}
use Rattle.std.proofs.lemmas.List.Elements.{All-map}
use Rattle.std.proofs.lemmas.Option.{same_Some}
use Rattle.mail_contract.specs.Standing.{About, IsSettled}
use Rattle.store_msg.specs.Reply.{PlainReply}
use Rattle.store_msg.specs.declared.request.Request.{Request}
use Rattle.worker_core.specs.State.{Entries, PlainWorker, place_at}
use Rattle.party_turns.specs.Mates.{AreMates, HaveGoneOn, StandsOrIsShown}
use Rattle.party_turns.specs.Turning.{HasGoneOn}
use Rattle.party_turns.proofs.ItemsLemmas.{there_too}
use Rattle.party_turns.proofs.PairListsLemmas.{still_at}
use Rattle.party_turns.proofs.TurningLemmas.{gone_on_still, gone_on_through}

-- how a box stands to its senders may stay
pub stands_as_before : (workers me : ℕ) (about : ℕ → About Entries) → StandsOrIsShown workers me about about
stands_as_before workers me about = λ sender. inl (refl, refl)

-- and change again
pub stands_through : (workers me : ℕ) (before mid now : ℕ → About Entries) → StandsOrIsShown workers me before mid → StandsOrIsShown workers me mid now → StandsOrIsShown workers me before now
stands_through workers me before mid now first next = λ sender.
    elim (next sender) [
      | inl same ↦
          elim (first sender) [
            | inl as_before ↦ inl (same.0 ∙ as_before.0, same.1 ∙ as_before.1)
            | inr shown ↦ inr (shown.0, λ settled. shown.1 (subst IsSettled same.0 settled))
          ]
      | inr shown ↦ inr shown
    ]

module _ {Q T O G QK TK OK GK : Type 0} {request_key : Q → QK} {reply_key : T → TK} {reply_number : T → ℕ} {gossip_key : O → OK} {gossip_number : O → ℕ} {in_key : G → GK}
    {complete : Bool} {senders : QK → ℕ} {received : Q → List (ℕ × Request)} {about : Q → ℕ → About Request} {replied : T → List PlainReply}
    {all_told : Bool} {mates : GK → ℕ} {got : G → ℕ → ℕ → Option Entries} {about_mates : G → ℕ → About Entries} where
  pub all_stay : (workers : List (PlainWorker Q T O G))
      → HaveGoneOn request_key reply_key reply_number gossip_key gossip_number in_key complete senders received about replied all_told mates got about_mates workers workers
  all_stay workers = record {
    long = refl;
    gone_on = λ place was is was_there is_there.
        subst (HasGoneOn request_key reply_key reply_number gossip_key gossip_number in_key complete senders received about replied all_told mates got about_mates was)
        (same_Some was is (sym was_there ∙ is_there)) (gone_on_still was);
    gossip_stands = λ place was is was_there is_there.
        subst (λ (one : PlainWorker Q T O G). StandsOrIsShown (length workers) (place + 1) (about_mates was.ends.gossip_in) (about_mates one.ends.gossip_in))
        (same_Some was is (sym was_there ∙ is_there)) (stands_as_before (length workers) (place + 1) (about_mates was.ends.gossip_in));
  }

  pub all_through : (before mid now : List (PlainWorker Q T O G))
      → HaveGoneOn request_key reply_key reply_number gossip_key gossip_number in_key complete senders received about replied all_told mates got about_mates before mid
      → HaveGoneOn request_key reply_key reply_number gossip_key gossip_number in_key complete senders received about replied all_told mates got about_mates mid now
      → HaveGoneOn request_key reply_key reply_number gossip_key gossip_number in_key complete senders received about replied all_told mates got about_mates before now
  all_through before mid now first next = record {
    long = next.long ∙ first.long;
    gone_on = λ place was is was_there is_there.
        let at = there_too mid before place was (sym first.long) was_there in
        gone_on_through (first.gone_on place was at.0 was_there at.1) (next.gone_on place at.0 is at.1 is_there);
    gossip_stands = λ place was is was_there is_there.
        let at = there_too mid before place was (sym first.long) was_there in
        stands_through (length before) (place + 1) (about_mates was.ends.gossip_in) (about_mates at.0.ends.gossip_in) (about_mates is.ends.gossip_in)
        (first.gossip_stands place was at.0 was_there at.1)
        (subst (λ n. StandsOrIsShown n (place + 1) (about_mates at.0.ends.gossip_in) (about_mates is.ends.gossip_in)) first.long (next.gossip_stands place at.0 is at.1 is_there));
  }

-- lists of which the same is told are as long
pub as_many_items : {X Y : Type 0} (f : X → Y) (before now : List X) → map f now ≡ map f before → length now ≡ length before
as_many_items f before now same = sym (length-map now f) ∙ ap length same ∙ length-map before f

-- what holds of all that is told of the items holds of each
all_of_map : {X Y : Type 0} (f : X → Y) (Holds : Y → Type 0) (items : List X) → All Holds (map f items) → All (λ x. Holds (f x)) items
all_of_map f Holds items all = λ place any within.
    subst Holds (get_or-map f items place any (f any) within) (all place (f any) (let long = length-map items f in omega (arith, long, within)))

-- A sender that stood at a place, of the same key and number.
record WasSender {O OK : Type 0} (key : O → OK) (number : O → ℕ) (before : List O) (place : ℕ) (now : O) : Type 0 where
  sender : O
  there : slice_get before place ≡ Some sender
  key_is : key sender ≡ key now
  number_is : number sender ≡ number now

was_sender : {O OK : Type 0} (key : O → OK) (number : O → ℕ) (before now : List O) (place : ℕ) (sender : O) → map key now ≡ map key before → map number now ≡ map number before
    → slice_get now place ≡ Some sender → WasSender key number before place sender
was_sender key number before now place sender keys numbers there =
    let many : length before ≡ length now = sym (length-map before key) ∙ ap length (sym keys) ∙ length-map now key in
    let at = there_too before now place sender (sym many) there in record {
      sender = at.0;
      there = at.1;
      key_is = sym (still_at key before now place at.0 sender (ap (λ those. slice_get those place) keys) at.1 there);
      number_is = sym (still_at number before now place at.0 sender (ap (λ those. slice_get those place) numbers) at.1 there);
    }

-- What stays of a worker that can be held beside others: its number, and the keys and numbers of its ends of gossip.
pub record KeepsMates {Q T O G OK GK : Type 0} (gossip_key : O → OK) (gossip_number : O → ℕ) (in_key : G → GK) (before now : PlainWorker Q T O G) : Type 0 where
  pub me : now.state.me ≡ before.state.me
  pub keys : map gossip_key now.ends.gossip_out.items ≡ map gossip_key before.ends.gossip_out.items
  pub numbers : map gossip_number now.ends.gossip_out.items ≡ map gossip_number before.ends.gossip_out.items
  pub box_key : in_key now.ends.gossip_in ≡ in_key before.ends.gossip_in

-- workers of which that stays can be held beside each other still
pub mates_stay : {Q T O G OK GK : Type 0} {gossip_key : O → OK} {gossip_number : O → ℕ} {in_key : G → GK} {pairs : GK → OK → ℕ → Type 0}
    (before now : List (PlainWorker Q T O G)) → length now ≡ length before
    → ((place : ℕ) (was is : PlainWorker Q T O G) → slice_get before place ≡ Some was → slice_get now place ≡ Some is → KeepsMates gossip_key gossip_number in_key was is)
    → AreMates gossip_key gossip_number in_key pairs before → AreMates gossip_key gossip_number in_key pairs now
mates_stay {Q} {T} {O} {G} {OK} {GK} {gossip_key} {gossip_number} {in_key} {pairs} before now long keep are_mates = record {
  few = let few = are_mates.few in omega (arith, few, long);
  numbered = λ place is there. let was = there_too before now place is long there in (keep place was.0 is was.1 there).me ∙ are_mates.numbered place was.0 was.1;
  mates = λ place is there.
      let was = there_too before now place is long there in
      let as_many = ap length (keep place was.0 is was.1 there).numbers in
      let many = are_mates.mates place was.0 was.1 in
      omega (arith, many, as_many, long, length-map is.ends.gossip_out.items gossip_number, length-map was.0.ends.gossip_out.items gossip_number);
  numbers = λ place is there.
      let was = there_too before now place is long there in
      all_of_map gossip_number (λ n. n ≡ place + 1) is.ends.gossip_out.items
      (subst (All (λ n. n ≡ place + 1)) (sym (keep place was.0 is was.1 there).numbers)
      (All-map (λ n. n ≡ place + 1) gossip_number was.0.ends.gossip_out.items (are_mates.numbers place was.0 was.1)));
  paired = λ place other is its_is sender there its_there differs at.
      let was = there_too before now place is long there in
      let its_was = there_too before now other its_is long its_there in
      let keeps = keep place was.0 is was.1 there in
      let its_keeps = keep other its_was.0 its_is its_was.1 its_there in
      let old = was_sender gossip_key gossip_number was.0.ends.gossip_out.items is.ends.gossip_out.items (place_at (place + 1) (other + 1)) sender keeps.keys keeps.numbers at in
      subst (λ (all : GK × (OK × ℕ)). pairs all.0 all.1.0 all.1.1) (λ j. (sym its_keeps.box_key j, (old.key_is j, old.number_is j)))
      (are_mates.paired place other was.0 its_was.0 old.sender was.1 its_was.1 differs old.there);
}
