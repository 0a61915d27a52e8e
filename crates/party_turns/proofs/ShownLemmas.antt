-- A worker that is held beside its mates goes on, and knows more of them.
use Rattle.std.specs.Prelude.{◌≡◌, ◌≢◌, ℕ, ◌+◌, ◌<◌, Bool, true, false, IsTrue, List, [], length, map, option_map, slice_get, Option, Some}
use Rattle.std.proofs.Common.{◌∙◌, refl, sym, ap, append-nil, arith, inl, inr, subst}
use Rattle.std.proofs.lemmas.Bool.{cases_Bool, cases_eq}
use Rattle.std.proofs.lemmas.List.{length-map}
use Rattle.std.proofs.lemmas.Option.{same_Some, slice_get-map}
use Rattle.mail_contract.specs.Got.{AreIn, IsOfSent}
use Rattle.mail_contract.specs.Parts.{Parts}
use Rattle.mail_contract.specs.Standing.{About, IsSettled, OfSent, Shown}
use Rattle.mail_contract.specs.Takes.{IsFrontOfSent}
use Rattle.store_msg.specs.Reply.{PlainReply}
use Rattle.store_msg.specs.declared.request.Request.{Request}
use Rattle.worker_core.proofs.ServingLemmas.{none_back_same}
use Rattle.worker_core.specs.Room.{LearnsRoom, LearnsRoomAt}
use Rattle.worker_core.specs.State.{Entries, PlainWorker, place_at}
use Rattle.party_turns.specs.Mates.{AreShown, HaveGoneOn, Knows, Sees, StandsOrIsShown, Steady, steady_of, told_at}
use Rattle.party_turns.specs.Turning.{AreGotInRange, AreInRange, HasGoneOn}
use Rattle.party_turns.proofs.ItemsLemmas.{there_is}
use Rattle.party_turns.proofs.PairListsLemmas.{still_at}
use Rattle.party_turns.proofs.PairPlacesLemmas.{same_place}
use Rattle.party_turns.proofs.GoingOnLemmas.{all_stay}

-- what a shown sender had sent is told of where the box is complete
of_shown : {M : Type 0} (complete : Bool) (sent : List M) (Holds : List M → Type 0) → (IsTrue complete → Holds sent) → OfSent complete (Shown sent) Holds
of_shown true sent Holds holds = holds refl
of_shown false sent Holds holds = tt

module _ {Q T O G : Type 0} {clear : O → Type 0} {unseen : O → ℕ} {told : O → List Entries} {keeps : Parts} {got : G → ℕ → ℕ → Option Entries} {about_mates : G → ℕ → About Entries} {due : G → ℕ → Bool}
    (place other : ℕ) (was now mate : PlainWorker Q T O G) (differs : other ≢ place) (sees : Sees clear unseen told keeps got about_mates due place other was now mate) where
  -- its box stands to its other senders as before
  pub seen_stands : (workers : ℕ) → other < workers → StandsOrIsShown workers (place + 1) (about_mates was.ends.gossip_in) (about_mates now.ends.gossip_in)
  seen_stands workers within = λ sender.
      elim (cases_eq sender (other + 1)) [
        | inl here ↦
            elim (cases_Bool keeps.shows) [
              | inl shows ↦
                  let standing : (about_mates now.ends.gossip_in sender).standing ≡ Shown (told_at (map told mate.ends.gossip_out.items) other place) =
                  ap (λ n. (about_mates now.ends.gossip_in n).standing) here ∙ sees.learned.shown shows in
                  inr (((omega (arith, here), omega (arith, here, within)), λ same. differs (omega (arith, here, same))), λ settled. subst IsSettled standing settled)
              | inr not ↦ let same = sees.learned.still not in inl (ap (λ about. (about sender).standing) same, ap (λ about. (about sender).met) same)
            ]
        | inr apart ↦ let same = sees.learned.others sender apart in inl (ap (λ its. its.standing) same, ap (λ its. its.met) same)
      ]

module _ {Q T O G OK GK : Type 0} {clear : O → Type 0} {unseen : O → ℕ} {told : O → List Entries} {keeps : Parts} {got : G → ℕ → ℕ → Option Entries} {about_mates : G → ℕ → About Entries} {due : G → ℕ → Bool}
    (out_key : O → OK) (number : O → ℕ) (in_key : G → GK) (place other : ℕ) (was now mate : PlainWorker Q T O G) (differs : other ≢ place)
    (sees : Sees clear unseen told keeps got about_mates due place other was now mate)
    (steady : steady_of out_key number told in_key got now ≡ steady_of out_key number told in_key got was) where
  -- what went through its ends stays, and what was handed out was sent
  pub seen_goes_on : {QK TK : Type 0} {request_key : Q → QK} {reply_key : T → TK} {reply_number : T → ℕ} {complete : Bool} {senders : QK → ℕ} {received : Q → List (ℕ × Request)}
      {about : Q → ℕ → About Request} {replied : T → List PlainReply} {mates : GK → ℕ}
      → HasGoneOn request_key reply_key reply_number out_key number in_key complete senders received about replied keeps.complete mates got about_mates was now
  seen_goes_on {QK} {TK} {request_key} {reply_key} {reply_number} {complete} {senders} {received} {about} {replied} {mates} =
      let requests : now.ends.requests ≡ was.ends.requests = ap (λ its. its.requests) steady in
      let replies : now.ends.replies.items ≡ was.ends.replies.items = ap (λ its. its.replies) steady in
      let keys : in_key now.ends.gossip_in ≡ in_key was.ends.gossip_in = ap (λ its. its.in_key) steady in
      let gots : got now.ends.gossip_in ≡ got was.ends.gossip_in = ap (λ its. its.got) steady in
      record {
        fixed = record {
          me = ap (λ its. its.state.me) steady;
          round = ap (λ its. its.state.round) steady;
          placement = ap (λ its. its.state.placement) steady;
          kinds = ap (λ its. its.state.kinds) steady;
        };
        keys = record {
          requests_key = ap request_key requests;
          replies_keys = ap (map reply_key) replies;
          replies_numbers = ap (map reply_number) replies;
          gossip_out_keys = ap (λ its. its.out_keys) steady;
          gossip_out_numbers = ap (λ its. its.numbers) steady;
          gossip_in_key = keys;
        };
        replied_more = none_back_same (ap (map replied) replies);
        more = [];
        received_is = ap received requests ∙ sym (append-nil (received was.ends.requests));
        in_range =
            subst (λ box. AreInRange (senders (request_key was.ends.requests)) (received was.ends.requests) → AreInRange (senders (request_key box)) (received box)) (sym requests)
            (λ range. range);
        stand = λ sender. (ap (λ box. (about box sender).standing) requests, ap (λ box. (about box sender).met) requests);
        fronts = λ sender.
            subst (λ box. IsFrontOfSent complete (received was.ends.requests) (about was.ends.requests) sender → IsFrontOfSent complete (received box) (about box) sender) (sym requests)
            (λ front. front);
        got_more = λ sender at batch is. ap (λ those. those sender at) gots ∙ is;
        got_in_range =
            subst (λ (both : GK × (ℕ → ℕ → Option Entries)). AreGotInRange (mates (in_key was.ends.gossip_in)) (got was.ends.gossip_in) → AreGotInRange (mates both.0) both.1)
            (λ j. (sym keys j, sym gots j)) (λ range. range);
        of_sent = λ sender is.
            elim (cases_eq sender (other + 1)) [
              | inl here ↦
                  elim (cases_Bool keeps.shows) [
                    | inl shows ↦
                        let standing = sees.learned.shown shows in
                        subst (λ n. IsOfSent keeps.complete (got now.ends.gossip_in) (about_mates now.ends.gossip_in) n) (sym here)
                        (subst (λ its. OfSent keeps.complete its (AreIn (got now.ends.gossip_in (other + 1)))) (sym standing)
                        (of_shown keeps.complete (told_at (map told mate.ends.gossip_out.items) other place) (AreIn (got now.ends.gossip_in (other + 1)))
                        (λ all. subst (λ those. AreIn (those (other + 1)) (told_at (map told mate.ends.gossip_out.items) other place)) (sym gots) (sees.were_sent all))))
                    | inr not ↦
                        subst (λ (both : (ℕ → ℕ → Option Entries) × (ℕ → About Entries)). IsOfSent keeps.complete both.0 both.1 sender) (λ j. (sym gots j, sym (sees.learned.still not) j)) is
                  ]
              | inr apart ↦
                  subst (λ (both : (ℕ → ℕ → Option Entries) × About Entries). OfSent keeps.complete both.1.standing (AreIn (both.0 sender)))
                  (λ j. (sym gots j, sym (sees.learned.others sender apart) j)) is
            ];
      }

  -- it knows of the mate
  pub knows_mate : Knows clear unseen told keeps about_mates due place other now (steady_of out_key number told in_key got mate)
  knows_mate = record {
    shown = sees.learned.shown;
    met = sees.learned.met;
    is_due = sees.is_due;
    room = subst (λ those. LearnsRoomAt clear unseen now.ends.gossip_out.items (place_at (place + 1) (other + 1)) keeps (got mate.ends.gossip_in (place + 1)) (told_at those place other))
        (sym (ap (λ its. its.told) steady)) sees.room;
  }

  -- and what it knew of another one
  pub knows_still : (one : ℕ) (its : Steady Q T OK GK) → one ≢ place → one ≢ other
      → Knows clear unseen told keeps about_mates due place one was its → Knows clear unseen told keeps about_mates due place one now its
  knows_still one its apart apart_mate knows =
      let same : about_mates now.ends.gossip_in (one + 1) ≡ about_mates was.ends.gossip_in (one + 1) = sees.learned.others (one + 1) (λ same. apart_mate (omega (arith, same))) in
      record {
        shown = λ shows. ap (λ its. its.standing) same ∙ knows.shown shows;
        met = subst (λ (its : About Entries). IsTrue its.met) (sym same) knows.met;
        is_due = sees.still_due (one + 1) knows.is_due;
        room = λ sender there.
            subst (λ those. LearnsRoom (clear sender) (unseen sender) keeps (its.got (place + 1)) (told_at those place one)) (sym (ap (λ its. its.told) steady))
            (knows.room sender (sym (sees.senders (place_at (place + 1) (one + 1)) (λ at. apart_mate (same_place place one other apart differs at))) ∙ there));
      }

module _ {Q T O G OK GK : Type 0} {out_key : O → OK} {number : O → ℕ} {told : O → List Entries} {clear : O → Type 0} {unseen : O → ℕ} {in_key : G → GK} {keeps : Parts}
    {got : G → ℕ → ℕ → Option Entries} {about_mates : G → ℕ → About Entries} {due : G → ℕ → Bool} {before now : List (PlainWorker Q T O G)} {place other : ℕ}
    (shown : AreShown out_key number told clear unseen in_key keeps got about_mates due place other before now) (within : place < length before) (its_within : other < length before)
    (differs : other ≢ place) where
  -- two workers that are held beside each other go on, and so do the others
  pub pair_goes_on : {QK TK : Type 0} {request_key : Q → QK} {reply_key : T → TK} {reply_number : T → ℕ} {complete : Bool} {senders : QK → ℕ} {received : Q → List (ℕ × Request)}
      {about : Q → ℕ → About Request} {replied : T → List PlainReply} {mates : GK → ℕ}
      → HaveGoneOn request_key reply_key reply_number out_key number in_key complete senders received about replied keeps.complete mates got about_mates before now
  pair_goes_on =
      let one = there_is before place within in
      let mate = there_is before other its_within in
      let steady_at = λ (at : ℕ) (was is : PlainWorker Q T O G). still_at (steady_of out_key number told in_key got) before now at was is (ap (λ those. slice_get those at) shown.steady) in
      let turned : place ≢ other = λ same. differs (sym same) in
      let stays = all_stay before in
      record {
        long = sym (length-map now (steady_of out_key number told in_key got)) ∙ ap length shown.steady ∙ length-map before (steady_of out_key number told in_key got);
        gone_on = λ at was is was_there is_there.
            elim (cases_eq at place) [
              | inl here ↦
                  let was_here = ap (slice_get before) (sym here) ∙ was_there in
                  let is_here = ap (slice_get now) (sym here) ∙ is_there in
                  seen_goes_on out_key number in_key place other was is mate.0 differs (shown.sees was is mate.0 was_here is_here mate.1) (steady_at place was is was_here is_here)
              | inr apart ↦
                  elim (cases_eq at other) [
                    | inl here ↦
                        let was_here = ap (slice_get before) (sym here) ∙ was_there in
                        let is_here = ap (slice_get now) (sym here) ∙ is_there in
                        seen_goes_on out_key number in_key other place was is one.0 turned (shown.seen was is one.0 was_here is_here one.1) (steady_at other was is was_here is_here)
                    | inr apart_mate ↦ stays.gone_on at was is was_there (sym (shown.elsewhere at apart apart_mate) ∙ is_there)
                  ]
            ];
        gossip_stands = λ at was is was_there is_there.
            elim (cases_eq at place) [
              | inl here ↦
                  let was_here = ap (slice_get before) (sym here) ∙ was_there in
                  let is_here = ap (slice_get now) (sym here) ∙ is_there in
                  subst (λ n. StandsOrIsShown (length before) (n + 1) (about_mates was.ends.gossip_in) (about_mates is.ends.gossip_in)) (sym here)
                  (seen_stands place other was is mate.0 differs (shown.sees was is mate.0 was_here is_here mate.1) (length before) its_within)
              | inr apart ↦
                  elim (cases_eq at other) [
                    | inl here ↦
                        let was_here = ap (slice_get before) (sym here) ∙ was_there in
                        let is_here = ap (slice_get now) (sym here) ∙ is_there in
                        subst (λ n. StandsOrIsShown (length before) (n + 1) (about_mates was.ends.gossip_in) (about_mates is.ends.gossip_in)) (sym here)
                        (seen_stands other place was is one.0 turned (shown.seen was is one.0 was_here is_here one.1) (length before) within)
                    | inr apart_mate ↦ stays.gossip_stands at was is was_there (sym (shown.elsewhere at apart apart_mate) ∙ is_there)
                  ]
            ];
      }

  -- the one knows of one mate more
  pub knows_more : ((one : ℕ) (is : PlainWorker Q T O G) (mate : Steady Q T OK GK) → one < other → one ≢ place → slice_get before place ≡ Some is
      → slice_get (map (steady_of out_key number told in_key got) before) one ≡ Some mate → Knows clear unseen told keeps about_mates due place one is mate)
      → (one : ℕ) (is : PlainWorker Q T O G) (mate : Steady Q T OK GK) → one < other + 1 → one ≢ place → slice_get now place ≡ Some is
      → slice_get (map (steady_of out_key number told in_key got) now) one ≡ Some mate → Knows clear unseen told keeps about_mates due place one is mate
  knows_more knows one is mate below apart there its_there =
      let was = there_is before place within in
      let other_was = there_is before other its_within in
      let saw = shown.sees was.0 is other_was.0 was.1 there other_was.1 in
      let steady_at = still_at (steady_of out_key number told in_key got) before now place was.0 is (ap (λ those. slice_get those place) shown.steady) was.1 there in
      let its_was = ap (λ those. slice_get those one) (sym shown.steady) ∙ its_there in
      elim (cases_eq one other) [
        | inl here ↦
            let its_is : steady_of out_key number told in_key got other_was.0 ≡ mate =
            same_Some (steady_of out_key number told in_key got other_was.0) mate
            (ap (option_map (steady_of out_key number told in_key got)) (sym other_was.1) ∙ sym (slice_get-map (steady_of out_key number told in_key got) before other)
            ∙ ap (slice_get (map (steady_of out_key number told in_key got) before)) (sym here) ∙ its_was)
            in
            subst (λ (both : ℕ × Steady Q T OK GK). Knows clear unseen told keeps about_mates due place both.0 is both.1) (λ j. (sym here j, its_is j))
            (knows_mate out_key number in_key place other was.0 is other_was.0 differs saw steady_at)
        | inr passed ↦
            knows_still out_key number in_key place other was.0 is other_was.0 differs saw steady_at one mate apart passed
            (knows one was.0 mate (omega (arith, below, passed)) apart was.1 its_was)
      ]
