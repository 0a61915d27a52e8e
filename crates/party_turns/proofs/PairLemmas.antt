-- Two workers are held beside each other.
use Rattle.std.specs.Prelude.{◌≡◌, ◌≢◌, ◌⊎◌, ℕ, ◌+◌, Bool, IsTrue, List, [], map, slice_get, slice_index_or, Option, Some}
use Rattle.std.proofs.Common.{◌∙◌, ap, inl, inr, subst, sym}
use Rattle.std.proofs.lemmas.Option.{slice_get_within}
use Rattle.mail_contract.specs.Got.{AreIn}
use Rattle.mail_contract.specs.Parts.{Parts}
use Rattle.mail_contract.specs.Standing.{About, Learned, StillAll}
use Rattle.worker_core.specs.Room.{LearnsRoomAt}
use Rattle.worker_core.specs.State.{Entries, PlainWorker, place_at}
use Rattle.party_turns.specs.Mates.{AreMates, AreShown, Sees, steady_of}
use Rattle.party_turns.proofs.PairListsLemmas.{BothChange, of_those, same_of_all}
use Rattle.party_turns.proofs.MatesLemmas.{by_numbers, number_there}

module _ {Q T O G OK GK : Type 0} {out_key : O → OK} {number : O → ℕ} {in_key : G → GK} {pairs : GK → OK → ℕ → Type 0} {workers : List (PlainWorker Q T O G)}
    (are_mates : AreMates out_key number in_key pairs workers)
    (place other : ℕ) (was now mate : PlainWorker Q T O G) (there : slice_get workers place ≡ Some was) (its_there : slice_get workers other ≡ Some mate) (differs : other ≢ place) where
  -- where the senders to each other stand, and their numbers
  its_at : place_at mate.state.me was.state.me ≡ place_at (other + 1) (place + 1)
  its_at = by_numbers are_mates other place mate was its_there there (λ same. differs (sym same))

  its_number : slice_index_or (map number mate.ends.gossip_out.items) (place_at mate.state.me was.state.me) 0 ≡ other + 1
  its_number =
      ap (λ n. slice_index_or (map number mate.ends.gossip_out.items) n 0) its_at
      ∙ number_there are_mates other place mate its_there (slice_get_within workers place was there) (λ same. differs (sym same))

  own_at : place_at was.state.me mate.state.me ≡ place_at (place + 1) (other + 1)
  own_at = by_numbers are_mates place other was mate there its_there differs

  own_number : slice_index_or (map number was.ends.gossip_out.items) (place_at was.state.me mate.state.me) 0 ≡ place + 1
  own_number =
      ap (λ n. slice_index_or (map number was.ends.gossip_out.items) n 0) own_at ∙ number_there are_mates place other was there (slice_get_within workers other mate its_there) differs

  -- what a worker learns of the mate beside it, where both go by their places
  pub sees_mate : {clear : O → Type 0} {unseen : O → ℕ} {told : O → List Entries} {keeps : Parts} {got : G → ℕ → ℕ → Option Entries} {about : G → ℕ → About Entries} {due : G → ℕ → Bool}
      → Learned keeps (slice_index_or (map number mate.ends.gossip_out.items) (place_at mate.state.me was.state.me) 0)
      (slice_index_or (map told mate.ends.gossip_out.items) (place_at mate.state.me was.state.me) []) (about was.ends.gossip_in) (about now.ends.gossip_in)
      → (IsTrue keeps.complete → AreIn (got was.ends.gossip_in (slice_index_or (map number mate.ends.gossip_out.items) (place_at mate.state.me was.state.me) 0))
      (slice_index_or (map told mate.ends.gossip_out.items) (place_at mate.state.me was.state.me) []))
      → LearnsRoomAt clear unseen now.ends.gossip_out.items (place_at was.state.me mate.state.me) keeps
      (got mate.ends.gossip_in (slice_index_or (map number was.ends.gossip_out.items) (place_at was.state.me mate.state.me) 0))
      (slice_index_or (map told was.ends.gossip_out.items) (place_at was.state.me mate.state.me) [])
      → ((at : ℕ) → at ≢ place_at was.state.me mate.state.me → slice_get now.ends.gossip_out.items at ≡ slice_get was.ends.gossip_out.items at)
      → IsTrue (due now.ends.gossip_in (slice_index_or (map number mate.ends.gossip_out.items) (place_at mate.state.me was.state.me) 0))
      → StillAll (due was.ends.gossip_in) (due now.ends.gossip_in) → Sees clear unseen told keeps got about due place other was now mate
  sees_mate {clear} {unseen} {told} {keeps} {got} {about} {due} learned were_sent room others is_due still_due = record {
    learned =
        subst (λ (both : ℕ × ℕ). Learned keeps both.0 (slice_index_or (map told mate.ends.gossip_out.items) both.1 []) (about was.ends.gossip_in) (about now.ends.gossip_in))
        (λ j. (its_number j, its_at j)) learned;
    is_due = subst (λ n. IsTrue (due now.ends.gossip_in n)) its_number is_due;
    still_due = still_due;
    were_sent = λ complete.
        subst (λ (both : ℕ × ℕ). AreIn (got was.ends.gossip_in both.0) (slice_index_or (map told mate.ends.gossip_out.items) both.1 [])) (λ j. (its_number j, its_at j)) (were_sent complete);
    room =
        subst (λ (both : ℕ × ℕ). LearnsRoomAt clear unseen now.ends.gossip_out.items both.1 keeps (got mate.ends.gossip_in both.0)
        (slice_index_or (map told was.ends.gossip_out.items) both.1 [])) (λ j. (own_number j, own_at j)) room;
    senders = subst (λ n. (at : ℕ) → at ≢ n → slice_get now.ends.gossip_out.items at ≡ slice_get was.ends.gossip_out.items at) own_at others;
  }

-- what stays of a worker, part by part
pub is_steady : {Q T O G OK GK : Type 0} (out_key : O → OK) (number : O → ℕ) (told : O → List Entries) (in_key : G → GK) (got : G → ℕ → ℕ → Option Entries) (before now : PlainWorker Q T O G)
    → now.state ≡ before.state → now.ends.requests ≡ before.ends.requests → now.ends.replies ≡ before.ends.replies
    → map out_key now.ends.gossip_out.items ≡ map out_key before.ends.gossip_out.items → map number now.ends.gossip_out.items ≡ map number before.ends.gossip_out.items
    → map told now.ends.gossip_out.items ≡ map told before.ends.gossip_out.items → in_key now.ends.gossip_in ≡ in_key before.ends.gossip_in → got now.ends.gossip_in ≡ got before.ends.gossip_in
    → steady_of out_key number told in_key got now ≡ steady_of out_key number told in_key got before
is_steady out_key number told in_key got before now state requests replies out_keys numbers tolds in_keys gots = λ j. record {
  state = state j;
  requests = requests j;
  replies = (replies j).items;
  out_keys = out_keys j;
  numbers = numbers j;
  told = tolds j;
  in_key = in_keys j;
  got = gots j;
}

module _ {Q T O G OK GK : Type 0} {out_key : O → OK} {number : O → ℕ} {told : O → List Entries} {clear : O → Type 0} {unseen : O → ℕ} {in_key : G → GK} {keeps : Parts}
    {got : G → ℕ → ℕ → Option Entries} {about : G → ℕ → About Entries} {due : G → ℕ → Bool} {workers now : List (PlainWorker Q T O G)} {place other : ℕ} where
  -- of two that were held beside each other each learned of the other, and no one else changed
  pub shown_both : {was is its_was its_is : PlainWorker Q T O G} → BothChange workers now place other was is its_was its_is
      → steady_of out_key number told in_key got is ≡ steady_of out_key number told in_key got was → steady_of out_key number told in_key got its_is ≡ steady_of out_key number told in_key got its_was
      → Sees clear unseen told keeps got about due place other was is its_was → Sees clear unseen told keeps got about due other place its_was its_is was
      → AreShown out_key number told clear unseen in_key keeps got about due place other workers now
  shown_both {was} {is} {its_was} {its_is} both steady its_steady sees seen = record {
    steady = same_of_all both (steady_of out_key number told in_key got) steady its_steady;
    elsewhere = both.elsewhere;
    sees = of_those (Sees clear unseen told keeps got about due place other) workers now place other was is its_was both.was_there both.is_there both.its_was_there sees;
    seen = of_those (Sees clear unseen told keeps got about due other place) workers now other place its_was its_is was both.its_was_there both.its_is_there both.was_there seen;
  }

module _ {Q T O G OK GK : Type 0} {out_key : O → OK} {number : O → ℕ} {told : O → List Entries} {clear : O → Type 0} {unseen : O → ℕ} {in_key : G → GK} {keeps : Parts}
    {got : G → ℕ → ℕ → Option Entries} {about : G → ℕ → About Entries} {due : G → ℕ → Bool} {workers now : List (PlainWorker Q T O G)} {low high : ℕ}
    (shown : AreShown out_key number told clear unseen in_key keeps got about due low high workers now) (place other : ℕ) where
  -- which of the two is called the one and which the other makes no difference
  pub either_way : ((low ≡ place) × (high ≡ other)) ⊎ ((low ≡ other) × (high ≡ place)) → AreShown out_key number told clear unseen in_key keeps got about due place other workers now
  either_way order = elim order [
    | inl same ↦ subst (λ (both : ℕ × ℕ). AreShown out_key number told clear unseen in_key keeps got about due both.0 both.1 workers now) (λ j. (same.0 j, same.1 j)) shown
    | inr turned ↦
        subst (λ (both : ℕ × ℕ). AreShown out_key number told clear unseen in_key keeps got about due both.0 both.1 workers now) (λ j. (turned.1 j, turned.0 j)) (record {
          steady = shown.steady;
          elsewhere = λ at apart apart_its. shown.elsewhere at apart_its apart;
          sees = shown.seen;
          seen = shown.sees;
        })
  ]
