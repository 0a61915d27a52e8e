-- Rows of senders and boxes stay of one making while keys and numbers stay; and workers whose ends of gossip are of one making can be held beside each
-- other.
use Rattle.std.specs.Prelude.{◌≡◌, ◌&&◌, ◌==◌, ℕ, ◌+◌, ◌<◌, ◌^◌, Bool, true, false, if◌then◌else◌, List, All, length, map, slice_get, Some, ◌≢◌}
use Rattle.std.proofs.Common.{◌∙◌, sym, ap, subst, arith}
use Rattle.std.proofs.lemmas.Bool.{ne_eqb}
use Rattle.std.proofs.lemmas.List.{length-map}
use Rattle.std.proofs.lemmas.Option.{slice_get_within}
use Rattle.mail_contract.specs.Standing.{About, IsSettled}
use Rattle.party_turns.specs.Rows.{index_in}
use Rattle.worker_core.specs.State.{Entries, PlainWorker, place_at}
use Rattle.party_turns.specs.Mates.{AreMates}
use Rattle.party_turns.specs.Making.{AreOfOneMaking}
use Rattle.party_turns.proofs.ItemsLemmas.{all_there, also_there, at_its_place, mapped, there_is}
use Rattle.std.proofs.lemmas.Bool.Decides.{nat_tests}

-- numbers that all are the same, where the lists of numbers are
same_numbers : {S : Type 0} (number : S → ℕ) (n : ℕ) (is was : List S) → map number is ≡ map number was → All (λ sender. number sender ≡ n) was → All (λ sender. number sender ≡ n) is
same_numbers number n is was same all = all_there (λ sender. number sender ≡ n) is (λ place sender there.
    let earlier = also_there number was is same place sender there in sym earlier.2 ∙ at_its_place (λ sender. number sender ≡ n) was place earlier.0 all earlier.1)

module _ {S P M K SK : Type 0} {sender_key : S → SK} {number : S → ℕ} {pairs : K → SK → ℕ → Type 0} {key : P → K} {about : P → ℕ → About M} {skips : Bool} where
  -- Rows and boxes that come of such are such, where keys and numbers stay and no box has taken in more.
  pub making_stays : (rows rows_now : List (List S)) (boxes boxes_now : List P) → AreOfOneMaking sender_key number pairs key about skips rows boxes
      → length rows_now ≡ length rows → length boxes_now ≡ length boxes
      → ((row : ℕ) (was is : List S) → slice_get rows row ≡ Some was → slice_get rows_now row ≡ Some is → map sender_key is ≡ map sender_key was)
      → ((row : ℕ) (was is : List S) → slice_get rows row ≡ Some was → slice_get rows_now row ≡ Some is → map number is ≡ map number was)
      → ((place : ℕ) (was is : P) → slice_get boxes place ≡ Some was → slice_get boxes_now place ≡ Some is → key is ≡ key was)
      → ((row place : ℕ) (was is : P) → slice_get boxes place ≡ Some was → slice_get boxes_now place ≡ Some is → (skips && row == place) ≡ false
      → (IsSettled (about was (row + 1)).standing → ⊥) → IsSettled (about is (row + 1)).standing → ⊥)
      → AreOfOneMaking sender_key number pairs key about skips rows_now boxes_now
  making_stays rows rows_now boxes boxes_now making as_many as_many_boxes keys numbers key_stays stays = record {
    many = all_there (λ senders. length senders + (if skips then 1 else 0) ≡ length boxes_now) rows_now (λ row is there.
        let was = row_was row is there in
        ap (λ n. n + (if skips then 1 else 0)) (same_long row was.0 is was.1 there) ∙ at_its_place (λ senders. length senders + (if skips then 1 else 0) ≡ length boxes) rows row was.0 making.many was.1 ∙ sym as_many_boxes);
    numbers = λ row is there. let was = row_was row is there in same_numbers number (row + 1) is was.0 (numbers row was.0 is was.1 there) (making.numbers row was.0 was.1);
    paired = λ row place is sender box there box_there kept at.
        let was = row_was row is there in
        let box_was = there_is boxes place (let within = slice_get_within boxes_now place box box_there in omega (arith, within, as_many_boxes)) in
        let its = also_there sender_key was.0 is (keys row was.0 is was.1 there) (index_in skips row place) sender at in
        let numbered = at_its_place (λ sender. number sender ≡ row + 1) was.0 (index_in skips row place) its.0 (making.numbers row was.0 was.1) its.1 in
        let numbered_now = at_its_place (λ sender. number sender ≡ row + 1) is (index_in skips row place) sender (same_numbers number (row + 1) is was.0 (numbers row was.0 is was.1 there) (making.numbers row was.0 was.1)) at in
        subst (λ k. pairs k (sender_key sender) (number sender)) (sym (key_stays place box_was.0 box box_was.1 box_there))
        (subst (λ k. pairs (key box_was.0) k (number sender)) its.2
        (subst (λ n. pairs (key box_was.0) (sender_key its.0) n) (numbered ∙ sym numbered_now) (making.paired row place was.0 its.0 box_was.0 was.1 box_was.1 kept its.1)));
    not_taken_in = λ row place box low box_there kept.
        let box_was = there_is boxes place (let within = slice_get_within boxes_now place box box_there in omega (arith, within, as_many_boxes)) in
        stays row place box_was.0 box box_was.1 box_there kept (making.not_taken_in row place box_was.0 (omega (arith, low, as_many)) box_was.1 kept);
  }
    where
      row_was : (row : ℕ) (is : List S) → slice_get rows_now row ≡ Some is → (was : List S) × (slice_get rows row ≡ Some was)
      row_was row is there = there_is rows row (let within = slice_get_within rows_now row is there in omega (arith, within, as_many))

      same_long : (row : ℕ) (was is : List S) → slice_get rows row ≡ Some was → slice_get rows_now row ≡ Some is → length is ≡ length was
      same_long row was is was_there there = sym (length-map is number) ∙ ap length (numbers row was is was_there there) ∙ length-map was number

-- the sender for a mate stands where its number says,
pub index_is : (row place : ℕ) → (true && row == place) ≡ false → index_in true row place ≡ place_at (row + 1) (place + 1)
index_is row place kept = grind (arith, nat_tests)

pub mate_index : (row place : ℕ) → place ≢ row → index_in true row place ≡ place_at (row + 1) (place + 1)
mate_index row place apart = index_is row place (ne_eqb row place (λ same. apart (sym same)))

-- workers whose ends of gossip are of one making can be held beside each other
pub made_mates : {Q T O G OK GK : Type 0} {gossip_key : O → OK} {gossip_number : O → ℕ} {in_key : G → GK} {in_pairs : GK → OK → ℕ → Type 0}
    (in_about : G → ℕ → About Entries) (workers : List (PlainWorker Q T O G)) → length workers + 1 < 2 ^ 16
    → ((place : ℕ) (worker : PlainWorker Q T O G) → slice_get workers place ≡ Some worker → worker.state.me ≡ place + 1)
    → AreOfOneMaking gossip_key gossip_number in_pairs (λ (worker : PlainWorker Q T O G). in_key worker.ends.gossip_in) (λ worker. in_about worker.ends.gossip_in)
    true (map (λ worker. worker.ends.gossip_out.items) workers) workers
    → AreMates gossip_key gossip_number in_key in_pairs workers
made_mates {Q} {T} {O} {G} in_about workers few numbered making =
    let senders_there = mapped (λ (worker : PlainWorker Q T O G). worker.ends.gossip_out.items) workers in
    record {
      few = few;
      numbered = numbered;
      mates = λ place worker there.
          at_its_place (λ senders. length senders + 1 ≡ length workers) (map (λ worker. worker.ends.gossip_out.items) workers) place worker.ends.gossip_out.items making.many
          (senders_there place worker there);
      numbers = λ place worker there. making.numbers place worker.ends.gossip_out.items (senders_there place worker there);
      paired = λ place other worker mate sender there its_there apart at.
          making.paired place other worker.ends.gossip_out.items sender mate (senders_there place worker there) its_there (ne_eqb place other (λ same. apart (sym same)))
          (ap (slice_get worker.ends.gossip_out.items) (mate_index place other apart) ∙ at);
    }
