-- Boxes that were made, and the rows to which their senders were dealt, are of one making.
use Rattle.std.specs.Prelude.{◌≡◌, ℕ, ◌+◌, false, IsTrue, List, [], ◌∷◌, ◌++◌, All, length, slice_get, Option, Some}
use Rattle.std.proofs.Common.{◌∙◌, sym, ap, subst, inl, inr, arith, length-append}
use Rattle.std.proofs.lemmas.List.Elements.{All-nil}
use Rattle.std.proofs.lemmas.Option.{slice_get_within}
use Rattle.mail_contract.specs.Boxes.{Settles, box_of}
use Rattle.mail_contract.specs.Parts.{Parts}
use Rattle.mail_contract.specs.Standing.{About, Settled, IsSettled}
use Rattle.mail_contract.specs.Takes.{Answers, from_sender}
use Rattle.placement.specs.Config.{IsOneOf}
use Rattle.party_turns.proofs.ItemsLemmas.{all_there, at_its_place, there_is}
use Rattle.party_ends.specs.Dealt.{AreMade, AreNew, IsEmptyBoxOf}
use Rattle.party_ends.specs.Fresh.{IsFresh, IsFreshWeak}

-- What the senders of a box and the box tell of each other when they are fresh, whether the box is weak or not.
pub record AreFreshEnds {S P M K SK : Type 0} (number : S → ℕ) (sent : S → List M) (sender_key : S → SK) (key : P → K) (pairs : K → SK → ℕ → Type 0) (about : P → ℕ → About M)
    (many : ℕ) (senders : List S) (box : P) : Type 0 where
  pub long : length senders ≡ many
  pub numbered : (place : ℕ) (sender : S) → slice_get senders place ≡ Some sender → number sender ≡ place + 1
  pub nothing_sent : All (λ sender. sent sender ≡ []) senders
  pub paired : (place : ℕ) (sender : S) → slice_get senders place ≡ Some sender → pairs (key box) (sender_key sender) (number sender)
  pub not_taken_in : (sender : ℕ) → IsOneOf many sender → IsSettled (about box sender).standing → ⊥

module _ {S P M K SK : Type 0} {number : S → ℕ} {sent : S → List M} {sender_key : S → SK} {key : P → K} {pairs : K → SK → ℕ → Type 0} {box_senders : K → ℕ} {about : P → ℕ → About M} where
  pub ends_of : {received : P → List (ℕ × M)} {many : ℕ} {senders : List S} {box : P} → IsFresh number sent sender_key key pairs box_senders received about many senders box
      → AreFreshEnds number sent sender_key key pairs about many senders box
  ends_of fresh = record { long = fresh.long; numbered = fresh.numbered; nothing_sent = fresh.nothing_sent; paired = fresh.paired; not_taken_in = fresh.not_taken_in }

  pub weak_ends_of : {got : P → ℕ → ℕ → Option M} {many : ℕ} {senders : List S} {box : P} → IsFreshWeak number sent sender_key key pairs box_senders got about many senders box
      → AreFreshEnds number sent sender_key key pairs about many senders box
  weak_ends_of fresh = record { long = fresh.long; numbered = fresh.numbered; nothing_sent = fresh.nothing_sent; paired = fresh.paired; not_taken_in = fresh.not_taken_in }

module _ {S P : Type 0} {Fresh : List S → P → Type 0} {count many : ℕ} {rows : List (List S)} {boxes : List P} (made : AreMade Fresh count many rows boxes) where
  -- what holds of each fresh box holds of all
  pub of_each_box : (Holds : P → Type 0) → ((senders : List S) (box : P) → Fresh senders box → Holds box) → All Holds boxes
  of_each_box Holds holds = all_there Holds boxes (λ place box there.
      let its = there_is made.senders place (let within = slice_get_within boxes place box there in omega (arith, within, made.as_many)) in
      holds its.0 box (made.fresh place its.0 box its.1 there))

  -- a sender in a row is one of those that were made with the box at its place
  pub made_with : (row place : ℕ) (senders : List S) (sender : S) → slice_get rows row ≡ Some senders → slice_get senders place ≡ Some sender
      → (box : P) × (its : List S) × (slice_get boxes place ≡ Some box) × (slice_get its row ≡ Some sender) × Fresh its box
  made_with row place senders sender row_there there =
      let within = slice_get_within senders place sender there in
      let long = at_its_place (λ its. length its ≡ length made.senders) rows row senders made.dealt.long row_there in
      let its = there_is made.senders place (omega (arith, within, long)) in
      let box = there_is boxes place (omega (arith, within, long, made.as_many)) in
      (box.0, its.0, box.1, sym (made.dealt.items row place senders its.0 row_there its.1) ∙ there, made.fresh place its.0 box.0 its.1 box.1)

module _ {S P M K SK : Type 0} (sender_key : S → SK) (number : S → ℕ) (sent : S → List M) (pairs : K → SK → ℕ → Type 0) (key : P → K) (about : P → ℕ → About M)
    {Fresh : List S → P → Type 0} {count many : ℕ} {rows : List (List S)} {boxes : List P} where
  -- The rows and the boxes are of one making, and nothing was sent.
  pub are_new : ((senders : List S) (box : P) → Fresh senders box → AreFreshEnds number sent sender_key key pairs about many senders box)
      → AreMade Fresh count many rows boxes → AreNew sender_key number sent pairs key about false many count rows boxes
  are_new tells made = record {
    rows_are = made.rows_are;
    boxes_are = made.boxes_are;
    making = record {
      many = all_there (λ senders. length senders + 0 ≡ length boxes) rows (λ row senders there.
          omega (arith, at_its_place (λ its. length its ≡ length made.senders) rows row senders made.dealt.long there, made.as_many));
      numbers = λ row senders there. all_there (λ sender. number sender ≡ row + 1) senders (λ place sender here.
          let origin = made_with made row place senders sender there here in
          (tells origin.1 origin.0 origin.4).numbered row sender origin.3);
      paired = λ row place senders sender box there box_there kept here.
          let its = there_is made.senders place (let within = slice_get_within boxes place box box_there in omega (arith, within, made.as_many)) in
          (tells its.0 box (made.fresh place its.0 box its.1 box_there)).paired row sender (sym (made.dealt.items row place senders its.0 there its.1) ∙ here);
      not_taken_in = λ row place box low box_there kept.
          let its = there_is made.senders place (let within = slice_get_within boxes place box box_there in omega (arith, within, made.as_many)) in
          (tells its.0 box (made.fresh place its.0 box its.1 box_there)).not_taken_in (row + 1) (omega arith, omega (arith, low, made.rows_are));
    };
    nothing_sent = all_there (All (λ sender. sent sender ≡ [])) rows (λ row senders there. all_there (λ sender. sent sender ≡ []) senders (λ place sender here.
        let origin = made_with made row place senders sender there here in
        at_its_place (λ one. sent one ≡ []) origin.1 row sender (tells origin.1 origin.0 origin.4).nothing_sent origin.3));
  }

-- A fresh box has received nothing, and each of its senders is one of as many.
pub empty_box : {S P M K SK : Type 0} {number : S → ℕ} {sent : S → List M} {sender_key : S → SK} {key : P → K} {pairs : K → SK → ℕ → Type 0} {box_senders : K → ℕ}
    {received : P → List (ℕ × M)} {about : P → ℕ → About M} {many : ℕ} {senders : List S} {box : P} → IsFresh number sent sender_key key pairs box_senders received about many senders box
    → IsEmptyBoxOf (IsOneOf many) key box_senders received about box
empty_box {key = key} {box_senders = box_senders} {box = box} fresh = (
  fresh.received_is,
  record {
    in_range = subst (All (λ message. IsOneOf (box_senders (key box)) message.0)) (sym fresh.received_is) (All-nil (λ message. IsOneOf (box_senders (key box)) message.0));
    there = λ sender one. (one.0, omega (arith, one.1, fresh.senders_are));
    others = λ sender one. inl (one.0, omega (arith, one.1, fresh.senders_are));
  },
)

-- the one item of a list is its last
pub the_only : {X : Type 0} (items left : List X) (last : X) → items ≡ left ++ last ∷ [] → length items ≡ 1 → slice_get items 0 ≡ Some last
the_only items [] last is one = ap (λ all. slice_get all 0) is
the_only items (first ∷ left) last is one = let long = ap length is in absurd (omega (arith, long, one, length-append left (last ∷ [])))

module _ {S P M K SK : Type 0} {number : S → ℕ} {sent : S → List M} {sender_key : S → SK} {key : P → K} {pairs : K → SK → ℕ → Type 0} {box_senders : K → ℕ}
    {received : P → List (ℕ × M)} (answers : P → Answers) {about : P → ℕ → About M} (keeps : Parts) {senders : List S} {before : P} where
  -- Once the one sender of a fresh box is taken in none is left that could be one of the run.
  pub spare_box : (spare : S) (now : P) → IsFresh number sent sender_key key pairs box_senders received about 1 senders before → slice_get senders 0 ≡ Some spare
      → key now ≡ key before → Settles keeps (number spare) (sent spare) (box_of received answers about before) (box_of received answers about now)
      → IsEmptyBoxOf (IsOneOf 0) key box_senders received about now
  spare_box spare now fresh there key_is settles =
      let none = settles.received ∙ fresh.received_is in
      let its_number = fresh.numbered 0 spare there in
      let sent_none = at_its_place (λ sender. sent sender ≡ []) senders 0 spare fresh.nothing_sent there in
      let many = ap box_senders key_is ∙ fresh.senders_are in (
        none,
        record {
          in_range = subst (All (λ message. IsOneOf (box_senders (key now)) message.0)) (sym none) (All-nil (λ message. IsOneOf (box_senders (key now)) message.0));
          there = λ sender one. absurd (omega (arith, one.0, one.1));
          others = λ sender one.
              let same : sender ≡ number spare = omega (arith, one.0, one.1, its_number, many) in
              inr (
                record { nothing = ap (λ n. (about now n).standing) same ∙ settles.settled ∙ ap Settled sent_none; met = subst (λ n. IsTrue (about now n).met) (sym same) settles.met },
                ap (from_sender sender) none,
              );
        },
      )
