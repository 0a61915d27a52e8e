-- What one call, or none, keeps of a weak box.
use Rattle.std.specs.Prelude.{◌≡◌, ◌⊎◌, ℕ, Bool, Option, Some, None, Result, Ok, Err}
use Rattle.std.proofs.Common.{refl, sym, ap, subst, ◌∙◌, inl, inr}
use Rattle.lattice_laws.specs.declared.lattice.NoMemory.{NoMemory}
use Rattle.mail_contract.specs.Boxes.{HandsOut, MayHandOut, WeakBox}
use Rattle.mail_contract.specs.Got.{Added, IsOfSent}
use Rattle.mail_contract.specs.Parts.{Parts}
use Rattle.mail_contract.specs.Standing.{AllStand}
use Rattle.mail_contract.proofs.StandsLemmas.{stands_through}
use Rattle.mail_contract.proofs.WovenLemmas.{same_or_not}
use Rattle.placement.specs.Config.{IsOneOf}
use Rattle.party_turns.specs.Turning.{AreGotInRange}

-- how it stands to its senders, and what it has handed out
pub record KeepsWeak {M : Type 0} (all_told : Bool) (mates : ℕ) (before now : WeakBox M) : Type 0 where
  pub stand : AllStand before.about now.about
  pub got_more : (sender place : ℕ) (message : M) → before.got sender place ≡ Some message → now.got sender place ≡ Some message
  pub got_in_range : AreGotInRange mates before.got → AreGotInRange mates now.got
  pub of_sent : (sender : ℕ) → IsOfSent all_told before.got before.about sender → IsOfSent all_told now.got now.about sender

module _ {M : Type 0} {all_told : Bool} {mates : ℕ} where
  -- nothing that stays as it is loses any of it,
  pub weak_still : (box : WeakBox M) → KeepsWeak all_told mates box box
  weak_still box = record {
    stand = λ sender. (refl, refl);
    got_more = λ sender place message is. is;
    got_in_range = λ are. are;
    of_sent = λ sender is. is;
  }

  -- nor one change after another
  pub weak_through : {before between now : WeakBox M} → KeepsWeak all_told mates before between → KeepsWeak all_told mates between now → KeepsWeak all_told mates before now
  weak_through {before} {between} {now} first then = record {
    stand = stands_through before.about between.about now.about first.stand then.stand;
    got_more = λ sender place message is. then.got_more sender place message (first.got_more sender place message is);
    got_in_range = λ are. then.got_in_range (first.got_in_range are);
    of_sent = λ sender is. then.of_sent sender (first.of_sent sender is);
  }

module _ {M : Type 0} where
  -- a weak box that is asked once, or not at all
  pub hand_out_keeps : (keeps : Parts) (mates : ℕ) (before now : WeakBox M) → MayHandOut keeps mates before now → KeepsWeak keeps.complete mates before now
  hand_out_keeps keeps mates before now (inl same) = record {
    stand = λ sender. (ap (λ (box : WeakBox M). (box.about sender).standing) same, ap (λ (box : WeakBox M). (box.about sender).met) same);
    got_more = λ sender place message is. ap (λ (box : WeakBox M). box.got sender place) same ∙ is;
    got_in_range = λ are. subst (λ (box : WeakBox M). AreGotInRange mates box.got) (sym same) are;
    of_sent = λ sender is. subst (λ (box : WeakBox M). IsOfSent keeps.complete box.got box.about sender) (sym same) is;
  }
  hand_out_keeps keeps mates before now (inr (answer, hands)) = by_answer answer hands
    where
      as_it_was : {answer : Result (Option (ℕ × M)) NoMemory} → HandsOut keeps mates answer before now → now.got ≡ before.got → KeepsWeak keeps.complete mates before now
      as_it_was hands same = record {
        stand = hands.standing;
        got_more = λ sender place message is. ap (λ (got : ℕ → ℕ → Option M). got sender place) same ∙ is;
        got_in_range = λ are. subst (AreGotInRange mates) (sym same) are;
        of_sent = hands.told;
      }

      -- what was handed out at a place of a sender
      here_or_not : (one other one_place other_place : ℕ) → ((one ≡ other) × (one_place ≡ other_place)) ⊎ ((one ≡ other) × (one_place ≡ other_place) → ⊥)
      here_or_not one other one_place other_place = elim (same_or_not one other) [
        | inr apart ↦ inr (λ both. apart both.0)
        | inl same ↦ elim (same_or_not one_place other_place) [ inl here ↦ inl (same, here) | inr apart ↦ inr (λ both. apart both.1) ]
      ]

      more_of : (message : ℕ × M) → Added message.0 message.1 before.got now.got
          → (sender place : ℕ) (handed : M) → before.got sender place ≡ Some handed → now.got sender place ≡ Some handed
      more_of message added sender place handed is = elim (here_or_not sender message.0 place added.place) [
        | inr apart ↦ added.others sender place apart ∙ is
        | inl here ↦
            let was : before.got message.0 added.place ≡ Some handed = (λ j. before.got (sym here.0 j) (sym here.1 j)) ∙ is in
            let now_is : now.got message.0 added.place ≡ Some handed = elim added.free [
              | inl none ↦ absurd (no_some (sym none ∙ was))
              | inr there ↦ added.here ∙ sym there ∙ was
            ] in
            (λ j. now.got (here.0 j) (here.1 j)) ∙ now_is
      ]
        where
          no_some : None ≡ Some handed → ⊥
          no_some is = cc

      in_range_of : (message : ℕ × M) → Added message.0 message.1 before.got now.got → IsOneOf mates message.0
          → AreGotInRange mates before.got → AreGotInRange mates now.got
      in_range_of message added one_of are sender place handed is = elim (here_or_not sender message.0 place added.place) [
        | inr apart ↦ are sender place handed (sym (added.others sender place apart) ∙ is)
        | inl here ↦ subst (IsOneOf mates) (sym here.0) one_of
      ]

      by_answer : (answer : Result (Option (ℕ × M)) NoMemory) → HandsOut keeps mates answer before now → KeepsWeak keeps.complete mates before now
      by_answer (Ok (Some message)) hands = record {
        stand = hands.standing;
        got_more = more_of message hands.got;
        got_in_range = in_range_of message hands.got hands.sender;
        of_sent = hands.told;
      }
      by_answer (Ok None) hands = as_it_was hands hands.got
      by_answer (Err error) hands = as_it_was hands hands.got
