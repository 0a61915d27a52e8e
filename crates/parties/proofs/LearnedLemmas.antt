-- What a box learns, and what it forgets, takes in no sender more; and a box of a run's parties stays one.
use Rattle.std.specs.Prelude.{◌≡◌, ◌⊎◌, ℕ, IsTrue, List, All, Option}
use Rattle.std.proofs.Common.{◌∙◌, ap, inl, inr, refl, subst, sym}
use Rattle.std.proofs.lemmas.Bool.{cases_Bool, cases_eq}
use Rattle.mail_contract.specs.Parts.{Parts}
use Rattle.mail_contract.specs.Standing.{About, AllPart, Apart, IsSettled, Learned, Settled, Shown, Standing, parted}
use Rattle.mail_contract.specs.Takes.{from_sender}
use Rattle.parties.specs.Beside.{IsApart}
use Rattle.placement.specs.Config.{IsOneOf}
use Rattle.party_turns.specs.Making.{IsBoxOf, IsUnused, IsWeakBoxOf}
use Rattle.parties.proofs.KeptLemmas.{NoneTakenIn}

module _ {M : Type 0} where
  -- a box that is held beside a sender takes in none
  pub none_learned : (keeps : Parts) (sender : ℕ) (sent : List M) (before now : ℕ → About M) → Learned keeps sender sent before now → NoneTakenIn before now
  none_learned keeps sender sent before now learned other not settled = elim (cases_eq other sender) [
    | inl here ↦
        elim (cases_Bool keeps.shows) [
          | inl shows ↦
              let standing : (now other).standing ≡ Shown sent = ap (λ n. (now n).standing) here ∙ learned.shown shows in
              subst (λ its. IsSettled its) standing settled
          | inr hides ↦ not (subst (λ about. IsSettled (about other).standing) (learned.still hides) settled)
        ]
    | inr apart ↦ not (subst (λ (its : About M). IsSettled its.standing) (learned.others other apart) settled)
  ]

  -- and whom it had met it has met still
  pub met_learned : (keeps : Parts) (sender : ℕ) (sent : List M) (before now : ℕ → About M) → Learned keeps sender sent before now → (other : ℕ)
      → IsTrue (before other).met → IsTrue (now other).met
  met_learned keeps sender sent before now learned other met = elim (cases_eq other sender) [
    | inl here ↦ subst (λ n. IsTrue (now n).met) (sym here) learned.met
    | inr apart ↦ subst (λ (its : About M). IsTrue its.met) (sym (learned.others other apart)) met
  ]

  -- to part twice is to part once,
  parted_twice : (standing : Standing M) → parted (parted standing) ≡ parted standing
  parted_twice Apart = refl
  parted_twice (Shown sent) = refl
  parted_twice (Settled sent) = refl

  -- so nobody is beside a box all of whose senders were told apart
  pub none_beside : (before now : ℕ → About M) → AllPart before now → IsApart now
  none_beside before now part sender =
      ap parted (part sender).0 ∙ parted_twice (before sender).standing ∙ sym (part sender).0

  -- who was not taken in is not once nobody is beside the box
  parted_is : (standing : Standing M) → (IsSettled standing → ⊥) → IsSettled (parted standing) → ⊥
  parted_is Apart not settled = settled
  parted_is (Shown sent) not settled = settled
  parted_is (Settled sent) not settled = not settled

  -- so a box beside which nobody is any longer takes in none
  pub none_parted : (before now : ℕ → About M) → AllPart before now → NoneTakenIn before now
  none_parted before now part sender not settled =
      parted_is (before sender).standing not (subst (λ its. IsSettled its) (part sender).0 settled)

  -- and a sender that is none of the run's stays unused
  unused_parted : (before now : ℕ → About M) → AllPart before now → (sender : ℕ) → IsUnused (before sender) → IsUnused (now sender)
  unused_parted before now part sender unused =
      subst IsUnused (sym ((part sender).1 (subst (λ its. IsSettled its) (sym unused.nothing) tt))) unused

  module _ (OfRun : ℕ → Type 0) (senders senders_now : ℕ) (received received_now : List (ℕ × M)) (before now : ℕ → About M)
      (same : senders_now ≡ senders) (same_received : received_now ≡ received) where
    -- a box stays one of the run's parties where each sender that is none of them is unused still
    box_stays : ((sender : ℕ) → IsUnused (before sender) → OfRun sender ⊎ IsUnused (now sender)) → IsBoxOf OfRun senders received before → IsBoxOf OfRun senders_now received_now now
    box_stays still box = record {
      in_range = subst (λ (both : ℕ × List (ℕ × M)). All (λ message. IsOneOf both.0 message.0) both.1) (λ j. (sym same j, sym same_received j)) box.in_range;
      there = λ sender of_run. subst (λ n. IsOneOf n sender) (sym same) (box.there sender of_run);
      others = λ sender one_of. elim (box.others sender (subst (λ n. IsOneOf n sender) same one_of)) [
        | inl of_run ↦ inl of_run
        | inr unused ↦
            elim (still sender unused.0) [
              | inl of_run ↦ inl of_run
              | inr is ↦ inr (is, ap (from_sender sender) same_received ∙ unused.1)
            ]
      ];
    }

    -- so where it learned of a party, and where nobody is beside it any longer
    pub box_learned : (keeps : Parts) (sender : ℕ) (sent : List M) → OfRun sender → Learned keeps sender sent before now
        → IsBoxOf OfRun senders received before → IsBoxOf OfRun senders_now received_now now
    box_learned keeps sender sent of_run learned = box_stays (λ other unused. elim (cases_eq other sender) [
      | inl here ↦ inl (subst OfRun (sym here) of_run)
      | inr apart ↦ inr (subst IsUnused (sym (learned.others other apart)) unused)
    ])

    pub box_parted : AllPart before now → IsBoxOf OfRun senders received before → IsBoxOf OfRun senders_now received_now now
    box_parted part = box_stays (λ sender unused. inr (unused_parted before now part sender unused))

  module _ (OfRun : ℕ → Type 0) (senders senders_now : ℕ) (got got_now : ℕ → ℕ → Option M) (before now : ℕ → About M) (same : senders_now ≡ senders) (same_got : got_now ≡ got) where
    -- and so a weak box
    pub weak_box_stays : ((sender : ℕ) → IsUnused (before sender) → OfRun sender ⊎ IsUnused (now sender))
        → IsWeakBoxOf OfRun senders got before → IsWeakBoxOf OfRun senders_now got_now now
    weak_box_stays still box = record {
      in_range = λ sender place message is.
          subst (λ n. IsOneOf n sender) (sym same) (box.in_range sender place message (ap (λ those. those sender place) (sym same_got) ∙ is));
      others = λ sender one_of. elim (box.others sender (subst (λ n. IsOneOf n sender) same one_of)) [
        | inl of_run ↦ inl of_run
        | inr unused ↦
            elim (still sender unused.0) [
              | inl of_run ↦ inl of_run
              | inr is ↦ inr (is, λ place. ap (λ those. those sender place) same_got ∙ unused.1 place)
            ]
      ];
    }

    pub weak_box_parted : AllPart before now → IsWeakBoxOf OfRun senders got before → IsWeakBoxOf OfRun senders_now got_now now
    weak_box_parted part = weak_box_stays (λ sender unused. inr (unused_parted before now part sender unused))
