-- Boxes whose senders are those of a run or unused stay such.
use Rattle.std.specs.Prelude.{◌≡◌, ℕ, Bool, IsTrue, List, [], Option, Some, None}
use Rattle.std.proofs.Common.{◌∙◌, inl, inr, refl, subst, sym}
use Rattle.std.proofs.Math.Seq.{take-nil}
use Rattle.std.proofs.lemmas.Option.{none-some}
use Rattle.mail_contract.specs.Got.{AreIn, IsOfSent}
use Rattle.mail_contract.specs.Standing.{About, AllStand, OfSent}
use Rattle.mail_contract.specs.Takes.{IsFront, from_sender}
use Rattle.placement.specs.Config.{IsOneOf}
use Rattle.party_turns.specs.Making.{IsBoxOf, IsUnused, IsWeakBoxOf}
use Rattle.party_turns.specs.Turning.{AreGotInRange, AreInRange, FrontsStay}

module _ {M : Type 0} where
  unused_stays : (about about_now : ℕ → About M) → AllStand about about_now → (sender : ℕ) → IsUnused (about sender) → IsUnused (about_now sender)
  unused_stays about about_now stand sender unused = record {
    nothing = (stand sender).0 ∙ unused.nothing;
    met = subst (λ met. IsTrue met) (sym (stand sender).1) unused.met;
  }

  -- a front of nothing is nothing
  front_of_none : (front : List M) → IsFront front [] → front ≡ []
  front_of_none front is = sym is ∙ take-nil _

  -- and what is handed out of nothing is nothing
  in_none : (got : ℕ → Option M) → AreIn got [] → (place : ℕ) → got place ≡ None
  in_none got are place = by_case (got place) refl
    where
      by_case : (message : Option M) → got place ≡ message → got place ≡ None
      by_case None is = is
      by_case (Some message) is = absurd (none-some message (are place message is))

  none_in : (got : ℕ → Option M) (sent : List M) → ((place : ℕ) → got place ≡ None) → AreIn got sent
  none_in got sent none place message is = absurd (none-some message (sym (none place) ∙ is))

  -- of a sender that had sent nothing nothing is received
  none_received : (complete : Bool) (received received_now : List (ℕ × M)) (about about_now : ℕ → About M) → AllStand about about_now
      → FrontsStay complete received about received_now about_now → (sender : ℕ) → IsUnused (about sender) → from_sender sender received ≡ [] → from_sender sender received_now ≡ []
  none_received complete received received_now about about_now stand fronts sender unused none =
      let at_first =
      subst (λ standing. OfSent complete standing (λ sent. IsFront (from_sender sender received) sent)) (sym unused.nothing)
      (subst (λ front. IsFront front []) (sym none) refl)
      in
      let at_last =
      subst (λ standing. OfSent complete standing (λ sent. IsFront (from_sender sender received_now) sent)) ((stand sender).0 ∙ unused.nothing)
      (fronts sender at_first)
      in
      front_of_none (from_sender sender received_now) at_last

  none_handed_out : (complete : Bool) (got got_now : ℕ → ℕ → Option M) (about about_now : ℕ → About M) → AllStand about about_now
      → ((sender : ℕ) → IsOfSent complete got about sender → IsOfSent complete got_now about_now sender)
      → (sender : ℕ) → IsUnused (about sender) → ((place : ℕ) → got sender place ≡ None) → (place : ℕ) → got_now sender place ≡ None
  none_handed_out complete got got_now about about_now stand of_sent sender unused none =
      let at_first = subst (λ standing. OfSent complete standing (AreIn (got sender))) (sym unused.nothing) (none_in (got sender) [] none) in
      let at_last = subst (λ standing. OfSent complete standing (AreIn (got_now sender))) ((stand sender).0 ∙ unused.nothing) (of_sent sender at_first) in
      in_none (got_now sender) at_last

  -- what a box keeps that is asked by its worker is enough,
  pub box_stays : (complete : Bool) (OfRun : ℕ → Type 0) (senders senders_now : ℕ) (received received_now : List (ℕ × M)) (about about_now : ℕ → About M)
      → senders_now ≡ senders → (AreInRange senders received → AreInRange senders_now received_now) → AllStand about about_now
      → FrontsStay complete received about received_now about_now → IsBoxOf OfRun senders received about → IsBoxOf OfRun senders_now received_now about_now
  box_stays complete OfRun senders senders_now received received_now about about_now same in_range stand fronts box = record {
    in_range = in_range box.in_range;
    there = λ sender of_run. subst (λ last. IsOneOf last sender) (sym same) (box.there sender of_run);
    others = λ sender one_of. elim (box.others sender (subst (λ last. IsOneOf last sender) same one_of)) [
      | inl of_run ↦ inl of_run
      | inr unused ↦ inr (
        unused_stays about about_now stand sender unused.0,
        none_received complete received received_now about about_now stand fronts sender unused.0 unused.1,
      )
    ];
  }

  -- and so what a weak box keeps
  pub weak_box_stays : (complete : Bool) (OfRun : ℕ → Type 0) (senders senders_now : ℕ) (got got_now : ℕ → ℕ → Option M) (about about_now : ℕ → About M)
      → senders_now ≡ senders → (AreGotInRange senders got → AreGotInRange senders_now got_now) → AllStand about about_now
      → ((sender : ℕ) → IsOfSent complete got about sender → IsOfSent complete got_now about_now sender)
      → IsWeakBoxOf OfRun senders got about → IsWeakBoxOf OfRun senders_now got_now about_now
  weak_box_stays complete OfRun senders senders_now got got_now about about_now same in_range stand of_sent box = record {
    in_range = in_range box.in_range;
    others = λ sender one_of. elim (box.others sender (subst (λ last. IsOneOf last sender) same one_of)) [
      | inl of_run ↦ inl of_run
      | inr unused ↦ inr (
        unused_stays about about_now stand sender unused.0,
        none_handed_out complete got got_now about about_now stand of_sent sender unused.0 unused.1,
      )
    ];
  }
