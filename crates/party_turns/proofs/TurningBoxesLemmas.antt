-- What one take, or none, keeps of a box, and how many messages are left then.
use Rattle.std.specs.Prelude.{◌≡◌, ◌≢◌, ℕ, ◌+◌, ◌-◌, ◌≤◌, Bool, true, false, List, [], ◌∷◌, ◌++◌, length, Option, Some, None, Result, Ok, Err}
use Rattle.std.proofs.Common.{refl, sym, ap, subst, ◌∙◌, inl, inr, arith}
use Rattle.std.proofs.lemmas.Bool.{false≢true}
use Rattle.std.proofs.lemmas.List.{append-nil, length-append, same_from_push}
use Rattle.std.proofs.lemmas.List.Elements.{All-push}
use Rattle.lattice_laws.specs.declared.lattice.NoMemory.{NoMemory}
use Rattle.mail_contract.proofs.FrontLemmas.{front_short}
use Rattle.mail_contract.specs.Boxes.{Box, MayTake, Takes}
use Rattle.mail_contract.specs.Parts.{Parts}
use Rattle.mail_contract.specs.Standing.{About, AllStand, Apart, OfSent, Settled, Shown, Standing}
use Rattle.mail_contract.specs.Takes.{IsFront, IsFrontOfSent, from_sender}
use Rattle.mail_contract.proofs.WeakLemmas.{none_less, one_less}
use Rattle.mail_contract.proofs.WovenLemmas.{from_sender_more, from_sender_same}
use Rattle.placement.specs.Config.{IsOneOf}
use Rattle.party_turns.specs.Turning.{AreInRange, AreKnown, FrontsStay, IsKnown, known_sent, not_taken}

-- what stays of a box
pub record Keeps {M : Type 0} (complete : Bool) (senders : ℕ) (before now : Box M) : Type 0 where
  pub more : List (ℕ × M)
  pub received_is : now.received ≡ before.received ++ more
  pub in_range : AreInRange senders before.received → AreInRange senders now.received
  pub stand : AllStand before.about now.about
  pub fronts : FrontsStay complete before.received before.about now.received now.about

module _ {M : Type 0} where
  -- senders that are known stay known
  pub known_stays : (complete : Bool) (senders : ℕ) (received received_now : List (ℕ × M)) (about about_now : ℕ → About M) → AllStand about about_now
      → FrontsStay complete received about received_now about_now → AreKnown complete senders received about → AreKnown complete senders received_now about_now
  known_stays complete senders received received_now about about_now stand fronts known sender one_of =
      (subst (λ standing. IsKnown complete standing) (sym (stand sender).0) (known sender one_of).0, fronts sender (known sender one_of).1)

  -- a box that is asked once, or not at all
  pub take_keeps : (keeps : Parts) (senders : ℕ) (before now : Box M) → MayTake keeps senders before now → Keeps keeps.complete senders before now
  take_keeps keeps senders before now (inl same) = record {
    more = [];
    received_is = ap (λ (box : Box M). box.received) same ∙ sym (append-nil before.received);
    in_range = λ are. subst (λ (box : Box M). AreInRange senders box.received) (sym same) are;
    stand = λ sender. (ap (λ (box : Box M). (box.about sender).standing) same, ap (λ (box : Box M). (box.about sender).met) same);
    fronts = λ sender. subst (λ (box : Box M). IsFrontOfSent keeps.complete box.received box.about sender) (sym same);
  }
  take_keeps keeps senders before now (inr (answer, takes)) = by_answer answer takes
    where
      as_it_was : {answer : Result (Option (ℕ × M)) NoMemory} → Takes keeps senders answer before now → now.received ≡ before.received
          → Keeps keeps.complete senders before now
      as_it_was takes same = record {
        more = [];
        received_is = same ∙ sym (append-nil before.received);
        in_range = λ are. subst (AreInRange senders) (sym same) are;
        stand = takes.standing;
        fronts = takes.told;
      }

      by_answer : (answer : Result (Option (ℕ × M)) NoMemory) → Takes keeps senders answer before now → Keeps keeps.complete senders before now
      by_answer (Ok (Some message)) takes = record {
        more = message ∷ [];
        received_is = takes.received;
        in_range = λ are.
            subst (AreInRange senders) (sym takes.received)
            (All-push (λ (message : ℕ × M). IsOneOf senders message.0) before.received message are takes.sender);
        stand = takes.standing;
        fronts = takes.told;
      }
      by_answer (Ok None) takes = as_it_was takes takes.received
      by_answer (Err error) takes = as_it_was takes takes.received

  -- a message more that was received is of one of its senders
  pub sender_of_more : {keeps : Parts} {senders : ℕ} {before now : Box M} (message : ℕ × M) → MayTake keeps senders before now
      → now.received ≡ before.received ++ message ∷ [] → IsOneOf senders message.0
  sender_of_more {keeps} {senders} {before} {now} message may more = by_case may
    where
      not_more : now.received ≡ before.received → ⊥
      not_more same = omega (arith, ap length (sym same ∙ more), length-append before.received (message ∷ []))

      by_answer : (answer : Result (Option (ℕ × M)) NoMemory) → Takes keeps senders answer before now → IsOneOf senders message.0
      by_answer (Ok (Some other)) takes =
          let same : other ≡ message = (same_from_push before.received before.received other message (sym takes.received ∙ more)).1 in
          subst (λ (message : ℕ × M). IsOneOf senders message.0) same takes.sender
      by_answer (Ok None) takes = absurd (not_more takes.received)
      by_answer (Err error) takes = absurd (not_more takes.received)

      by_case : MayTake keeps senders before now → IsOneOf senders message.0
      by_case (inl same) = absurd (not_more (ap (λ (box : Box M). box.received) same))
      by_case (inr (answer, takes)) = by_answer answer takes

  -- so many as a number says of each sender, as what is left of it
  abbrev as_left : (ℕ → ℕ) → ℕ → About M
  as_left number sender = record { standing = Apart; met = true; left = number sender }

  -- how many messages of a sender are not taken
  abbrev not_taken_of : List (ℕ × M) → (ℕ → About M) → ℕ → ℕ
  not_taken_of received about sender = length (known_sent (about sender).standing) - length (from_sender sender received)

  -- where none more was received as many are left
  pub none_taken : (senders : ℕ) (received received_now : List (ℕ × M)) (about about_now : ℕ → About M) → received_now ≡ received → AllStand about about_now
      → not_taken senders received_now about_now ≡ not_taken senders received about
  none_taken senders received received_now about about_now same stand =
      none_less senders (as_left (not_taken_of received about)) (as_left (not_taken_of received_now about_now))
      (λ sender j. length (known_sent ((stand sender).0 j)) - length (from_sender sender (same j)))

  -- what is told of all that a sender sent is told of what is known
  pub of_known : (complete : Bool) (standing : Standing M) (holds : List M → Type 0) → IsKnown complete standing → OfSent complete standing holds → holds (known_sent standing)
  of_known complete Apart holds known is = absurd known
  of_known true (Shown sent) holds known is = is
  of_known false (Shown sent) holds known is = absurd (false≢true known)
  of_known complete (Settled sent) holds known is = is

  -- where one more was received of a sender that is known one fewer is left
  pub one_taken : (complete : Bool) (senders : ℕ) (message : ℕ × M) (received received_now : List (ℕ × M)) (about about_now : ℕ → About M) → IsOneOf senders message.0
      → received_now ≡ received ++ message ∷ [] → AllStand about about_now → AreKnown complete senders received_now about_now
      → not_taken senders received_now about_now + 1 ≡ not_taken senders received about
  one_taken complete senders message received received_now about about_now one_of more stand known =
      one_less senders message.0 (as_left (not_taken_of received about)) (as_left (not_taken_of received_now about_now)) one_of.0 one_of.1 (λ sender low high. refl)
      (λ met. omega (arith, sent_is, ap length here, length-append (from_sender message.0 received) (message.1 ∷ []), short))
      (λ other apart j. length (known_sent ((stand other).0 j)) - length (there other apart j))
    where
      here : from_sender message.0 received_now ≡ from_sender message.0 received ++ message.1 ∷ []
      here = ap (from_sender message.0) more ∙ from_sender_more message.0 received message refl

      there : (other : ℕ) → other ≢ message.0 → from_sender other received_now ≡ from_sender other received
      there other apart = ap (from_sender other) more ∙ from_sender_same other received message (λ same. apart (sym same))

      sent_is : length (known_sent (about_now message.0).standing) ≡ length (known_sent (about message.0).standing)
      sent_is = ap (λ standing. length (known_sent standing)) (stand message.0).0

      short : length (from_sender message.0 received_now) ≤ length (known_sent (about_now message.0).standing)
      short =
          front_short (from_sender message.0 received_now) (known_sent (about_now message.0).standing)
          (of_known complete (about_now message.0).standing (λ sent. IsFront (from_sender message.0 received_now) sent)
          (known message.0 one_of).0 (known message.0 one_of).1)
