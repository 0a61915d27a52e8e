-- How long a mate stays due, and what a worker has heard of those that were.
use Rattle.std.specs.Prelude.{◌≡◌, ℕ, Bool, IsTrue, List, Option, Some}
use Rattle.std.proofs.Common.{arith, inl, inr, subst, sym}
use Rattle.mail_contract.specs.Boxes.{MayHandOut, WeakBox}
use Rattle.mail_contract.specs.Got.{AreAll, AreDueHandedOut, FewerMissing, StayDue}
use Rattle.mail_contract.specs.Parts.{Parts}
use Rattle.mail_contract.specs.Standing.{About, AllStand, Apart, OnShown, Settled, Shown, Standing}
use Rattle.worker_core.specs.State.{Entries}
use Rattle.party_turns.specs.Turning.{HearsDue}
use Rattle.party_turns.proofs.SumsLemmas.{missing_falls, none_missing}

-- what holds of what a shown sender had sent, where something else does that it follows from
shown_then : {M : Type 0} {Given Holds : List M → Type 0} (standing : Standing M) → ((sent : List M) → Given sent → Holds sent) → OnShown standing Given → OnShown standing Holds
shown_then Apart follows given = tt
shown_then (Shown sent) follows given = follows sent given
shown_then (Settled sent) follows given = tt

-- in one take, or none
pub due_once : (keeps : Parts) (senders : ℕ) (before now : WeakBox Entries) → MayHandOut keeps senders before now → StayDue before.got now.got before.about before.due now.due
due_once keeps senders before now (inl same) sender is = inl (subst (λ (box : WeakBox Entries). IsTrue (box.due sender)) (sym same) is)
due_once keeps senders before now (inr (answer, hands)) sender is = hands.due sender is

-- and in several
pub due_through : (got between got_now : ℕ → ℕ → Option Entries) (about about_between : ℕ → About Entries) (due due_between due_now : ℕ → Bool) → AllStand about about_between
    → ((sender place : ℕ) (batch : Entries) → got sender place ≡ Some batch → between sender place ≡ Some batch)
    → ((sender place : ℕ) (batch : Entries) → between sender place ≡ Some batch → got_now sender place ≡ Some batch)
    → StayDue got between about due due_between → StayDue between got_now about_between due_between due_now → StayDue got got_now about due due_now
due_through got between got_now about about_between due due_between due_now stand more more_then first second sender is = elim (first sender is) [
  | inl so_far ↦
      elim (second sender so_far) [
        | inl still ↦ inl still
        | inr fewer ↦
            inr (shown_then (about sender).standing (λ sent fell. omega (arith, fell, missing_falls (got sender) (between sender) sent (more sender)))
            (subst (FewerMissing (between sender) (got_now sender)) (stand sender).0 fewer))
      ]
  | inr fewer ↦ inr (shown_then (about sender).standing (λ sent fell. omega (arith, fell, missing_falls (between sender) (got_now sender) sent (more_then sender))) fewer)
]

-- where nothing is found, each that was due was heard
pub heard_due : (got got_now : ℕ → ℕ → Option Entries) (about about_now : ℕ → About Entries) (due due_now : ℕ → Bool) → AllStand about about_now → StayDue got got_now about due due_now
    → AreDueHandedOut got_now about_now due_now → HearsDue got got_now about due
heard_due got got_now about about_now due due_now stand stay all sender is = elim (stay sender is) [
  | inl still ↦
      shown_then (about sender).standing (λ sent all. inl (none_missing (got_now sender) sent all))
      (subst (λ standing. OnShown standing (AreAll (got_now sender))) (stand sender).0 (all sender still))
  | inr fewer ↦ shown_then (about sender).standing (λ sent fell. inr fell) fewer
]
