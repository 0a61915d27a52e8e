-- One worker more takes its turns in a pass.
use Rattle.std.specs.Prelude.{◌≡◌, ◌≢◌, ℕ, ◌+◌, ◌<◌, ◌≤◌, List, length, slice_get, Option, Some}
use Rattle.std.proofs.Common.{◌∙◌, sym, ap, arith, inl, inr, subst}
use Rattle.std.proofs.lemmas.Bool.{cases_eq}
use Rattle.mail_contract.specs.Boxes.{Box, FindsNothing}
use Rattle.mail_contract.specs.Parts.{Parts}
use Rattle.store_msg.specs.declared.request.Request.{Request}
use Rattle.worker_core.specs.State.{Entries, PlainWorker, State, dirty}
use Rattle.party_turns.specs.Mates.{Steady, steadies, steady_of}
use Rattle.party_turns.specs.Turning.{IsDone}
use Rattle.party_turns.proofs.ItemsLemmas.{there_too}
use Rattle.party_turns.proofs.PairListsLemmas.{still_at}

module _ {Q T O G OK GK : Type 0} (out_key : O → OK) (number : O → ℕ) (told : O → List Entries) (in_key : G → GK) (got : G → ℕ → ℕ → Option Entries) (keeps : Parts) (box : Q → Box Request) where
  -- a worker that is done stays so while it is shown to others
  done_still : (was is : PlainWorker Q T O G) → steady_of out_key number told in_key got is ≡ steady_of out_key number told in_key got was → IsDone keeps box was → IsDone keeps box is
  done_still was is same done =
      let state : is.state ≡ was.state = ap (λ its. its.state) same in
      let requests : is.ends.requests ≡ was.ends.requests = ap (λ its. its.requests) same in
      record {
        none_left = ap dirty state ∙ done.none_left;
        none_held = ap (λ (its : State). its.held) state ∙ done.none_held;
        none_kept = ap (λ (its : State). its.kept) state ∙ done.none_kept;
        no_request = subst (λ its. FindsNothing keeps (box its)) (sym requests) done.no_request;
      }

  -- one worker more is done
  pub done_more : (before now : List (PlainWorker Q T O G)) (place : ℕ) → length now ≡ length before
      → ((at : ℕ) → at ≢ place → slice_get (steadies out_key number told in_key got now) at ≡ slice_get (steadies out_key number told in_key got before) at)
      → ((at : ℕ) (its : PlainWorker Q T O G) → at < place → slice_get before at ≡ Some its → IsDone keeps box its)
      → ((its : PlainWorker Q T O G) → slice_get now place ≡ Some its → IsDone keeps box its)
      → (at : ℕ) (its : PlainWorker Q T O G) → at < place + 1 → slice_get now at ≡ Some its → IsDone keeps box its
  done_more before now place long others done is_done at its below there = elim (cases_eq at place) [
    | inl here ↦ is_done its (ap (slice_get now) (sym here) ∙ there)
    | inr apart ↦
        let was = there_too before now at its long there in
        done_still was.0 its (still_at (steady_of out_key number told in_key got) before now at was.0 its (others at apart) was.1 there) (done at was.0 (omega (arith, below, apart)) was.1)
  ]

module _ {Q T OK GK : Type 0} (before now : List (Steady Q T OK GK)) (place : ℕ) (others : (at : ℕ) → at ≢ place → slice_get now at ≡ slice_get before at) where
  -- to one worker more nothing is left
  pub rested_more : (left : Steady Q T OK GK → ℕ) → ((at : ℕ) (its : Steady Q T OK GK) → at < place → slice_get before at ≡ Some its → left its ≡ 0)
      → ((is : Steady Q T OK GK) → slice_get now place ≡ Some is → left is ≡ 0) → (at : ℕ) (its : Steady Q T OK GK) → at < place + 1 → slice_get now at ≡ Some its → left its ≡ 0
  rested_more left rested rests at its below there = elim (cases_eq at place) [
    | inl here ↦ rests its (ap (slice_get now) (sym here) ∙ there)
    | inr apart ↦ rested at its (omega (arith, below, apart)) (sym (others at apart) ∙ there)
  ]

  module _ (first : List (Steady Q T OK GK)) (unturned : (at : ℕ) → place ≤ at → slice_get before at ≡ slice_get first at) where
    -- those behind it are as they were
    pub unturned_less : (at : ℕ) → place + 1 ≤ at → slice_get now at ≡ slice_get first at
    unturned_less at past = others at (λ same. omega (arith, same, past)) ∙ unturned at (omega (arith, past))

    -- and before its turn nothing is left to it where nothing was left to any at first
    pub first_left : (left : Steady Q T OK GK → ℕ) (its : Steady Q T OK GK) → ((at : ℕ) (its : Steady Q T OK GK) → slice_get first at ≡ Some its → left its ≡ 0)
        → slice_get before place ≡ Some its → left its ≡ 0
    first_left left its none there = none place its (sym (unturned place (omega arith)) ∙ there)
