-- What it changes of a sealed worker to take in a mate's sender; where that sender stands among the mate's; and what numbers are those of mates.
use Rattle.std.specs.Prelude.{◌≡◌, ◌≢◌, ◌⊎◌, ◌&&◌, ◌==◌, ℕ, ◌+◌, ◌-◌, ◌<◌, Bool, true, false, List, Option}
use Rattle.std.proofs.Common.{◌∙◌, refl, ap, subst, inl, inr, arith}
use Rattle.std.proofs.lemmas.Bool.{cases_eq, cases_lt, eqb-false}
use Rattle.std.proofs.lemmas.Bool.Decides.{nat_tests}
use Rattle.mail_contract.specs.Boxes.{weak_box_of}
use Rattle.mail_contract.specs.Got.{AreIn}
use Rattle.mail_contract.specs.Parts.{Parts}
use Rattle.mail_contract.specs.Standing.{About}
use Rattle.mail_contract.specs.Takes.{Answers}
use Rattle.worker_core.specs.Sealed.{PlainSealed}
use Rattle.worker_core.specs.State.{Entries}
use Rattle.drain_steps.specs.Settling.{TakesInGossip}
use Rattle.party_turns.specs.Rows.{index_in}
use Rattle.drain_steps.proofs.ChainLemmas.{Does}
use Rattle.party_turns.specs.Mates.{IsMate}

-- a number is a mate's, or it is not
pub mate_or_not : (workers me number : ℕ) → IsMate workers me number ⊎ (IsMate workers me number → ⊥)
mate_or_not workers me number = elim (cases_lt 0 number) [
  | inr none ↦ inr (λ mate. omega (arith, none, mate.0.0))
  | inl some ↦ elim (cases_lt workers number) [
    | inl above ↦ inr (λ mate. omega (arith, above, mate.0.1))
    | inr within ↦ elim (cases_eq number me) [
      | inl same ↦ inr (λ mate. mate.1 same)
      | inr apart ↦ inl ((omega (arith, some), within), apart)
    ]
  ]
]

-- the number after a place is a mate's of the workers at other places, and each mate's number is after one of these
pub is_mate : (workers row place : ℕ) → row < workers → (true && row == place) ≡ false → IsMate workers (place + 1) (row + 1)
is_mate workers row place within kept = ((omega arith, omega (arith, within)), λ same. eqb-false row place kept (omega (arith, same)))

pub place_of_mate : (workers place number : ℕ) → IsMate workers (place + 1) number → (row : ℕ) × (row + 1 ≡ number) × (row < workers) × (row ≢ place)
place_of_mate workers place number mate =
    (number - 1, omega (arith, mate.0.0), omega (arith, mate.0.0, mate.0.1), λ same. mate.1 (omega (arith, same, mate.0.0)))

-- and there is one
pub index_within : (row place long : ℕ) → (true && row == place) ≡ false → row < long + 1 → place < long + 1 → index_in true row place < long
index_within row place long kept row_within place_within = grind (arith, nat_tests)

module _ {O Q G GK : Type 0} (gossip_number : O → ℕ) (told : O → List Entries) (in_key : G → GK) (in_senders : GK → ℕ) (keeps : Parts)
    (got : G → ℕ → ℕ → Option Entries) (answers : G → Answers) (in_about : G → ℕ → About Entries) (due : G → ℕ → Bool) (most : G → ℕ) where
  -- a sealed worker takes in a mate's sender
  abbrev pub TakesMate : O → PlainSealed Q G → PlainSealed Q G → Type 0
  TakesMate sender before now = TakesInGossip in_key in_senders keeps (weak_box_of got answers in_about due most) (gossip_number sender) (told sender) before now

  -- what was handed out of a number is of these batches
  abbrev pub AreGotOf : ℕ → List Entries → PlainSealed Q G → Type 0
  AreGotOf number batches worker = AreIn (got worker.gossip_in number) batches

  -- nothing changes but the box of gossip, and that has handed out the same
  abbrev pub OnlyGossip : PlainSealed Q G → PlainSealed Q G → Type 0
  OnlyGossip before now = (now ≡ record before { gossip_in = now.gossip_in }) × (got now.gossip_in ≡ got before.gossip_in)

  -- so it takes in one sender after another
  pub does_gossip : Does gossip_number told (λ (worker : PlainSealed Q G). in_key worker.gossip_in) (λ worker. in_about worker.gossip_in)
      TakesMate AreGotOf OnlyGossip
  does_gossip = record {
    one = λ s before now does. record {
      key_is = does.key_is;
      others = does.settles.others;
      its = record { settled = does.settles.settled; met = does.settles.met; told = does.settles.told };
    };
    told_before = λ n batches s before now does told. subst (λ (all : ℕ → ℕ → Option Entries). AreIn (all n) batches) does.settles.got told;
    stays = λ party. (refl, refl);
    onward = λ before between now first second.
        (second.0 ∙ ap {A = PlainSealed Q G} (λ w. record w { gossip_in = now.gossip_in }) first.0, second.1 ∙ first.1);
    rest = λ s before now does. (does.rest, does.settles.got);
  }
