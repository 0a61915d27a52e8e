-- The places of workers, from 0, and those of a worker's mates among its senders of gossip.
use Rattle.std.specs.Prelude.{◌≡◌, ◌≢◌, ℕ, ◌+◌, ◌-◌, ◌<◌, ◌≤◌, if◌then◌else◌}
use Rattle.std.proofs.Common.{◌∙◌, ap, arith, inl, inr}
use Rattle.std.proofs.lemmas.Bool.{cases_lt, le-ltb, lt-ltb}
use Rattle.worker_core.specs.State.{mate_at, place_at}

-- the place of a mate is its own where that is lower, and else one less
pub place_low : (place other : ℕ) → other < place → place_at (place + 1) (other + 1) ≡ other
place_low place other low =
    let is : place_at (place + 1) (other + 1) ≡ other + 1 - 1 = ap (λ t. if t then other + 1 - 1 else other + 1 - 2) (lt-ltb (other + 1) (place + 1) (omega (arith, low))) in
    omega (arith, is)

pub place_high : (place other : ℕ) → place ≤ other → place_at (place + 1) (other + 1) ≡ other - 1
place_high place other high =
    let is : place_at (place + 1) (other + 1) ≡ other + 1 - 2 = ap (λ t. if t then other + 1 - 1 else other + 1 - 2) (le-ltb (other + 1) (place + 1) (omega (arith, high))) in
    omega (arith, is)

-- it is one of the mates' places
pub place_within : (workers place other : ℕ) → place < workers → other < workers → other ≢ place → place_at (place + 1) (other + 1) + 1 < workers
place_within workers place other within other_within differs = elim (cases_lt other place) [
  | inl low ↦ let is = place_low place other low in omega (arith, is, low, within)
  | inr high ↦ let is = place_high place other high in omega (arith, is, high, differs, other_within)
]

-- and that of no other one
pub same_place : (place one other : ℕ) → one ≢ place → other ≢ place → place_at (place + 1) (one + 1) ≡ place_at (place + 1) (other + 1) → one ≡ other
same_place place one other one_differs differs same = elim (cases_lt one place) [
  | inl one_low ↦ let one_is = place_low place one one_low in elim (cases_lt other place) [
    | inl low ↦ let is = place_low place other low in omega (arith, is, one_is, same)
    | inr high ↦ let is = place_high place other high in omega (arith, is, one_is, same, one_low, high, differs)
  ]
  | inr one_high ↦ let one_is = place_high place one one_high in elim (cases_lt other place) [
    | inl low ↦ let is = place_low place other low in omega (arith, is, one_is, same, low, one_high, one_differs)
    | inr high ↦ let is = place_high place other high in omega (arith, is, one_is, same, one_high, high, differs, one_differs)
  ]
]

-- A mate whose place among a worker's senders this is.
pub record IsMateAt (workers place at : ℕ) : Type 0 where
  pub other : ℕ
  pub within : other < workers
  pub differs : other ≢ place
  pub is : place_at (place + 1) (other + 1) ≡ at

-- each of the mates' places is that of some mate
pub mate_there : (workers place at : ℕ) → at + 1 < workers → IsMateAt workers place at
mate_there workers place at within = elim (cases_lt at place) [
  | inl low ↦ record { other = at; within = omega (arith, within); differs = λ same. omega (arith, same, low); is = place_low place at low }
  | inr high ↦ record {
    other = at + 1;
    within = within;
    differs = λ same. omega (arith, same, high);
    is = let is = place_high place (at + 1) (omega (arith, high)) in omega (arith, is);
  }
]

-- the mate at a place is another one, and that is its place
pub hearer_at : (place at : ℕ) → (mate_at (place + 1) at - 1 ≢ place) × (place_at (place + 1) (mate_at (place + 1) at - 1 + 1) ≡ at)
hearer_at place at = elim (cases_lt at place) [
  | inl low ↦
      let is : mate_at (place + 1) at ≡ at + 1 = ap (λ t. if t then at + 1 else at + 2) (lt-ltb (at + 1) (place + 1) (omega (arith, low))) in
      let mate : mate_at (place + 1) at - 1 ≡ at = omega (arith, is) in
      (λ same. omega (arith, same, mate, low), ap (λ n. place_at (place + 1) (n + 1)) mate ∙ place_low place at low)
  | inr high ↦
      let is : mate_at (place + 1) at ≡ at + 2 = ap (λ t. if t then at + 1 else at + 2) (le-ltb (at + 1) (place + 1) (omega (arith, high))) in
      let mate : mate_at (place + 1) at - 1 ≡ at + 1 = omega (arith, is) in
      let its = place_high place (at + 1) (omega (arith, high)) in
      (λ same. omega (arith, same, mate, high), ap (λ n. place_at (place + 1) (n + 1)) mate ∙ its ∙ omega arith)
]
