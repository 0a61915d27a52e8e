-- What a send answers.
use Rattle.std.specs.Prelude.{◌≡◌, ◌≢◌, ℕ, ◌≤◌, List, [], ◌∷◌, ◌++◌, slice_index_or, slice_set, Result, Ok, Err, ⊤}
use Rattle.lattice_laws.specs.Counts.{one_more}
use Rattle.mail_contract.specs.declared.Refused.{Refused}
use Rattle.mail_contract.specs.declared.Refused.TheVariants.{NoMemory, Full}

module _ {M U : Type 0} where
  -- what was sent before and after: a message that is sent is the last; one that is refused comes back, and nothing was sent
  abbrev pub Sent : Result U (Refused M) → M → List M → List M → Type 0
  Sent (Ok done) message before now = now ≡ before ++ message ∷ []
  Sent (Err (NoMemory back)) message before now = (back ≡ message) × (now ≡ before)
  Sent (Err (Full back)) message before now = (back ≡ message) × (now ≡ before)

  -- by the answer
  abbrev pub OnSent : Result U (Refused M) → Type 0 → Type 0
  OnSent (Ok done) holds = holds
  OnSent (Err refused) holds = ⊤

  abbrev pub OnRefused : Result U (Refused M) → Type 0 → Type 0
  OnRefused (Ok done) holds = ⊤
  OnRefused (Err refused) holds = holds

  abbrev pub OnFull : Result U (Refused M) → Type 0 → Type 0
  OnFull (Err (Full back)) holds = holds
  OnFull result holds = ⊤

  abbrev pub NotFull : Result U (Refused M) → Type 0 → Type 0
  NotFull (Err (Full back)) holds = ⊤
  NotFull result holds = holds

  -- what each of several senders sent, before and after a send by the one at a place
  abbrev pub Posted : Result U (Refused M) → M → ℕ → List (List M) → List (List M) → Type 0
  Posted (Ok done) message place before now = now ≡ slice_set before place (slice_index_or before place [] ++ message ∷ [])
  Posted (Err (NoMemory back)) message place before now = (back ≡ message) × (now ≡ before)
  Posted (Err (Full back)) message place before now = (back ≡ message) × (now ≡ before)

  -- how often each wanted for a place
  abbrev pub FullsAfter : Result U (Refused M) → ℕ → List ℕ → List ℕ → Type 0
  FullsAfter (Err (Full back)) place before now =
      (slice_index_or before place 0 ≤ slice_index_or now place 0) × (slice_index_or now place 0 ≡ one_more (slice_index_or before place 0))
      × ((other : ℕ) → other ≢ place → slice_index_or now other 0 ≡ slice_index_or before other 0)
  FullsAfter result place before now = now ≡ before
