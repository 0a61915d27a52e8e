-- Rows of senders, in each row one for each party, or for each but one; and what it is to take in senders.
use Rattle.std.specs.Prelude.{◌≡◌, ◌&&◌, ◌==◌, ℕ, ◌+◌, ◌-◌, if◌then◌else◌, ltb, Bool, List, [], ◌∷◌, ◌++◌, map, slice_get, Option, Some, None, Vec, ⊤}
use Rattle.mail_contract.specs.Standing.{About, IsSettled}

-- rows, each as the list that it holds
abbrev pub rows_in : {X A : Type 0} → List (Vec X A) → List (List X)
rows_in rows = map (λ row. row.items) rows

-- a party takes in several senders, the last of them first
abbrev pub TakesAll : {S P : Type 0} → (S → P → P → Type 0) → List S → P → P → Type 0
TakesAll takes [] before now = now ≡ before
TakesAll {S} {P} takes (sender ∷ senders) before now = (between : P) × TakesAll takes senders before between × takes sender between now

-- and may, where it may take in each once it took in those before
abbrev pub MayTakeAll : {S P : Type 0} → (P → S → Type 0) → (S → P → P → Type 0) → List S → P → Type 0
MayTakeAll may takes [] party = ⊤
MayTakeAll {S} {P} may takes (sender ∷ senders) party = MayTakeAll may takes senders party × ((between : P) → TakesAll takes senders party between → may between sender)

-- the place in a row of the sender for the party at a place; where rows leave out the party of their own number, from 0, those after it stand one place before
abbrev pub index_in : Bool → ℕ → ℕ → ℕ
index_in skips row place = if skips && ltb row place then place - 1 else place

-- the sender there as a list, and none for a party that is left out
abbrev pub those : {S : Type 0} → Option S → List S
those None = []
those (Some sender) = sender ∷ []

abbrev pub for_place : {S : Type 0} → Bool → ℕ → List S → ℕ → List S
for_place skips row senders place = if skips && row == place then [] else those (slice_get senders (index_in skips row place))

-- and in all rows, from a number on
abbrev pub column : {S : Type 0} → Bool → ℕ → List (List S) → ℕ → List S
column skips row [] place = []
column skips row (senders ∷ rows) place = for_place skips row senders place ++ column skips (row + 1) rows place

-- A box may take in a sender: they are of one making, and it was not taken in.
abbrev pub MayTakeIn : {M K SK : Type 0} → (K → SK → ℕ → Type 0) → K → (ℕ → About M) → SK → ℕ → Type 0
MayTakeIn pairs key about sender_key number = pairs key sender_key number × (IsSettled (about number).standing → ⊥)
