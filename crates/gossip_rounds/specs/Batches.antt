-- Batches of gossip to the mates of a worker: what each holds, which went out, and what room their senders have.
use Rattle.std.specs.Prelude.{◌≡◌, ℕ, ◌+◌, ◌*◌, ◌==◌, ◌<◌, ◌≤◌, Bool, true, false, IsTrue, not, if◌then◌else◌, List, [], ◌∷◌, ◌++◌, drop, filter, length, map, slice_get, sum_by, take, Option, Some}
use Rattle.std.specs.List.{flat_map, list_any}
use Rattle.merge_world.specs.Cell.{PlainCell}
use Rattle.mail_contract.specs.declared.tx.Tx as senders
use Rattle.merge_world.specs.Effects.{tells}
use Rattle.merge_world.specs.declared.private_map.KeyCells.{KeyCells}

-- what a batch of gossip holds
abbrev pub Entries : Type 0
Entries = List (ℕ × PlainCell)

-- the cells of a key that were told in batches
abbrev pub told_on : ℕ → List Entries → List PlainCell
told_on key batches = map (λ entry. entry.1) (filter (λ entry. entry.0 == key) (flat_map (λ batch. batch) batches))

-- Batches to a mate, of 16 keys each in order, and the last of what is left: true where one went out, false where it came back for want of a
-- place. These are the keys of those that went out,
abbrev pub went_out : List Bool → List ℕ → List (List ℕ)
went_out [] keys = []
went_out (true ∷ tries) keys = take 16 keys ∷ went_out tries (drop 16 keys)
went_out (false ∷ tries) keys = went_out tries (drop 16 keys)

-- and these stay changed
abbrev pub left_over : List Bool → List ℕ → List ℕ
left_over [] keys = keys
left_over (true ∷ tries) keys = left_over tries (drop 16 keys)
left_over (false ∷ tries) keys = take 16 keys ++ left_over tries (drop 16 keys)

-- how many batches went out
abbrev pub batches : List (List Bool) → ℕ
batches tries = sum_by (λ of_mate. length (filter (λ went. went) of_mate)) tries

-- A mate is told of its changed keys, with the present own cells. A batch that came back leaves how many requests were taken by then.
pub record ToldMate (cells : List (Option KeyCells)) (taken : ℕ) (tries : List Bool) (keys keys_now : List ℕ) (batches batches_now : List Entries) (back back_now : ℕ) : Type 0 where
  pub no_empty : 16 * length tries < length keys + 16
  pub told : batches_now ≡ batches ++ map (λ keys. tells keys cells) (went_out tries keys)
  pub changed : keys_now ≡ left_over tries keys
  pub turned : back_now ≡ (if list_any not tries then taken else back)

-- the first batch came back
abbrev pub FirstBack : List Bool → Type 0
FirstBack [] = ⊥
FirstBack (went ∷ tries) = went ≡ false

-- how many went out before the first that came back
abbrev pub went_first : List Bool → ℕ
went_first [] = 0
went_first (true ∷ tries) = went_first tries + 1
went_first (false ∷ tries) = 0

-- How a sender's room bounds what comes back: the first batch does not where the next message finds a place, and one does only where 64
-- messages or more may take one up.
pub record HasRoom (clear : Type 0) (roomy : Bool) (unseen : ℕ) (tries : List Bool) : Type 0 where
  pub first : FirstBack tries → clear → ⊥
  pub full : IsTrue roomy → IsTrue (list_any not tries) → 64 ≤ unseen + went_first tries

-- and so of the sender at a place
abbrev pub RoomAt : {O : Type 0} → (O → Type 0) → Bool → (O → ℕ) → List O → ℕ → List Bool → Type 0
RoomAt {O} clear roomy unseen senders place tries = (sender : O) → slice_get senders place ≡ Some sender → HasRoom (clear sender) roomy (unseen sender) tries
