-- A worker tells its mates, one after the other.
use Rattle.std.specs.Prelude.{◌≡◌, ◌≢◌, ℕ, ◌*◌, ◌<◌, ◌≤◌, Bool, IsTrue, List, [], filter, length, map, not, slice_index_or, Option, Result, IfOk, OnOk}
use Rattle.std.specs.List.{list_any}
use Rattle.lattice_laws.specs.Counts.{Rose}
use Rattle.merge_world.specs.declared.private_map.KeyCells.{KeyCells}
use Rattle.mail_contract.specs.OverSenders.{fulls_at, sent_at}
use Rattle.mail_contract.specs.declared.tx.Tx as senders
use Rattle.gossip_rounds.specs.Batches.{Entries, RoomAt, ToldMate, batches}

-- Lists of the same length that may differ at one place.
pub record DifferAt {A : Type 0} (default : A) (place : ℕ) (before now : List A) : Type 0 where
  pub same_length : length now ≡ length before
  pub others : (other : ℕ) → other ≢ place → slice_index_or now other default ≡ slice_index_or before other default

-- A mate was told, by the answer: how many batches went out.
pub record TellsOne {E : Type 0} (result : Result ℕ E) (cells : List (Option KeyCells)) (taken : ℕ) (keys keys_now : List ℕ) (batches batches_now : List Entries) (back back_now fulls fulls_now : ℕ) (room : List Bool → Type 0) : Type 0 where
  pub tries : List Bool
  pub mate : ToldMate cells taken tries keys keys_now batches batches_now back back_now
  pub all : OnOk result (length keys ≤ 16 * length tries)
  pub sent : IfOk result (λ sent. sent ≡ length (filter (λ went. went) tries))
  -- a batch came back only where the count of the sender rose
  pub full : IsTrue (list_any not tries) → Rose fulls fulls_now
  pub never_falls : fulls ≤ fulls_now
  pub has_room : room tries

-- The mates were told, by the answer: how many batches went out. Where memory was wanting some were not.
pub record TellsAll {E : Type 0} (result : Result ℕ E) (cells : List (Option KeyCells)) (taken : ℕ) (changed changed_now : List (List ℕ)) (told told_now : List (List Entries)) (turned turned_now fulls fulls_now : List ℕ) (room : ℕ → List Bool → Type 0) : Type 0 where
  pub tries : List (List Bool)
  pub mates : length tries ≤ length told
  pub same_changed : length changed_now ≡ length changed
  pub same_told : length told_now ≡ length told
  pub same_turned : length turned_now ≡ length turned
  pub each :
      (place : ℕ) → place < length told
      → ToldMate cells taken (slice_index_or tries place []) (slice_index_or changed place []) (slice_index_or changed_now place [])
      (slice_index_or told place []) (slice_index_or told_now place []) (slice_index_or turned place 0) (slice_index_or turned_now place 0)
  pub all : OnOk result ((place : ℕ) → place < length told → length (slice_index_or changed place []) ≤ 16 * length (slice_index_or tries place []))
  pub sent : IfOk result (λ sent. sent ≡ batches tries)
  pub full : (place : ℕ) → place < length told → IsTrue (list_any not (slice_index_or tries place [])) → Rose (slice_index_or fulls place 0) (slice_index_or fulls_now place 0)
  pub never_fall : (place : ℕ) → place < length told → slice_index_or fulls place 0 ≤ slice_index_or fulls_now place 0
  pub have_room : (place : ℕ) → place < length told → room place (slice_index_or tries place [])

module _ {O OK : Type 0} (told : senders.Ghosts O Entries OK) where
  -- the room that the sender at a place has
  abbrev pub room_at : List O → ℕ → List Bool → Type 0
  room_at = RoomAt told.clear told.roomy told.unseen

  -- the mate at a place was told by its sender, with the keys that changed for it and what came back to it
  abbrev pub TellsAt : {E : Type 0} → ℕ → Result ℕ E → List (Option KeyCells) → ℕ → List (List ℕ) → List (List ℕ) → List ℕ → List ℕ → List O → List O → Type 0
  TellsAt place result cells taken changed changed_now turned turned_now senders senders_now =
      TellsOne result cells taken (slice_index_or changed place []) (slice_index_or changed_now place []) (sent_at told senders place) (sent_at told senders_now place)
      (slice_index_or turned place 0) (slice_index_or turned_now place 0) (fulls_at told senders place) (fulls_at told senders_now place) (room_at senders place)

  -- and so all mates
  abbrev pub TellsMates : {E : Type 0} → Result ℕ E → List (Option KeyCells) → ℕ → List (List ℕ) → List (List ℕ) → List ℕ → List ℕ → List O → List O → Type 0
  TellsMates result cells taken changed changed_now turned turned_now senders senders_now =
      TellsAll result cells taken changed changed_now (map told.sent senders) (map told.sent senders_now) turned turned_now (map told.fulls senders) (map told.fulls senders_now)
      (room_at senders)
