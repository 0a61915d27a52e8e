-- What holds of each entry of each batch that a worker's box handed out holds of what it joined.
use Rattle.std.specs.Prelude.{◌≡◌, ◌==◌, ◌&&◌, ℕ, List, [], ◌∷◌, ◌++◌, All, Contains, filter, slice_index_or, Option, Some}
use Rattle.std.proofs.Common.{sym, subst, append-nil}
use Rattle.std.proofs.lemmas.Bool.{eqb-true, and_parts}
use Rattle.std.proofs.lemmas.List.Elements.{All-append, All-contains_itself, All-filter, All-head, All-map, All-nil, All-tail, filter_passes}
use Rattle.composed_value.specs.Cell.{PlainCell}
use Rattle.composed_value.specs.Kind.{kind_of_value}
use Rattle.composed_value.specs.declared.kind.Kind.{Kind}
use Rattle.merge_world.specs.Effects.{is_kind}
use Rattle.worker_core.specs.Share.{AreThoseOf, cells_on, entries_in}
use Rattle.worker_core.specs.State.{Entries}

module _ (Holds : ℕ × PlainCell → Type 0) where
  of_batches : (batches : List (ℕ × Entries)) → All (λ batch. All Holds batch.1) batches → All Holds (entries_in batches)
  of_batches [] are = All-nil Holds
  of_batches (batch ∷ batches) are =
      All-append Holds batch.1 (entries_in batches) (All-head (λ b. All Holds b.1) batch batches are) (of_batches batches (All-tail (λ b. All Holds b.1) batch batches are))

  -- what was joined, where it was handed out
  pub heard_all : (got : ℕ → ℕ → Option Entries) (joined : List (ℕ × Entries)) → AreThoseOf got (joined ++ [])
      → ((sender place : ℕ) (batch : Entries) → got sender place ≡ Some batch → All Holds batch) → All Holds (entries_in joined)
  heard_all got joined are of_each =
      of_batches joined (λ k d low.
      let batch : ℕ × Entries = slice_index_or joined k d in
      let there : Contains (joined ++ []) batch = subst (λ batches. Contains batches batch) (sym (append-nil joined)) (All-contains_itself joined k d low) in
      let from = are.no_others batch.0 batch.1 there in
      of_each batch.0 from.0 batch.1 from.1)

-- the cells of a key among entries
pub cells_all : (Holds : PlainCell → Type 0) (kind : Kind) (key : ℕ) (entries : Entries) → All (λ entry. entry.0 ≡ key → Holds entry.1) entries → All Holds (cells_on kind key entries)
cells_all Holds kind key entries are =
    let test = λ (entry : ℕ × PlainCell). entry.0 == key && is_kind (kind_of_value entry.1.value) kind in
    All-map Holds (λ (entry : ℕ × PlainCell). entry.1) (filter test entries) (λ k d low.
    All-filter test (λ entry. entry.0 ≡ key → Holds entry.1) entries are k d low (eqb-true _ key (and_parts _ _ (filter_passes test entries k d low)).0))
