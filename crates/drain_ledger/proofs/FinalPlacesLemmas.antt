-- The final cells of workers that hold the keys that live there stand at the places where the keys live, and are their whole cells.
use Rattle.std.specs.Prelude.{◌≡◌, ◌==◌, ℕ, ◌<◌, Bool, true, false, cond, is_some, List, [], ◌∷◌, ◌++◌, All, filter, flat_map, length, map, slice_index_or, Option, Some, None, option_map}
use Rattle.std.specs.List.{list_any, range_with_len}
use Rattle.std.proofs.Common.{◌∙◌, refl, ap, subst, arith}
use Rattle.std.proofs.lemmas.List.{map-append}
use Rattle.std.proofs.lemmas.List.FromFn.{get_or-range_with_len, length-range_with_len}
use Rattle.std.proofs.lemmas.List.Elements.{All-append, All-cons, All-head, All-nil, All-tail}
use Rattle.merge_world.specs.Effects.{cells_at}
use Rattle.merge_world.specs.declared.private_map.KeyCells.{KeyCells}
use Rattle.placement.specs.Asked.{replicas_of}
use Rattle.placement.specs.Config.{IsOneOf}
use Rattle.run_ledger.specs.Came.{IsWhole, final_of}
use Rattle.run_ledger.specs.Ledger.{Ledger, worker_at}
use Rattle.session_known.specs.Form.{final_places}
use Rattle.session_known.specs.declared.report.FinalCell.{FinalCell}
use Rattle.session_known.specs.declared.script.Script.{Script}
use Rattle.drain_ledger.specs.Finals.{cells_of, final_where, finals_of, finals_of_key}

-- where a final cell stands
abbrev place_of : FinalCell → ℕ × ℕ
place_of cell = (cell.key, cell.worker)

-- a key stands once where it is held, and else not
place_where : (key worker : ℕ) (cells : Option KeyCells) → map place_of (final_where key worker cells) ≡ cond (is_some cells) ((key, worker) ∷ []) []
place_where key worker None = refl
place_where key worker (Some cells) = refl

-- so among the workers of which a test tells that they hold it
places_of_key : (key : ℕ) (holds : ℕ → Bool) (cells : ℕ → Option KeyCells) (workers : List ℕ) → All (λ worker. is_some (cells worker) ≡ holds worker) workers
    → map place_of (flat_map (λ worker. final_where key worker (cells worker)) workers) ≡ map (λ worker. (key, worker)) (filter holds workers)
places_of_key key holds cells [] are = refl
places_of_key key holds cells (worker ∷ workers) are =
    let here : List (ℕ × ℕ) = (key, worker) ∷ [] in
    let first : map place_of (final_where key worker (cells worker)) ≡ cond (holds worker) here [] =
    place_where key worker (cells worker) ∙ ap (λ t. cond t here []) (All-head (λ w. is_some (cells w) ≡ holds w) worker workers are)
    in
    let rest = places_of_key key holds cells workers (All-tail (λ w. is_some (cells w) ≡ holds w) worker workers are) in
    map-append place_of (final_where key worker (cells worker)) (flat_map (λ w. final_where key w (cells w)) workers)
    ∙ (λ j. first j ++ rest j)
    ∙ elim (holds worker) as
    (λ t. cond t here [] ++ map (λ w. (key, w)) (filter holds workers) ≡ map (λ w. (key, w)) (cond t (worker ∷ filter holds workers) (filter holds workers))) [
      | true ↦ refl
      | false ↦ refl
    ]

-- pieces that are mapped
mapped_pieces : {X Y Z : Type 0} (f : Y → Z) (pieces : X → List Y) (others : X → List Z) (xs : List X) → All (λ x. map f (pieces x) ≡ others x) xs → map f (flat_map pieces xs) ≡ flat_map others xs
mapped_pieces f pieces others [] are = refl
mapped_pieces f pieces others (x ∷ xs) are =
    map-append f (pieces x) (flat_map pieces xs)
    ∙ (λ j. All-head (λ x. map f (pieces x) ≡ others x) x xs are j ++ mapped_pieces f pieces others xs (All-tail (λ x. map f (pieces x) ≡ others x) x xs are) j)

-- the numbers of a range are in range
one_of : (last place d : ℕ) → place < length (range_with_len 1 last) → IsOneOf last (slice_index_or (range_with_len 1 last) place d)
one_of last place d low =
    let within : place < last = omega (arith, low, length-range_with_len 1 last) in
    let is = get_or-range_with_len 1 last place d within in
    (omega (arith, is), omega (arith, is, within))

module _ (script : Script) (table : List (List ℕ)) (maps : List (List (Option KeyCells))) (as_many : length maps ≡ script.config.workers)
    (held : (key worker : ℕ) → IsOneOf (length script.config.keys) key → IsOneOf script.config.workers worker
    → is_some (cells_at (cells_of maps worker) key) ≡ list_any (λ replica. replica == worker) (replicas_of table key)) where
  -- the final cells stand where the keys live
  pub places_are : map place_of (finals_of (length script.config.keys) maps) ≡ final_places script table
  places_are =
      mapped_pieces place_of (λ key. finals_of_key key maps)
      (λ key. map (λ worker. (key, worker)) (filter (λ worker. list_any (λ replica. replica == worker) (replicas_of table key)) (range_with_len 1 script.config.workers)))
      (range_with_len 1 (length script.config.keys)) (λ k d low.
      let key : ℕ = slice_index_or (range_with_len 1 (length script.config.keys)) k d in
      places_of_key key (λ worker. list_any (λ replica. replica == worker) (replicas_of table key)) (λ worker. cells_at (cells_of maps worker) key) (range_with_len 1 (length maps))
      (λ i e few. held key (slice_index_or (range_with_len 1 (length maps)) i e) (one_of (length script.config.keys) k d low)
      (subst (λ last. IsOneOf last (slice_index_or (range_with_len 1 (length maps)) i e)) as_many (one_of (length maps) i e few)))
      ∙ ap (λ n. map (λ worker. (key, worker)) (filter (λ worker. list_any (λ replica. replica == worker) (replicas_of table key)) (range_with_len 1 n))) as_many)

module _ (ledger : Ledger) (maps : List (List (Option KeyCells))) (are_theirs : (worker : ℕ) → (worker_at ledger worker).cells ≡ cells_of maps worker) where
  whole_where : (key worker : ℕ) (cells : Option KeyCells) → cells_at (cells_of maps worker) key ≡ cells → All (IsWhole ledger) (final_where key worker cells)
  whole_where key worker None is = All-nil (IsWhole ledger)
  whole_where key worker (Some cells) is =
      All-cons (IsWhole ledger) (final_of key worker cells) []
      (ap (λ its. option_map (final_of key worker) (cells_at its key)) (are_theirs worker) ∙ ap (option_map (final_of key worker)) is) (All-nil (IsWhole ledger))

  all_pieces : {X : Type 0} (pieces : X → List FinalCell) (xs : List X) → ((x : X) → All (IsWhole ledger) (pieces x)) → All (IsWhole ledger) (flat_map pieces xs)
  all_pieces pieces [] each = All-nil (IsWhole ledger)
  all_pieces pieces (x ∷ xs) each = All-append (IsWhole ledger) (pieces x) (flat_map pieces xs) (each x) (all_pieces pieces xs each)

  -- and each is the whole cell of its worker
  pub finals_whole : (keys : ℕ) → All (IsWhole ledger) (finals_of keys maps)
  finals_whole keys =
      all_pieces (λ key. finals_of_key key maps) (range_with_len 1 keys) (λ key.
      all_pieces (λ worker. final_where key worker (cells_at (cells_of maps worker) key)) (range_with_len 1 (length maps)) (λ worker.
      whole_where key worker (cells_at (cells_of maps worker) key) refl))
