-- The final cells, one worker and one key after another.
use Rattle.std.specs.Prelude.{◌≡◌, ℕ, suc, ◌+◌, List, [], ◌∷◌, ◌++◌, flat_map, slice_index_or, Option}
use Rattle.std.specs.List.{range_with_len}
use Rattle.std.proofs.Common.{◌∙◌, sym, ap, append-nil, arith}
use Rattle.std.proofs.lemmas.List.{append_assoc}
use Rattle.std.proofs.lemmas.List.Concat.{flat_map-append}
use Rattle.merge_world.specs.Effects.{cells_at}
use Rattle.merge_world.specs.declared.private_map.KeyCells.{KeyCells}
use Rattle.placement.proofs.RingPoints.{range_more}
use Rattle.session_known.specs.declared.report.FinalCell.{FinalCell}
use Rattle.drain_ledger.specs.Finals.{cells_of, final_where}

-- the pieces of one number more
pub pieces_more : {X : Type 0} (pieces : ℕ → List X) (n : ℕ) → flat_map pieces (range_with_len 1 (n + 1)) ≡ flat_map pieces (range_with_len 1 n) ++ pieces (n + 1)
pieces_more pieces n =
    let next : 1 + n ≡ n + 1 = omega arith in
    ap (flat_map pieces) (range_more 1 n) ∙ flat_map-append pieces (range_with_len 1 n) ((1 + n) ∷ [])
    ∙ ap (λ last. flat_map pieces (range_with_len 1 n) ++ last) (append-nil (pieces (1 + n)))
    ∙ ap (λ last. flat_map pieces (range_with_len 1 n) ++ pieces last) next

-- an item of a list behind another one
pub behind_first : {X : Type 0} (first : X) (xs : List X) (i : ℕ) (d : X) → slice_index_or (first ∷ xs) (i + 1) d ≡ slice_index_or xs i d
behind_first first xs i d = let next : i + 1 ≡ suc i = omega arith in ap (λ n. slice_index_or (first ∷ xs) n d) next

-- the final cells of a key at the first workers and at one more
pub finals_more : (before now : List FinalCell) (key : ℕ) (maps : List (List (Option KeyCells))) (place : ℕ)
    → now ≡ before ++ flat_map (λ worker. final_where key worker (cells_at (cells_of maps worker) key)) (range_with_len 1 place)
    → now ++ final_where key (place + 1) (cells_at (slice_index_or maps place []) key)
    ≡ before ++ flat_map (λ worker. final_where key worker (cells_at (cells_of maps worker) key)) (range_with_len 1 (place + 1))
finals_more before now key maps place so_far =
    let pieces : ℕ → List FinalCell = λ worker. final_where key worker (cells_at (cells_of maps worker) key) in
    (λ j. so_far j ++ final_where key (place + 1) (cells_at (sym (behind_first [] maps place []) j) key))
    ∙ append_assoc before (flat_map pieces (range_with_len 1 place)) (pieces (place + 1))
    ∙ ap (λ these. before ++ these) (sym (pieces_more pieces place))
