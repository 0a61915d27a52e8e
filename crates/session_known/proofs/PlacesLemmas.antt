-- Final cells stand key after key.
use Rattle.std.specs.Prelude.{◌≡◌, ℕ, zero, suc, ◌+◌, ◌≤◌, List, [], ◌∷◌, ◌++◌, length, map, take, drop, All}
use Rattle.std.specs.List.{flat_map, range_with_len}
use Rattle.std.proofs.Common.{refl, sym, ap, subst, ◌∙◌, arith}
use Rattle.std.proofs.lemmas.List.{get_or-map, length-map, take-map, drop-map, take-append-drop}
use Rattle.std.proofs.lemmas.List.Elements.{All-append, All-map, All-nil, All-same, All-weaker}
use Rattle.std.proofs.Math.Seq.{take-append_seam, drop-append_seam}
use Rattle.session_known.specs.declared.report.FinalCell.{FinalCell}

-- where a cell stands
abbrev pub place : FinalCell → ℕ × ℕ
place cell = (cell.key, cell.worker)

-- the places of a key
abbrev pub places_of_key : (ℕ → List ℕ) → ℕ → List (ℕ × ℕ)
places_of_key workers key = map (λ worker. (key, worker)) (workers key)

-- the cells that stand at the first of two lists of places, and at the second
pub cells_at_first : (cells : List FinalCell) (places others : List (ℕ × ℕ)) → map place cells ≡ places ++ others → map place (take (length places) cells) ≡ places
cells_at_first cells places others are =
    sym (take-map place (length places) cells) ∙ ap (take (length places)) are ∙ take-append_seam places others

pub cells_at_second : (cells : List FinalCell) (places others : List (ℕ × ℕ)) → map place cells ≡ places ++ others → map place (drop (length places) cells) ≡ others
cells_at_second cells places others are =
    sym (drop-map place (length places) cells) ∙ ap (drop (length places)) are ∙ drop-append_seam places others

-- what holds of the places of cells
All-from_places : (P : ℕ × ℕ → Type 0) (cells : List FinalCell) → All P (map place cells) → All (λ cell. P (place cell)) cells
All-from_places P cells all k d within = subst P (get_or-map place cells k d (place d) within) (all k (place d) (omega (arith, length-map cells place)))

-- cells that stand at places of a key have the key
pub of_key : (key : ℕ) (workers : List ℕ) (cells : List FinalCell) → map place cells ≡ map (λ worker. (key, worker)) workers → All (λ cell. cell.key ≡ key) cells
of_key key workers cells are =
    let IsOf : ℕ × ℕ → Type 0 = λ p. p.0 ≡ key in
    All-from_places IsOf cells (All-same IsOf (map place cells) (map (λ worker. (key, worker)) workers) are (All-map IsOf (λ worker. (key, worker)) workers (λ k d within. refl)))

-- the places of keys from one on
abbrev pub places_from : (ℕ → List ℕ) → ℕ → ℕ → List (ℕ × ℕ)
places_from workers start n = flat_map (places_of_key workers) (range_with_len start n)

-- cells that stand there have such a key
pub of_keys_from : (workers : ℕ → List ℕ) (start n : ℕ) (cells : List FinalCell) → map place cells ≡ places_from workers start n → All (λ cell. start ≤ cell.key) cells
of_keys_from workers start zero [] are = All-nil (λ (cell : FinalCell). start ≤ cell.key)
of_keys_from workers start zero (cell ∷ cells) are = cc
of_keys_from workers start (suc n) cells are =
    let places = places_of_key workers start in
    let first = take (length places) cells in
    let others = drop (length places) cells in
    let From : FinalCell → Type 0 = λ cell. start ≤ cell.key in
    let at_first : All From first =
    All-weaker (λ cell. cell.key ≡ start) From (λ cell is. omega (arith, is)) first (of_key start (workers start) first (cells_at_first cells places (places_from workers (start + 1) n) are)) in
    let at_others : All From others =
    All-weaker (λ cell. start + 1 ≤ cell.key) From (λ cell is. omega (arith, is)) others
    (of_keys_from workers (start + 1) n others (cells_at_second cells places (places_from workers (start + 1) n) are)) in
    All-same From cells (first ++ others) (sym (take-append-drop (length places) cells)) (All-append From first others at_first at_others)
