-- The lines of keys, and where the final cells of a key stand among those that were not passed yet.
use Rattle.std.specs.Prelude.{◌≡◌, ℕ, suc, ◌+◌, ◌<◌, ◌≤◌, ◌==◌, Bool, true, false, List, [], ◌∷◌, ◌++◌, cond, length, map, take, drop, get_or, decimal, codes, Some}
use Rattle.std.specs.List.{flat_map, range_with_len, slice_get}
use Rattle.std.specs.List.Sorted.{IsPartitionPoint, IsPartitionedBy}
use Rattle.std.proofs.Common.{◌-◌, sym, ap, ◌∙◌, arith, inl, inr}
use Rattle.std.proofs.lemmas.Bool.{both_ways, cases_lt, cases_order, eq-eqb, le-leb, lt-leb, ne_eqb}
use Rattle.std.proofs.lemmas.List.{append-nil, get_or-take, get_or-drop, length-drop, length-map, length-take, map-append, map-id}
use Rattle.std.proofs.lemmas.Simd.{map-map}
use Rattle.std.proofs.lemmas.List.Concat.{flat_map-append}
use Rattle.std.proofs.lemmas.List.FromFn.{map-range_with_len_more}
use Rattle.session_known.proofs.PlacesLemmas.{place, places_of_key, places_from, cells_at_first, cells_at_second, of_key, of_keys_from}
use Rattle.session_known.specs.declared.report.FinalCell.{FinalCell}
use Rattle.session_known.specs.declared.script.Script.{Script}
use Rattle.report_lines.specs.Text.{head_lines, line_text, placed_words, spaced}
use Rattle.report_text.proofs.WritesLemmas.{take_one_more}

-- ---- the cells of a key among those of it and of later keys

module _ (workers : ℕ → List ℕ) (key n : ℕ) (cells : List FinalCell) (stand : map place cells ≡ places_from workers key (suc n)) where
  -- how many there are of the key
  abbrev pub count : ℕ
  count = length (places_of_key workers key)

  -- a cell is of the key
  abbrev pub is_of : FinalCell → Bool
  is_of cell = cell.key == key

  -- those of the key come first
  pub first_stand : map place (take count cells) ≡ places_of_key workers key
  first_stand = cells_at_first cells (places_of_key workers key) (places_from workers (key + 1) n) stand

  -- and those of later keys after them
  pub later_stand : map place (drop count cells) ≡ places_from workers (key + 1) n
  later_stand = cells_at_second cells (places_of_key workers key) (places_from workers (key + 1) n) stand

  -- which are no more than all
  few : count ≤ length cells
  few = omega (arith, ap length first_stand, length-map (take count cells) place, length-take count cells)

  first_is : (k : ℕ) (d : FinalCell) → k < count → is_of (get_or cells k d) ≡ true
  first_is k d within =
      let is : (get_or (take count cells) k d).key ≡ key = of_key key (workers key) (take count cells) first_stand k d (omega (arith, within, few, length-take count cells)) in
      eq-eqb (get_or cells k d).key key (ap (λ (cell : FinalCell). cell.key) (sym (get_or-take count cells k d within)) ∙ is)

  later_is : (k : ℕ) (d : FinalCell) → count ≤ k → k < length cells → is_of (get_or cells k d) ≡ false
  later_is k d after within =
      let later : key + 1 ≤ (get_or (drop count cells) (k - count) d).key = of_keys_from workers (key + 1) n (drop count cells) later_stand (k - count) d (omega (arith, after, within, length-drop count cells)) in
      let there : count + (k - count) ≡ k = omega (arith, after) in
      let same : (get_or (drop count cells) (k - count) d).key ≡ (get_or cells k d).key = ap (λ (cell : FinalCell). cell.key) (get_or-drop count cells (k - count) d ∙ ap (λ k. get_or cells k d) there) in
      ne_eqb (get_or cells k d).key key (λ is. omega (arith, later, same, is))

  -- So the cells are parted.
  pub parted : IsPartitionedBy is_of cells
  parted i j d below within passes = elim (cases_lt i count) [
    | inl first ↦ first_is i d first
    | inr after ↦ absurd (both_ways (is_of (get_or cells j d)) (later_is j d (omega (arith, after, below)) within) passes)
  ]

  -- no cell is both
  point_of : (i : ℕ) (d : FinalCell) → i ≤ length cells → IsPartitionPoint (λ cell. is_of cell ≡ true) (λ cell. is_of cell ≡ false) cells i → i ≡ count
  point_of i d within point = elim (cases_order i count) [
    | inl is ↦ is
    | inr other ↦ elim other [
      | inl less ↦ absurd (both_ways (is_of (get_or cells i d)) (point.1 i d (omega arith) (omega (arith, less, few))) (first_is i d less))
      | inr more ↦ absurd (both_ways (is_of (get_or cells count d)) (later_is count d (omega arith) (omega (arith, more, within))) (point.0 count d (omega arith) more))
    ]
  ]

-- And they are parted where those of the key end.
pub point_is : (workers : ℕ → List ℕ) (key n : ℕ) (cells : List FinalCell) → map place cells ≡ places_from workers key (suc n) → (i : ℕ) → i ≤ length cells
    → IsPartitionPoint (λ cell. (cell.key == key) ≡ true) (λ cell. (cell.key == key) ≡ false) cells i → i ≡ length (places_of_key workers key)
point_is workers key n [] stand i within point = omega (arith, within, few workers key n [] stand)
point_is workers key n (cell ∷ cells) stand i within point = point_of workers key n (cell ∷ cells) stand i cell within point

-- the workers of cells that stand at places of a key
pub workers_are : (workers : ℕ → List ℕ) (key : ℕ) (cells : List FinalCell) → map place cells ≡ places_of_key workers key → map (λ cell. cell.worker) cells ≡ workers key
workers_are workers key cells are =
    sym (map-map (λ (at : ℕ × ℕ). at.1) place cells) ∙ ap (map (λ (at : ℕ × ℕ). at.1)) are ∙ map-map (λ (at : ℕ × ℕ). at.1) (λ (worker : ℕ). (key, worker)) (workers key) ∙ map-id (workers key)

-- ---- texts

-- the texts of lines, one for each number from 1, and one more
pub lines_more : (line : ℕ → List (List ℕ)) (i : ℕ) → flat_map line_text (map line (range_with_len 1 i)) ++ line_text (line (i + 1)) ≡ flat_map line_text (map line (range_with_len 1 (i + 1)))
lines_more line i =
    ap (λ last. flat_map line_text (map line (range_with_len 1 i)) ++ last) (sym (append-nil (line_text (line (i + 1)))))
    ∙ sym (flat_map-append line_text (map line (range_with_len 1 i)) (line (i + 1) ∷ []))
    ∙ ap (flat_map line_text) (sym (map-range_with_len_more line 1 i (i + 1) (omega arith)))

-- the numbers of the workers of some cells, and of one more
pub workers_more : (cells : List FinalCell) (i : ℕ) (cell : FinalCell) → slice_get cells i ≡ Some cell → spaced (map decimal (map (λ cell. cell.worker) (take i cells)) ++ decimal cell.worker ∷ []) ≡ spaced (map decimal (map (λ cell. cell.worker) (take (i + 1) cells)))
workers_more cells i cell got =
    let Worker : FinalCell → ℕ = λ cell. cell.worker in
    ap spaced (sym (ap (map decimal) (ap (map Worker) (take_one_more cells i cell got) ∙ map-append Worker (take i cells) (cell ∷ [])) ∙ map-append decimal (map Worker (take i cells)) (cell.worker ∷ [])))

-- the first line of a report
abbrev pub first_words : ℕ → List (List ℕ)
first_words version = codes "anna" ∷ codes "report" ∷ decimal version ∷ []

-- the text of the lines before the sessions, in version 1 and later
pub head_one : (script : Script) → script.version < 2 → line_text (first_words script.version) ≡ flat_map line_text (head_lines script)
head_one script one =
    let keys = map (placed_words script) (range_with_len 1 (length script.config.keys)) in
    sym (append-nil (line_text (first_words script.version))) ∙ ap (λ later. flat_map line_text (first_words script.version ∷ cond later keys [])) (sym (lt-leb 2 script.version one))

pub head_two : (script : Script) → 2 ≤ script.version → line_text (first_words script.version) ++ flat_map line_text (map (placed_words script) (range_with_len 1 (length script.config.keys))) ≡ flat_map line_text (head_lines script)
head_two script two =
    let keys = map (placed_words script) (range_with_len 1 (length script.config.keys)) in
    ap (λ later. flat_map line_text (first_words script.version ∷ cond later keys [])) (sym (le-leb 2 script.version two))
