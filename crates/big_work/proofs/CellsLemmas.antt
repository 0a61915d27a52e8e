-- The first cell of each key.
use Rattle.std.specs.Prelude.{◌≡◌, ℕ, nat_eq, true, false, ◌+◌, ◌<◌, ◌≤◌, List, [], ◌∷◌, ◌++◌, drop, length, slice_index_or, Option, Some, None}
use Rattle.std.specs.List.{flat_map}
use Rattle.std.proofs.Common.{refl, sym, ap, subst, ◌∙◌, append-nil, append_assoc}
use Rattle.std.proofs.lemmas.List.{drop_all, drop_more}
use Rattle.outside.specs.Outside.{Grew, GrewByFront}
use Rattle.outside.proofs.OutsideLemmas.{Grew-more, Grew-none}
use Rattle.session_known.specs.declared.report.FinalCell.{FinalCell}
use Rattle.std.specs.Option.{option_eq}
use Rattle.big_work.specs.Parts.{first_cells}
use Rattle.big_work.proofs.WroteLemmas.{front_of_more, front_then}

-- ---- one cell after another

-- a cell of the key of the last is passed over
cell_passed : (cell : FinalCell) (cells : List FinalCell) (last : Option ℕ) → option_eq nat_eq last (Some cell.key) ≡ true
    → first_cells last (cell ∷ cells) ≡ first_cells last cells
unfolding first_cells
cell_passed cell cells last same = rw same refl

-- another is picked
cell_picked : (cell : FinalCell) (cells : List FinalCell) (last : Option ℕ) → option_eq nat_eq last (Some cell.key) ≡ false
    → first_cells last (cell ∷ cells) ≡ cell ∷ first_cells (Some cell.key) cells
unfolding first_cells
cell_picked cell cells last other = rw other refl

-- Of the texts of the first cells some are written, and those of the first cells of the rest are left.
pub record AreWritten (before now : Option (List ℕ)) (text : FinalCell → List ℕ) (cells : List FinalCell) (last : Option ℕ) (rest : List FinalCell) : Type 0 where
  pub given : List ℕ
  pub grew : Grew before now given
  pub whole : flat_map text (first_cells None cells) ≡ given ++ flat_map text (first_cells last rest)

-- none is written yet
pub none_written : (before : Option (List ℕ)) (text : FinalCell → List ℕ) (cells : List FinalCell) → AreWritten before before text cells None cells
none_written before text cells = record { given = []; grew = Grew-none before; whole = refl }

-- all are written
pub all_written : (before now : Option (List ℕ)) (text : FinalCell → List ℕ) (cells : List FinalCell) (last : Option ℕ) (i : ℕ) → length cells ≤ i
    → AreWritten before now text cells last (drop i cells) → Grew before now (flat_map text (first_cells None cells))
unfolding first_cells
all_written before now text cells last i end written =
    let are : AreWritten before now text cells last [] = subst (AreWritten before now text cells last) (drop_all i cells end) written in
    subst (Grew before now) (sym (are.whole ∙ append-nil are.given)) are.grew

module _ (before now : Option (List ℕ)) (text : FinalCell → List ℕ) (cells : List FinalCell) (last : Option ℕ) (i : ℕ) (cell : FinalCell)
    (within : i < length cells) (is : cell ≡ slice_index_or cells i cell)
    (written : AreWritten before now text cells last (drop i cells)) where
  -- the next cell and those after it are left
  next_left : AreWritten before now text cells last (cell ∷ drop (i + 1) cells)
  next_left = subst (AreWritten before now text cells last) (drop_more cells i cell within ∙ ap (λ next. next ∷ drop (i + 1) cells) (sym is)) written

  -- it is passed over
  pub written_passed : option_eq nat_eq last (Some cell.key) ≡ true → AreWritten before now text cells last (drop (i + 1) cells)
  written_passed same =
      let are = next_left in
      record { given = are.given; grew = are.grew; whole = are.whole ∙ ap (λ firsts. are.given ++ flat_map text firsts) (cell_passed cell (drop (i + 1) cells) last same) }

  -- what is left where it is picked
  picked_whole : option_eq nat_eq last (Some cell.key) ≡ false
      → flat_map text (first_cells None cells) ≡ (next_left.given ++ text cell) ++ flat_map text (first_cells (Some cell.key) (drop (i + 1) cells))
  picked_whole other =
      let are = next_left in
      let rest = drop (i + 1) cells in
      are.whole ∙ ap (λ firsts. are.given ++ flat_map text firsts) (cell_picked cell rest last other) ∙ sym (append_assoc are.given (text cell) (flat_map text (first_cells (Some cell.key) rest)))

  -- its text is written
  pub written_picked : (later : Option (List ℕ)) → option_eq nat_eq last (Some cell.key) ≡ false → Grew now later (text cell)
      → AreWritten before later text cells (Some cell.key) (drop (i + 1) cells)
  written_picked later other grew =
      record { given = next_left.given ++ text cell; grew = Grew-more before now later next_left.given (text cell) next_left.grew grew; whole = picked_whole other }

  -- or a front of it
  pub written_cut : (later : Option (List ℕ)) → option_eq nat_eq last (Some cell.key) ≡ false → GrewByFront now later (text cell)
      → GrewByFront before later (flat_map text (first_cells None cells))
  written_cut later other front =
      subst (GrewByFront before later) (sym (picked_whole other))
      (front_of_more before later (next_left.given ++ text cell) (flat_map text (first_cells (Some cell.key) (drop (i + 1) cells)))
      (front_then before now later next_left.given (text cell) next_left.grew front))
