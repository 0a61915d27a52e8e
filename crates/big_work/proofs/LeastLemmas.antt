-- The cells whose key differs from that of the cell before are those of the least workers.
use Rattle.std.specs.Prelude.{◌≡◌, ℕ, zero, suc, nat_eq, Bool, true, false, ◌+◌, ◌<◌, ◌≤◌, ◌==◌, List, [], ◌∷◌, ◌++◌, filter, length, map, take, drop, Option, Some, None, All, ⊤}
use Rattle.std.specs.List.{flat_map, range_with_len}
use Rattle.std.specs.Option.{option_eq}
use Rattle.std.proofs.Common.{refl, sym, ap, subst, ◌∙◌, append-nil, arith}
use Rattle.std.proofs.lemmas.Bool.{eq-eqb, ne_eqb}
use Rattle.std.proofs.lemmas.List.{take-append-drop}
use Rattle.std.proofs.lemmas.List.Elements.{All-head, All-tail, All-weaker, filter-append}
use Rattle.lattice_laws.proofs.ListLemmas.{filter_all}
use Rattle.session_known.proofs.PlacesLemmas.{place, places_of_key, places_from, cells_at_first, cells_at_second, of_key, of_keys_from}
use Rattle.session_known.specs.declared.report.FinalCell.{FinalCell}
use Rattle.big_work.specs.Big.{least_cell}
use Rattle.big_work.specs.Parts.{first_cells}

-- where none passes a test, all are left out
filter_none : {X : Type 0} (test : X → Bool) (xs : List X) → All (λ x. test x ≡ false) xs → filter test xs ≡ []
filter_none test [] none = refl
filter_none test (x ∷ xs) none = rw (All-head (λ x. test x ≡ false) x xs none) (filter_none test xs (All-tail (λ x. test x ≡ false) x xs none))

-- what is made of the numbers from one on, where it is the same of each
flat_map_from : {X : Type 0} (f g : ℕ → List X) (start n : ℕ) → ((key : ℕ) → start ≤ key → f key ≡ g key)
    → flat_map f (range_with_len start n) ≡ flat_map g (range_with_len start n)
flat_map_from f g start zero same = refl
flat_map_from f g start (suc n) same =
    λ j. same start (omega arith) j ++ flat_map_from f g (start + 1) n (λ key from. same key (omega arith)) j

-- ---- the first of each key

-- more cells of the key that was picked last are passed over
first_passed : (key : ℕ) (cells others : List FinalCell) → All (λ cell. cell.key ≡ key) cells → first_cells (Some key) (cells ++ others) ≡ first_cells (Some key) others
unfolding first_cells
first_passed key [] others of = refl
first_passed key (cell ∷ cells) others of =
    let is : cell.key ≡ key = All-head (λ (cell : FinalCell). cell.key ≡ key) cell cells of in
    rw (eq-eqb key cell.key (sym is)) (first_passed key cells others (All-tail (λ (cell : FinalCell). cell.key ≡ key) cell cells of))

-- the last key that was picked, where there is one, is an earlier one
abbrev IsBefore : Option ℕ → ℕ → Type 0
IsBefore None key = ⊤
IsBefore (Some last) key = last < key

-- so a cell of the key is picked
is_other : (last : Option ℕ) (key : ℕ) → IsBefore last key → option_eq nat_eq last (Some key) ≡ false
is_other None key before = refl
is_other (Some last) key before = ne_eqb last key (λ same. omega (arith, same, before))

-- the last key that is picked once cells of a key were seen
abbrev picked_after : Option ℕ → ℕ → List FinalCell → Option ℕ
picked_after last key [] = last
picked_after last key (cell ∷ cells) = Some key

picked_before : (last : Option ℕ) (key : ℕ) (cells : List FinalCell) → IsBefore last key → IsBefore (picked_after last key cells) (key + 1)
picked_before None key [] before = tt
picked_before (Some last) key [] before = omega (arith, before)
picked_before last key (cell ∷ cells) before = omega arith

-- of the cells of a later key the first is picked
first_of_key : (last : Option ℕ) (key : ℕ) (cells others : List FinalCell) → IsBefore last key → All (λ cell. cell.key ≡ key) cells
    → first_cells last (cells ++ others) ≡ take 1 cells ++ first_cells (picked_after last key cells) others
unfolding first_cells
first_of_key last key [] others before of = refl
first_of_key last key (cell ∷ cells) others before of =
    let is : cell.key ≡ key = All-head (λ (cell : FinalCell). cell.key ≡ key) cell cells of in
    rw (ap (λ k. option_eq nat_eq last (Some k)) is ∙ is_other last key before)
    (ap (λ k. cell ∷ first_cells (Some k) (cells ++ others)) is ∙ ap (λ rest. cell ∷ rest) (first_passed key cells others (All-tail (λ (cell : FinalCell). cell.key ≡ key) cell cells of)))

-- it is the cell of the key's least worker, where no other cell has the key
least_here : (key : ℕ) (cells others : List FinalCell) → All (λ cell. cell.key ≡ key) cells → All (λ cell. key + 1 ≤ cell.key) others
    → least_cell (cells ++ others) key ≡ take 1 cells
least_here key cells others of later =
    let test : FinalCell → Bool = λ cell. cell.key == key in
    let none : filter test others ≡ [] =
    filter_none test others (All-weaker (λ cell. key + 1 ≤ cell.key) (λ cell. test cell ≡ false) (λ cell is. ne_eqb cell.key key (λ same. omega (arith, is, same))) others later) in
    let all : filter test cells ≡ cells = filter_all test cells (All-weaker (λ cell. cell.key ≡ key) (λ cell. test cell ≡ true) (λ cell is. eq-eqb cell.key key is) cells of) in
    ap (take 1) (filter-append test cells others ∙ (λ j. all j ++ none j) ∙ append-nil cells)

-- and the cells of a key say nothing of the later ones
least_later : (key later : ℕ) (cells others : List FinalCell) → key + 1 ≤ later → All (λ cell. cell.key ≡ key) cells → least_cell (cells ++ others) later ≡ least_cell others later
least_later key later cells others after of =
    let test : FinalCell → Bool = λ cell. cell.key == later in
    let none : filter test cells ≡ [] =
    filter_none test cells (All-weaker (λ cell. cell.key ≡ key) (λ cell. test cell ≡ false) (λ cell is. ne_eqb cell.key later (λ same. omega (arith, is, same, after))) cells of) in
    ap (take 1) (filter-append test cells others ∙ ap (λ kept. kept ++ filter test others) none)

-- Where cells stand key after key, those that are picked are the least workers' of each key.
pub firsts_are_least : (workers : ℕ → List ℕ) (start n : ℕ) (cells : List FinalCell) (last : Option ℕ) → IsBefore last start → map place cells ≡ places_from workers start n
    → first_cells last cells ≡ flat_map (least_cell cells) (range_with_len start n)
unfolding first_cells
firsts_are_least workers start zero [] last before are = refl
firsts_are_least workers start zero (cell ∷ cells) last before are = cc
firsts_are_least workers start (suc n) cells last before are =
    let places = places_of_key workers start in
    let rest = places_from workers (start + 1) n in
    let first = take (length places) cells in
    let others = drop (length places) cells in
    let of_first = of_key start (workers start) first (cells_at_first cells places rest are) in
    let at_others = cells_at_second cells places rest are in
    let of_others = of_keys_from workers (start + 1) n others at_others in
    let after = picked_after last start first in
    let whole : cells ≡ first ++ others = sym (take-append-drop (length places) cells) in
    let here = least_here start first others of_first of_others in
    let later = flat_map_from (least_cell (first ++ others)) (least_cell others) (start + 1) n (λ key from. least_later start key first others from of_first) in
    let split : first_cells last (first ++ others) ≡ flat_map (least_cell (first ++ others)) (range_with_len start (suc n)) =
    first_of_key last start first others before of_first
    ∙ (λ j. sym here j ++ (firsts_are_least workers (start + 1) n others after (picked_before last start first before) at_others ∙ sym later) j) in
    subst (λ all. first_cells last all ≡ flat_map (least_cell all) (range_with_len start (suc n))) (sym whole) split
