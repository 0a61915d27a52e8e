-- Cells by key and worker, each that of the puts that its clock counts: before any is counted, and once one is written over.
use Rattle.std.specs.Prelude.{◌≡◌, ◌≢◌, ℕ, ◌-◌, ◌<◌, ◌==◌, List, [], length, map, replicate, slice_index_or, All, Contains}
use Rattle.std.proofs.Common.{refl, sym, ap, subst, ◌∙◌, inl, inr, arith, get_or, set}
use Rattle.std.proofs.lemmas.Bool.{eq-eqb, cases_eq}
use Rattle.std.proofs.lemmas.List.{length-map, length-replicate, length-set, get_or-map, get_or-replicate, get_or-set_same, get_or-set_other}
use Rattle.std.proofs.lemmas.List.Elements.{All-contains_itself, All-map, All-set, All-weaker}
use Rattle.lattice_laws.proofs.MembersLemmas.{contains_filter}
use Rattle.composed_value.specs.Cell.{PlainCell, empty_cell, cell_of}
use Rattle.composed_value.specs.PlainValue.{IsPutOf}
use Rattle.composed_value.specs.Sound.{counted}
use Rattle.composed_value.specs.declared.kind.Kind.{Kind}
use Rattle.composed_value.specs.declared.kind.Kind.TheVariants.{Max}
use Rattle.composed_value.specs.declared.put.Put.{Put}
use Rattle.composed_value.specs.Keyed.{puts_on, kind_at}
use Rattle.session_known.specs.Accepted.{made_on, AreNext}
use Rattle.placement.specs.Config.{IsOneOf}
use Rattle.anna_check.specs.Counted.{IsOfItsPuts, AreOfTheirPuts, cell_at, with_cell}
use Rattle.anna_check.proofs.CountedLemmas.{empty_of_its_puts, of_its_puts}
use Rattle.anna_check.proofs.SoundLemmas.{number_within}

-- Accepted puts on a key, those of each session numbered 1, 2 and so on, have numbers.
pub numbers_some : (accepted : List (ℕ × Put)) (key : ℕ) → ((session : ℕ) → AreNext 0 (made_on session key accepted)) → All (λ put. 0 < put.number) (puts_on key accepted)
numbers_some accepted key numbered =
    All-weaker (Contains (puts_on key accepted)) (λ put. 0 < put.number)
    (λ put has_it.
    let of_session = contains_filter (λ (other : Put). put.session == other.session) (puts_on key accepted) put has_it (eq-eqb put.session put.session refl) in
    (number_within (made_on put.session key accepted) (numbered put.session) put of_session).0)
    (puts_on key accepted) (All-contains_itself (puts_on key accepted))

-- The empty cells of keys of these kinds, each at so many workers, are those of their puts.
pub empty_of_their_puts : (kinds : List Kind) (workers : ℕ) (accepted : List (ℕ × Put)) → ((key : ℕ) → All (λ put. 0 < put.number) (puts_on key accepted)) → AreOfTheirPuts kinds workers accepted (map (λ kind. replicate workers (empty_cell kind)) kinds)
empty_of_their_puts kinds workers accepted some = record {
  keys = length-map kinds (λ kind. replicate workers (empty_cell kind));
  at_workers = All-map (λ at. length at ≡ workers) (λ kind. replicate workers (empty_cell kind)) kinds (λ k d within. length-replicate workers (empty_cell (get_or kinds k d)));
  each = λ key worker key_is worker_is.
      let is : cell_at (map (λ kind. replicate workers (empty_cell kind)) kinds) key worker ≡ empty_cell (kind_at kinds key) =
      ap (λ row. get_or row (worker - 1) (empty_cell Max)) (get_or-map (λ kind. replicate workers (empty_cell kind)) kinds (key - 1) Max [] (omega (arith, key_is)))
      ∙ get_or-replicate workers (worker - 1) (empty_cell (kind_at kinds key)) (empty_cell Max) (omega (arith, worker_is)) in
      subst (IsOfItsPuts (kind_at kinds key) (puts_on key accepted)) (sym is) (empty_of_its_puts (kind_at kinds key) (puts_on key accepted) (some key));
}

module _ (cells : List (List PlainCell)) (key worker : ℕ) (cell : PlainCell) (key_is : IsOneOf (length cells) key) where
  -- the row of the key, with the cell written over
  abbrev written : List PlainCell
  written = set (get_or cells (key - 1) []) (worker - 1) cell

  -- the cell that is written is read
  read_written : IsOneOf (length (get_or cells (key - 1) [])) worker → cell_at (with_cell cells key worker cell) key worker ≡ cell
  read_written worker_is =
      ap (λ row. get_or row (worker - 1) (empty_cell Max)) (get_or-set_same cells (key - 1) written [] (omega (arith, key_is)))
      ∙ get_or-set_same (get_or cells (key - 1) []) (worker - 1) cell (empty_cell Max) (omega (arith, worker_is))

  -- at another worker the cell is as before
  read_at_other : (other : ℕ) → other - 1 ≢ worker - 1 → cell_at (with_cell cells key worker cell) key other ≡ cell_at cells key other
  read_at_other other apart =
      ap (λ row. get_or row (other - 1) (empty_cell Max)) (get_or-set_same cells (key - 1) written [] (omega (arith, key_is)))
      ∙ get_or-set_other (get_or cells (key - 1) []) (worker - 1) (other - 1) cell (empty_cell Max) apart

  -- and on another key
  read_on_other : (other at : ℕ) → other - 1 ≢ key - 1 → cell_at (with_cell cells key worker cell) other at ≡ cell_at cells other at
  read_on_other other at apart = ap (λ row. get_or row (at - 1) (empty_cell Max)) (get_or-set_other cells (key - 1) (other - 1) written [] apart)

-- What is read once the cell of a key at a worker is written over.
pub read_back : (cells new : List (List PlainCell)) (key worker : ℕ) (cell read : PlainCell) → IsOneOf (length cells) key → IsOneOf (length (slice_index_or cells (key - 1) [])) worker → new ≡ with_cell cells key worker cell → read ≡ cell_at new key worker → read ≡ cell
read_back cells new key worker cell read key_is worker_is new_is is = is ∙ ap (λ all. cell_at all key worker) new_is ∙ read_written cells key worker cell key_is worker_is

-- cells of their puts stay so where that of a key at a worker is written over by one of its puts
still_of_their_puts : (kinds : List Kind) (workers : ℕ) (accepted : List (ℕ × Put)) (cells : List (List PlainCell)) (key worker : ℕ) (cell : PlainCell) → IsOneOf (length cells) key → IsOneOf (length (slice_index_or cells (key - 1) [])) worker
    → IsOfItsPuts (kind_at kinds key) (puts_on key accepted) cell → AreOfTheirPuts kinds workers accepted cells → AreOfTheirPuts kinds workers accepted (with_cell cells key worker cell)
still_of_their_puts kinds workers accepted cells key worker cell key_is worker_is its are =
    let IsOf : ℕ → PlainCell → Type 0 = λ on. IsOfItsPuts (kind_at kinds on) (puts_on on accepted) in
    let new : List (List PlainCell) = with_cell cells key worker cell in
    record {
      keys = length-set cells (key - 1) _ ∙ are.keys;
      at_workers = All-set (λ at. length at ≡ workers) cells (key - 1) _ (length-set (slice_index_or cells (key - 1) []) (worker - 1) cell ∙ are.at_workers (key - 1) [] (omega (arith, key_is))) are.at_workers;
      each = λ on at on_is at_is.
          elim (cases_eq on key) [
            | inl same ↦ subst (λ k. IsOf k (cell_at new k at)) (sym same) (elim (cases_eq at worker) [
              | inl here ↦ subst (λ w. IsOf key (cell_at new key w)) (sym here) (subst (IsOf key) (sym (read_written cells key worker cell key_is worker_is)) its)
              | inr apart ↦ subst (IsOf key) (sym (read_at_other cells key worker cell key_is at (λ e. apart (omega (arith, e, at_is, worker_is))))) (are.each key at (omega (arith, key_is, are.keys), omega (arith, key_is, are.keys)) at_is)
            ])
            | inr apart ↦ subst (IsOf on) (sym (read_on_other cells key worker cell key_is on at (λ e. apart (omega (arith, e, on_is, key_is))))) (are.each on at on_is at_is)
          ];
    }

-- So they stay where it is written over by the cell of the puts on the key that a clock counts.
pub counted_of_their_puts : (kinds : List Kind) (workers : ℕ) (accepted : List (ℕ × Put)) (cells new : List (List PlainCell)) (key worker : ℕ) (kind : Kind) (puts : List Put) (clock : List (ℕ × ℕ)) → IsOneOf (length cells) key → IsOneOf (length (slice_index_or cells (key - 1) [])) worker → All (IsPutOf kind) puts
    → new ≡ with_cell cells key worker (cell_of kind (counted puts clock)) → kind ≡ kind_at kinds key → puts ≡ puts_on key accepted → AreOfTheirPuts kinds workers accepted cells → AreOfTheirPuts kinds workers accepted new
counted_of_their_puts kinds workers accepted cells new key worker kind puts clock key_is worker_is all new_is kind_is puts_are are =
    let cell : PlainCell = cell_of kind (counted puts clock) in
    let its = subst (λ (of : Kind × List Put). IsOfItsPuts of.0 of.1 cell) (λ i. (kind_is i, puts_are i)) (of_its_puts kind puts clock all) in
    subst (AreOfTheirPuts kinds workers accepted) (sym new_is) (still_of_their_puts kinds workers accepted cells key worker cell key_is worker_is its are)
