-- What a worker has of a key stays sound when it takes a put and when it hears what was told.
use Rattle.std.specs.Prelude.{◌≡◌, ℕ, ◌+◌, ◌==◌, max, Bool, if◌then◌else◌, List, [], ◌∷◌, ◌++◌, length, option_map, Option, Some, None, Contains}
use Rattle.std.proofs.Common.{refl, sym, ap, subst, ◌∙◌, inl, inr, arith}
use Rattle.std.proofs.lemmas.Bool.{le-leb}
use Rattle.std.proofs.lemmas.Bool.Decides.{eqb_tells}
use Rattle.std.proofs.lemmas.Iterator.Adapters.{option_map_id}
use Rattle.lattice_laws.proofs.MembersLemmas.{contains_none, contains_first, contains_later, contains_cases}
use Rattle.clock_lattice.specs.Clock.{count_of}
use Rattle.composed_value.specs.Cell.{PlainCell, one_put_cell}
use Rattle.composed_value.specs.PlainValue.{IsPutOf, puts_of_session}
use Rattle.composed_value.specs.Sound.{AreAccepted}
use Rattle.composed_value.specs.declared.kind.Kind.{Kind}
use Rattle.composed_value.specs.declared.put.Put.{Put}
use Rattle.merge_world.specs.Effects.{cells_at, changed_at, empty_cells, hears, merged, with_heard, with_put}
use Rattle.merge_world.specs.declared.private_map.KeyCells.{KeyCells}
use Rattle.merge_world.proofs.CellsLemmas.{IsKept, CountsWithin, kept_empty, kept_merged, kept_next}
use Rattle.merge_world.proofs.PlacesLemmas.{changed_here, changed_none, changed_there}

-- both cells are sound, and the whole one counts what the own one does
pub record AreKept (kind : Kind) (puts : List Put) (cells : KeyCells) : Type 0 where
  pub own : IsKept kind puts cells.own
  pub whole : IsKept kind puts cells.whole
  pub within : CountsWithin cells.own cells.whole

-- the cells of no puts are
pub empty_kept : (kind : Kind) → AreKept kind [] (empty_cells kind)
empty_kept kind = record { own = kept_empty kind; whole = kept_empty kind; within = λ session. omega arith }

-- what cells are after a put was taken
pub record AreTaken (kind : Kind) (puts : List Put) (put : Put) (before after : KeyCells) : Type 0 where
  pub kept : AreKept kind (puts ++ put ∷ []) after
  pub own_counts : (session : ℕ) → count_of session after.own.clock ≡ max (count_of session before.own.clock) (count_of session (one_put_cell put).clock)
  pub grown : CountsWithin before.whole after.whole

-- cells that count all puts of the session so far take its next one
pub kept_take : (kind : Kind) (puts : List Put) (put : Put) (cells : KeyCells) → AreAccepted kind (puts ++ put ∷ []) → IsPutOf kind put → put.number ≡ length (puts_of_session put.session puts) + 1 → count_of put.session cells.own.clock ≡ length (puts_of_session put.session puts) → AreKept kind puts cells → AreTaken kind puts put cells (with_put put cells)
kept_take kind puts put cells accepted is next all kept =
    let one : PlainCell = one_put_cell put in
    let own = kept_next kind puts put cells.own accepted is next all kept.own in
    let all_whole : count_of put.session cells.whole.clock ≡ length (puts_of_session put.session puts) = omega (arith, all, kept.within put.session, kept.whole.is_sound.shown.counts put.session) in
    let whole = kept_next kind puts put cells.whole accepted is next all_whole kept.whole in
    let after : KeyCells = record { own = merged cells.own one; whole = merged cells.whole one } in
    subst (λ (t : Bool). AreTaken kind puts put cells (if t then after else cells)) (sym (le-leb 1 put.number (omega (arith, next)))) (record {
      kept = record { own = own.kept; whole = whole.kept; within = λ session. omega (arith, own.counts session, whole.counts session, kept.within session) };
      own_counts = own.counts;
      grown = λ session. omega (arith, whole.counts session);
    })

-- what a worker has of a key after it heard these entries
abbrev pub heard_on : ℕ → List (ℕ × PlainCell) → KeyCells → KeyCells
heard_on key [] cells = cells
heard_on key (entry ∷ entries) cells = heard_on key entries (if entry.0 == key then with_heard entry.1 cells else cells)

-- two changes of an option are one
changed_twice : {X Y Z : Type 0} (f : Y → Z) (g : X → Y) (found : Option X) → option_map f (option_map g found) ≡ option_map (λ x. f (g x)) found
changed_twice f g None = refl
changed_twice f g (Some x) = refl

-- a map without cells hears nothing
pub hears_nowhere : (entries : List (ℕ × PlainCell)) → hears entries [] ≡ []
hears_nowhere [] = refl
hears_nowhere (entry ∷ entries) = ap (hears entries) (changed_none (option_map (with_heard entry.1)) entry.0) ∙ hears_nowhere entries

-- what stands at a key after one entry was heard
hears_one : (key : ℕ) (entry : ℕ × PlainCell) (map : List (Option KeyCells)) → cells_at (changed_at entry.0 (option_map (with_heard entry.1)) map) key ≡ option_map (λ (cells : KeyCells). let after : KeyCells = if entry.0 == key then with_heard entry.1 cells else cells in after) (cells_at map key)
hears_one key entry map =
    let hear : Option KeyCells → Option KeyCells = option_map (with_heard entry.1) in
    let hear_if : Bool → Option KeyCells = λ t. option_map (λ (cells : KeyCells). let after : KeyCells = if t then with_heard entry.1 cells else cells in after) (cells_at map key) in
    elim (eqb_tells entry.0 key) [
      | inl same ↦ subst (λ k. cells_at (changed_at k hear map) key ≡ hear (cells_at map key)) (sym same.1) (changed_here hear None refl key map) ∙ ap hear_if (sym same.0)
      | inr apart ↦ changed_there hear None entry.0 key map (λ same. apart.1 (sym same)) ∙ sym (option_map_id (cells_at map key)) ∙ ap hear_if (sym apart.0)
    ]

-- what stands at a key after entries were heard
pub hears_at : (key : ℕ) (entries : List (ℕ × PlainCell)) (map : List (Option KeyCells)) → cells_at (hears entries map) key ≡ option_map (heard_on key entries) (cells_at map key)
hears_at key [] map = sym (option_map_id (cells_at map key))
hears_at key (entry ∷ entries) map =
    let after : KeyCells → KeyCells = λ cells. if entry.0 == key then with_heard entry.1 cells else cells in
    hears_at key entries (changed_at entry.0 (option_map (with_heard entry.1)) map)
    ∙ ap (option_map (heard_on key entries)) (hears_one key entry map)
    ∙ changed_twice (heard_on key entries) after (cells_at map key)

-- what cells are after entries were heard
pub record AreLater (kind : Kind) (puts : List Put) (before after : KeyCells) : Type 0 where
  pub kept : AreKept kind puts after
  pub same_own : after.own ≡ before.own
  pub grown : CountsWithin before.whole after.whole

-- the whole cell counts what each entry of the key does
abbrev pub CountsEntries : ℕ → List (ℕ × PlainCell) → PlainCell → Type 0
CountsEntries key entries whole = (cell : PlainCell) → Contains entries (key, cell) → CountsWithin cell whole

-- sound cells that hear sound ones
pub kept_heard : (kind : Kind) (puts : List Put) (key : ℕ) (entries : List (ℕ × PlainCell)) (cells : KeyCells) → ((cell : PlainCell) → Contains entries (key, cell) → IsKept kind puts cell) → AreKept kind puts cells
    → AreLater kind puts cells (heard_on key entries cells) × CountsEntries key entries (heard_on key entries cells).whole
kept_heard kind puts key [] cells told kept = (record { kept = kept; same_own = refl; grown = λ session. omega arith }, λ cell has_it. absurd (contains_none (key, cell) has_it))
kept_heard kind puts key (entry ∷ entries) cells told kept =
    let heard_if : Bool → KeyCells = λ t. heard_on key entries (if t then with_heard entry.1 cells else cells) in
    let told_later = λ (cell : PlainCell) (has_it : Contains entries (key, cell)). told cell (contains_later entry (key, cell) entries has_it) in
    elim (eqb_tells entry.0 key) [
      | inl same ↦
          let joined = kept_merged kind puts cells.whole entry.1 kept.whole (told entry.1 (subst (λ k. Contains (entry ∷ entries) (k, entry.1)) same.1 (contains_first entry entries))) in
          let others = kept_heard kind puts key entries (with_heard entry.1 cells) told_later (record { own = kept.own; whole = joined.kept; within = λ session. omega (arith, joined.counts session, kept.within session) }) in
          subst (λ t. AreLater kind puts cells (heard_if t) × CountsEntries key (entry ∷ entries) (heard_if t).whole) (sym same.0) (
            record { kept = others.0.kept; same_own = others.0.same_own; grown = λ session. omega (arith, joined.counts session, others.0.grown session) },
            λ cell has_it session.
                elim (contains_cases entry (key, cell) entries has_it) [
                  | inl here ↦ omega (arith, ap (λ (e : ℕ × PlainCell). count_of session e.1.clock) here, joined.counts session, others.0.grown session)
                  | inr later ↦ others.1 cell later session
                ],
          )
      | inr apart ↦
          let others = kept_heard kind puts key entries cells told_later kept in
          subst (λ t. AreLater kind puts cells (heard_if t) × CountsEntries key (entry ∷ entries) (heard_if t).whole) (sym apart.0) (
            others.0,
            λ cell has_it.
                elim (contains_cases entry (key, cell) entries has_it) [
                  | inl here ↦ absurd (apart.1 (ap (λ (e : ℕ × PlainCell). e.0) here))
                  | inr later ↦ others.1 cell later
                ],
          )
    ]
