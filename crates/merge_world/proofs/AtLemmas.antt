-- What changes at a number, and whole cells that are put back.
use Rattle.std.proofs.Common.{◌≡◌, ◌⊎◌, ℕ, zero, suc, ◌+◌, ◌-◌, ◌<◌, ◌≤◌, List, [], ◌∷◌, ◌++◌, length, get_or, set, Option, Some, None, Result, Ok, Err, IfOk, OnOk, option_map, length-set, sym, refl, ap, subst, ◌∙◌, arith, ⊎_elim}
use Rattle.std.specs.List.{cons_option}
use Rattle.std.specs.Option.{option_to_list}
use Rattle.std.specs.Prelude.{take, zip}
use Rattle.std.proofs.lemmas.List.{get_or-map, get_or-set_same, length-map, take_all, take_more}
use Rattle.std.proofs.lemmas.Grind.{fold-append}
use Rattle.std.proofs.lemmas.List.Elements.{filter_map-append}
use Rattle.std.proofs.lemmas.Slice.Zip.{get_or-zip, length-zip}
use Rattle.composed_value.specs.declared.kind.Kind.{Kind}
use Rattle.composed_value.specs.Cell.{PlainCell}
use Rattle.merge_world.specs.Back.{with_all_back, with_back, with_whole}
use Rattle.merge_world.specs.Effects.{changed_at, hears, opened, opening_map, tells, told_of, with_heard}
use Rattle.merge_world.specs.declared.private_map.KeyCells.{KeyCells}

module _ {A : Type 0} where
  past : (change : A → A) (items : List A) (i : ℕ) → length items ≤ i → changed_at (suc i) change items ≡ items
  past change [] i far = refl
  past change (x ∷ xs) zero far = absurd (omega (arith, far))
  past change (x ∷ xs) (suc i) far = ap (λ l. x ∷ l) (past change xs i (omega (arith, far)))

  within : (change : A → A) (items : List A) (i : ℕ) (d : A) → i < length items → changed_at (suc i) change items ≡ set items i (change (get_or items i d))
  within change [] i d low = absurd (omega (arith, low))
  within change (x ∷ xs) zero d low = refl
  within change (x ∷ xs) (suc i) d low = ap (λ l. x ∷ l) (within change xs i d (omega (arith, low)))

  -- nothing changes at 0, and past the last
  pub nothing_at : (number count : ℕ) (change : A → A) (items : List A) → count ≡ length items → (number ≡ 0) ⊎ (count < number) → items ≡ changed_at number change items
  nothing_at zero count change items is there = refl
  nothing_at (suc i) count change items is there = sym (past change items i (⊎_elim (λ zero. absurd (omega (arith, zero))) (λ (far : count < suc i). omega (arith, is, far)) there))

  pub item_at : (number place : ℕ) (change : A → A) (items : List A) (old : A) → number ≡ suc place → place < length items → old ≡ get_or items place old → changed_at number change items ≡ set items place (change old)
  item_at number place change items old is low here = subst (λ n. changed_at n change items ≡ set items place (change old)) (sym is) (within change items place old low ∙ ap (λ x. set items place (change x)) (sym here))

  set_same : (items : List A) (i : ℕ) (old : A) → old ≡ get_or items i old → set items i old ≡ items
  set_same [] i old here = refl
  set_same (x ∷ xs) zero old here = λ j. here j ∷ xs
  set_same (x ∷ xs) (suc i) old here = ap (λ l. x ∷ l) (set_same xs i old here)

  -- an item that changes and changes back
  pub changed_back : (number place : ℕ) (back : A → A) (items : List A) (old new : A) → number ≡ suc place → place < length items → old ≡ get_or items place old → back new ≡ old → changed_at number back (set items place new) ≡ items
  changed_back number place back items old new is low here to_old =
      item_at number place back (set items place new) new is (rw length-set low) (sym (get_or-set_same items place new new low))
      ∙ ap (set (set items place new) place) to_old ∙ set_again items place new old low ∙ set_same items place old here
    where
      set_again : (items : List A) (i : ℕ) (new old : A) → i < length items → set (set items i new) i old ≡ set items i old
      set_again [] i new old low = refl
      set_again (x ∷ xs) zero new old low = refl
      set_again (x ∷ xs) (suc i) new old low = ap (λ l. x ∷ l) (set_again xs i new old (omega (arith, low)))

-- a change leaves how many items there are
pub changed_long : {A : Type 0} (number : ℕ) (change : A → A) (items : List A) → length (changed_at number change items) ≡ length items
changed_long zero change items = refl
changed_long (suc i) change [] = refl
changed_long (suc zero) change (item ∷ items) = refl
changed_long (suc (suc i)) change (item ∷ items) = ap suc (changed_long (suc i) change items)

-- by the answer of what changed it
pub ok_at : {A U E : Type 0} (result : Result U E) (number place : ℕ) (change : A → A) (items : List A) (old new : A) → number ≡ suc place → place < length items → old ≡ get_or items place old
    → OnOk result (new ≡ change old) → OnOk result (set items place new ≡ changed_at number change items)
ok_at (Ok done) number place change items old new is low here now = ap (set items place) now ∙ sym (item_at number place change items old is low here)
ok_at (Err error) number place change items old new is low here now = tt

-- what follows of what an Ok tells
pub on_ok : {U E P Q : Type 0} (result : Result U E) → (P → Q) → OnOk result P → OnOk result Q
on_ok (Ok done) how is = how is
on_ok (Err error) how is = tt

-- the whole cell that was there is put back
pub heard_back : (key place : ℕ) (cell : PlainCell) (map : List (Option KeyCells)) (old new : Option KeyCells) (before : Option PlainCell) → key ≡ suc place → place < length map → old ≡ get_or map place old
    → new ≡ option_map (with_heard cell) old → before ≡ option_map (λ cells. cells.whole) old → with_back key before (set map place new) ≡ map
heard_back key place cell map None new before is low here now was = rw (now, was) (set_same map place None here)
heard_back key place cell map (Some cells) new before is low here now was =
    rw (now, was) (changed_back key place (option_map (with_whole cells.whole)) map (Some cells) (Some (with_heard cell cells)) is low here refl)

-- what is put back one by one, the last one first
pub all_back_more : (entries : List (ℕ × PlainCell)) (entry : ℕ × PlainCell) (map : List (Option KeyCells)) → with_all_back (entries ++ entry ∷ []) map ≡ with_all_back entries (with_back entry.0 (Some entry.1) map)
all_back_more [] entry map = refl
all_back_more (e ∷ es) entry map = ap (with_back e.0 (Some e.1)) (all_back_more es entry map)

-- by the answer
pub heard_back_at : {E : Type 0} (result : Result (Option PlainCell) E) (key place : ℕ) (cell : PlainCell) (map : List (Option KeyCells)) (old new : Option KeyCells) → key ≡ suc place → place < length map → old ≡ get_or map place old
    → OnOk result (new ≡ option_map (with_heard cell) old) → IfOk result (λ before. before ≡ option_map (λ cells. cells.whole) old) → IfOk result (λ before. with_back key before (set map place new) ≡ map)
heard_back_at (Ok before) key place cell map old new is low here now was = heard_back key place cell map old new before is low here now was
heard_back_at (Err error) key place cell map old new is low here now was = tt

-- what is told of a key more
pub tells_more : (map : List (Option KeyCells)) (keys : List ℕ) (i key : ℕ) → i < length keys → key ≡ get_or keys i key → tells (take (i + 1) keys) map ≡ tells (take i keys) map ++ option_to_list (told_of map key)
tells_more map keys i key low here =
    ap (λ l. tells l map) (take_more keys i key low) ∙ filter_map-append (told_of map) (take i keys) (get_or keys i key ∷ [])
    ∙ ap (λ k. tells (take i keys) map ++ tells (k ∷ []) map) (sym here) ∙ ap (λ l. tells (take i keys) map ++ l) (one (told_of map key))
  where
    one : (entry : Option (ℕ × PlainCell)) → cons_option entry [] ≡ option_to_list entry
    one None = refl
    one (Some entry) = refl

-- one key more, before any put
pub opening_more : (placement : List (List ℕ)) (kinds : List Kind) (worker i key : ℕ) (replicas : List ℕ) (kind none : Kind) → length kinds ≡ length placement → i < length placement → key ≡ i + 1
    → replicas ≡ get_or placement (key - 1) [] → kind ≡ get_or kinds i none → take (i + 1) (opening_map placement kinds worker) ≡ take i (opening_map placement kinds worker) ++ opened worker replicas kind ∷ []
opening_more placement kinds worker i key replicas kind none long low is is_replicas is_kind =
    let keys = zip placement kinds in
    let count : length keys ≡ length placement = omega (arith, long, length-zip placement kinds) in
    let before : key - 1 ≡ i = omega (arith, is) in
    take_more (opening_map placement kinds worker) i None (rw length-map (omega (arith, count, low)))
    ∙ ap (λ x. take i (opening_map placement kinds worker) ++ x ∷ [])
    (get_or-map (λ (key : List ℕ × Kind). opened worker key.0 key.1) keys i ([], none) None (omega (arith, count, low))
    ∙ ap (λ (key : List ℕ × Kind). opened worker key.0 key.1) (get_or-zip placement kinds i ([], none) low (omega (arith, long, low)))
    ∙ (λ j. opened worker (sym (is_replicas ∙ ap (λ n. get_or placement n []) before) j) (sym is_kind j)))

pub opening_all : (placement : List (List ℕ)) (kinds : List Kind) (worker i : ℕ) → length kinds ≡ length placement → length placement ≤ i → take i (opening_map placement kinds worker) ≡ opening_map placement kinds worker
opening_all placement kinds worker i long far = take_all i (opening_map placement kinds worker) (rw length-map (omega (arith, long, far, length-zip placement kinds)))

-- what is heard of an entry more
pub hears_more : (entries : List (ℕ × PlainCell)) (i : ℕ) (entry : ℕ × PlainCell) (map now : List (Option KeyCells)) → i < length entries → entry ≡ get_or entries i entry → now ≡ hears (take i entries) map
    → changed_at entry.0 (option_map (with_heard entry.1)) now ≡ hears (take (i + 1) entries) map
hears_more entries i entry map now low here is =
    (λ j. changed_at (here j).0 (option_map (with_heard (here j).1)) (is j))
    ∙ sym (ap (λ l. hears l map) (take_more entries i entry low) ∙ fold-append (λ (m : List (Option KeyCells)) (e : ℕ × PlainCell). changed_at e.0 (option_map (with_heard e.1)) m) map (take i entries) (get_or entries i entry ∷ []))
