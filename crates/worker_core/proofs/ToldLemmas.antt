-- What a worker told its mates, and what is left in its changeset, after gossip and after a request.
use Rattle.std.specs.Prelude.{◌≡◌, ◌≢◌, ◌⊎◌, ◌&&◌, ◌<◌, ◌≤◌, ℕ, suc, Bool, true, false, IsTrue, if◌then◌else◌, not, List, [], ◌∷◌, ◌++◌, All, AllPairs, Contains, length, map, slice_index_or, sum_by, Option, Some, None}
use Rattle.std.proofs.Common.{refl, sym, ap, subst, ◌∙◌, inl, inr, arith}
use Rattle.std.specs.List.{list_any}
use Rattle.std.proofs.lemmas.Bool.{false≢true, false_from_ne_true, and_parts, and_from, cases_lt, eqb-true}
use Rattle.std.proofs.lemmas.List.{append-nil, append_assoc, ext_get_or, get_or_past, nil_from_length}
use Rattle.std.proofs.lemmas.List.Elements.{All-append, All-contains, All-contains_itself, All-weaker, Contains-get_or}
use Rattle.std.proofs.lemmas.List.Quantifiers.{all_pairs_push}
use Rattle.std.proofs.lemmas.List.Sums.{get_or-le-sum_by, sum_by-cons}
use Rattle.std.proofs.lemmas.Option.{same_Some}
use Rattle.lattice_laws.proofs.MembersLemmas.{contains_none, contains_first}
use Rattle.clock_lattice.specs.Clock.{count_of}
use Rattle.composed_value.specs.Cell.{PlainCell}
use Rattle.composed_value.specs.Keyed.{kind_at}
use Rattle.composed_value.specs.Kind.{kind_of}
use Rattle.composed_value.specs.declared.kind.Kind.{Kind}
use Rattle.composed_value.specs.declared.put.Put.{Put}
use Rattle.merge_world.specs.Effects.{cells_at, tells}
use Rattle.merge_world.specs.World.{is_ascending}
use Rattle.merge_world.specs.declared.private_map.KeyCells.{KeyCells}
use Rattle.store_msg.specs.declared.request.Request.{Request}
use Rattle.store_msg.specs.declared.request.Request.TheVariants as requests
use Rattle.gossip_rounds.specs.Batches.{Entries, batches, left_over, told_on, went_out}
use Rattle.gossip_rounds.specs.Changes.{with_key}
use Rattle.worker_core.specs.Kept.{AreChanged}
use Rattle.worker_core.specs.Share.{AreClean, AreOwn, AreTold, IsAtMost, IsLast, IsTold, WasOwn, mate_lives_at, own_cell, told_to}
use Rattle.worker_core.specs.State.{IsFixed, Lists, State, changed_of, dirty, lives_at, mate_at}
use Rattle.worker_core.specs.Turns.{AllTried, Gossips, Serves, TellsMate, changes, is_of, key_of, marked}
use Rattle.gossip_rounds.proofs.BatchesLemmas.{HasCells, among_or_not, in_with_key, left_among, left_ascends, none_empty, none_to_each, nothing_went, sent_absent, sent_among, sent_batches, sent_of, sent_once, sent_own, sent_present, some_back, told_on-append, with_key_ascends}

-- own cells of earlier puts are at most those of all puts
abbrev pub Mono : List Kind → List (ℕ × Request) → Type 0
Mono kinds worked =
    (key : ℕ) (front back : List (ℕ × Request)) → worked ≡ front ++ back
    → IsAtMost (own_cell (kind_at kinds key) key front) (own_cell (kind_at kinds key) key worked)

-- own cells count each put on a key, of its kind, that has a number
abbrev pub Counts : List Kind → List (ℕ × Request) → Type 0
Counts kinds worked =
    (key session : ℕ) (put : Put) → Contains worked (session, requests.Put key put) → 1 ≤ put.number → kind_of put.payload ≡ kind_at kinds key
    → put.number ≤ count_of put.session (own_cell (kind_at kinds key) key worked).clock

-- what `AreClean` says of one mate
abbrev pub IsCleanAt : Lists → ℕ → Type 0
IsCleanAt lists place =
    (key : ℕ) (at : KeyCells) → IsTrue (mate_lives_at lists.state place key) → cells_at lists.state.cells key ≡ Some at
    → (Contains (changed_of lists.state place) key → ⊥) → (at.own.clock ≡ []) ⊎ IsLast at.own (told_on key (told_to lists place))

-- the changeset is as it should be for each mate
abbrev pub AreAllChanged : Lists → Type 0
AreAllChanged lists = (place : ℕ) → place < length lists.told → AreChanged lists.state place

-- which mates hold a key is fixed
pub lives_fixed : {before now : State} → IsFixed before now → (place key : ℕ) → mate_lives_at now place key ≡ mate_lives_at before place key
lives_fixed fixed place key = λ j. lives_at (fixed.placement j) (mate_at (fixed.me j) place) key

-- what gossip leaves fixed
pub gossips_fixed : {before now : Lists} → Gossips before now → IsFixed before.state now.state
gossips_fixed gossips = record {
  me = ap (λ (lists : Lists). lists.state.me) gossips.rest;
  round = ap (λ (lists : Lists). lists.state.round) gossips.rest;
  placement = ap (λ (lists : Lists). lists.state.placement) gossips.rest;
  kinds = ap (λ (lists : Lists). lists.state.kinds) gossips.rest;
}

-- what was told stays so when more requests are worked on
pub told_later : (before now : State) (worked more : List (ℕ × Request)) (place : ℕ) (batches : List Entries) → IsTold before worked place batches
    → IsFixed before now → IsTold now (worked ++ more) place batches
told_later before now worked more place batches told fixed = record {
  some = told.some;
  lives = λ key some. lives_fixed fixed place key ∙ told.lives key some;
  were_own = λ key.
      subst (λ kinds. All (WasOwn (kind_at kinds key) key (worked ++ more)) (told_on key batches)) (sym fixed.kinds)
      (All-weaker (WasOwn (kind_at before.kinds key) key worked) (WasOwn (kind_at before.kinds key) key (worked ++ more))
      (λ cell was. record {
        front = was.front;
        back = was.back ++ more;
        split = ap (λ all. all ++ more) was.split ∙ append_assoc was.front was.back more;
        is = was.is;
        some = was.some;
      })
      (told_on key batches) (told.were_own key));
  rising = told.rising;
}

-- pairs of a list and of one more element at most after it
pairs_more : {X : Type 0} (R : X → X → Type 0) (front back : List X) → AllPairs R front → length back ≤ 1
    → ((first last : X) → Contains front first → Contains back last → R first last) → AllPairs R (front ++ back)
pairs_more R front [] pairs few between = subst (AllPairs R) (sym (append-nil front)) pairs
pairs_more R front (last ∷ []) pairs few between =
    all_pairs_push R front last pairs (λ k d low. between (slice_index_or front k d) last (Contains-get_or front k d low) (contains_first last []))
pairs_more R front (last ∷ more ∷ back) pairs few between = absurd (omega (arith, few))

-- what has an element is not empty
not_empty : {X : Type 0} (xs : List X) (x : X) → Contains xs x → xs ≢ []
not_empty xs x has_it none = contains_none x (subst (λ all. Contains all x) none has_it)

-- One mate is told.
module _ (tries : List Bool) (place : ℕ) (before now : Lists)
    (tells : TellsMate tries place before now) (fixed : IsFixed before.state now.state) where
  -- the batches that go out
  abbrev sent_now : List Entries
  sent_now = sent_batches before.state.cells tries (changed_of before.state place)

  -- what was told of a key then
  told_now : (key : ℕ) → told_on key (told_to now place) ≡ told_on key (told_to before place) ++ told_on key sent_now
  told_now key = ap (told_on key) tells.told ∙ told_on-append key (told_to before place) sent_now

  -- what is left to tell a mate stays as it should be
  pub mate_changed : now.state.cells ≡ before.state.cells → AreChanged before.state place → AreChanged now.state place
  mate_changed same_cells changed = record {
    ascending = subst (λ keys. IsTrue (is_ascending keys)) (sym tells.changed) (left_ascends tries (changed_of before.state place) changed.ascending);
    lives = λ key has_it. lives_fixed fixed place key ∙ changed.lives key (was_there key has_it);
    some = λ key has_it.
        let found = changed.some key (was_there key has_it) in
        (found.0, ap (λ cells. cells_at cells key) same_cells ∙ found.1, found.2);
  }
    where
      was_there : (key : ℕ) → Contains (changed_of now.state place) key → Contains (changed_of before.state place) key
      was_there key has_it = left_among tries (changed_of before.state place) key (subst (λ keys. Contains keys key) tells.changed has_it)

  -- of a key that is not left, a mate was told the present own cell
  pub mate_clean : now.state.cells ≡ before.state.cells → IsCleanAt before place → AreChanged before.state place → IsCleanAt now place
  mate_clean same_cells clean changed key at lives held not_left =
      let held_before = ap (λ cells. cells_at cells key) (sym same_cells) ∙ held in
      let keys = changed_of before.state place in
      let not_left_over : Contains (left_over tries keys) key → ⊥ = λ has_it.
      not_left (subst (λ keys. Contains keys key) (sym tells.changed) has_it) in
      elim (among_or_not keys key) [
        | inl was_left ↦
            let once = sent_present before.state.cells tries keys key at changed.ascending was_left held_before not_left_over in
            inr (record {
              front = told_on key (told_to before place);
              is = told_now key ∙ ap (λ last. told_on key (told_to before place) ++ last) once;
            })
        | inr was_clean ↦ elim (clean key at (sym (lives_fixed fixed place key) ∙ lives) held_before was_clean) [
          | inl empty ↦ inl empty
          | inr last ↦ inr (record {
            front = last.front;
            is = told_now key ∙ ap (λ none. told_on key (told_to before place) ++ none) (sent_absent before.state.cells tries keys key was_clean)
                ∙ append-nil (told_on key (told_to before place)) ∙ last.is;
          })
        ]
      ]

  -- what a mate was told stays as it should be
  pub mate_told : (worked : List (ℕ × Request)) → IsTold before.state worked place (told_to before place) → AreChanged before.state place
      → AreOwn before.state.kinds before.state.cells worked → Mono before.state.kinds worked → IsTold now.state worked place (told_to now place)
  mate_told worked told changed own mono =
      let told_with = subst (IsTold before.state worked place) (sym tells.told) told_more in
      subst (λ kept. IsTold now.state kept place (told_to now place)) (append-nil worked)
      (told_later before.state now.state worked [] place (told_to now place) told_with fixed)
    where
      keys : List ℕ
      keys = changed_of before.state place

      cells_before : ℕ → List PlainCell
      cells_before key = told_on key (told_to before place)

      WasOwnOf : ℕ → PlainCell → Type 0
      WasOwnOf key cell = WasOwn (kind_at before.state.kinds key) key worked cell

      lives_by : (key : ℕ) (cells : List PlainCell) → cells_before key ≡ cells → (cells ++ told_on key sent_now ≢ [])
          → IsTrue (mate_lives_at before.state place key)
      lives_by key [] is some = changed.lives key (sent_of before.state.cells tries keys key some)
      lives_by key (cell ∷ cells) is some = told.lives key (λ none. not_empty (cell ∷ cells) cell (contains_first cell cells) (sym is ∙ none))

      -- what is told now is the own cell
      is_own : (key : ℕ) (cell : PlainCell) → Contains (told_on key sent_now) cell → cell ≡ own_cell (kind_at before.state.kinds key) key worked
      is_own key cell has_it = let found = sent_own before.state.cells tries keys key cell has_it in found.2 ∙ own key found.0 found.1

      was_own : (key : ℕ) (cell : PlainCell) → Contains (told_on key sent_now) cell → WasOwnOf key cell
      was_own key cell has_it =
          let found = sent_own before.state.cells tries keys key cell has_it in
          let some = changed.some key (sent_of before.state.cells tries keys key (not_empty (told_on key sent_now) cell has_it)) in
          let same : some.0 ≡ found.0 = same_Some some.0 found.0 (sym some.1 ∙ found.1) in
          record {
            front = worked;
            back = [];
            split = sym (append-nil worked);
            is = is_own key cell has_it;
            some = λ none. some.2 (ap (λ (at : KeyCells). at.own.clock) same ∙ ap (λ (c : PlainCell). c.clock) (sym found.2) ∙ none);
          }

      rises : (key : ℕ) (first last : PlainCell) → Contains (cells_before key) first → Contains (told_on key sent_now) last → IsAtMost first last
      rises key first last of_first of_last =
          let was = All-contains (WasOwnOf key) (cells_before key) first (told.were_own key) of_first in
          let kind = kind_at before.state.kinds key in
          subst (λ cell. IsAtMost cell last) (sym was.is)
          (subst (λ cell. IsAtMost (own_cell kind key was.front) cell) (sym (is_own key last of_last)) (mono key was.front was.back was.split))

      told_more : IsTold before.state worked place (told_to before place ++ sent_now)
      told_more = record {
        some = All-append (λ (batch : Entries). 1 ≤ length batch) (told_to before place) sent_now told.some
            (none_empty before.state.cells tries keys tells.no_empty (λ key has_it.
            let found = changed.some key (sent_among tries keys key has_it) in
            (found.0, found.1)));
        lives = λ key some. lives_by key (cells_before key) refl (λ none. some (told_on-append key (told_to before place) sent_now ∙ none));
        were_own = λ key. subst (All (WasOwnOf key)) (sym (told_on-append key (told_to before place) sent_now))
            (All-append (WasOwnOf key) (cells_before key) (told_on key sent_now) (told.were_own key)
            (All-weaker (Contains (told_on key sent_now)) (WasOwnOf key) (was_own key) (told_on key sent_now)
            (All-contains_itself (told_on key sent_now))));
        rising = λ key. subst (AllPairs IsAtMost) (sym (told_on-append key (told_to before place) sent_now))
            (pairs_more IsAtMost (cells_before key) (told_on key sent_now) (told.rising key)
            (sent_once before.state.cells tries keys key changed.ascending) (rises key));
      }

-- Each mate is told.
module _ (before now : Lists) (gossips : Gossips before now) (long : length now.told ≡ length before.told) where
  gossip_cells : now.state.cells ≡ before.state.cells
  gossip_cells = ap (λ (lists : Lists). lists.state.cells) gossips.rest

  gossips_told : (worked : List (ℕ × Request)) → AreTold before worked → AreAllChanged before
      → AreOwn before.state.kinds before.state.cells worked → Mono before.state.kinds worked → AreTold now worked
  gossips_told worked told changed own mono place low =
      let within : place < length before.told = omega (arith, low, long) in
      mate_told (slice_index_or gossips.tries place []) place before now (gossips.each place within) (gossips_fixed gossips)
      worked (told place within) (changed place within) own mono

  gossips_clean : AreClean before → AreAllChanged before → AreClean now
  gossips_clean clean changed place key at low =
      let within : place < length before.told = omega (arith, low, long) in
      mate_clean (slice_index_or gossips.tries place []) place before now (gossips.each place within) (gossips_fixed gossips) gossip_cells
      (λ key at. clean place key at within) (changed place within) key at

  gossips_changed : AreAllChanged before → AreAllChanged now
  gossips_changed changed place low =
      let within : place < length before.told = omega (arith, low, long) in
      mate_changed (slice_index_or gossips.tries place []) place before now (gossips.each place within) (gossips_fixed gossips)
      gossip_cells (changed place within)

  -- gossip leaves what was told, what is clean and what is left as they should be
  pub gossips_keep : (worked : List (ℕ × Request)) → AreTold before worked → AreClean before → AreAllChanged before
      → AreOwn before.state.kinds before.state.cells worked → Mono before.state.kinds worked → AreTold now worked × AreClean now × AreAllChanged now
  gossips_keep worked told clean changed own mono = (gossips_told worked told changed own mono, gossips_clean clean changed, gossips_changed changed)

-- a request changes its own key alone
changes_its_key : (cells : List (Option KeyCells)) (request : Request) (key : ℕ) → changes cells request key ≡ true → key ≡ key_of request
changes_its_key cells (requests.Put of_put put) key is = sym (eqb-true of_put key (and_parts _ _ is).0)
changes_its_key cells (requests.Get ask of_get required) key is = absurd (false≢true is)

-- and one that is held
changes_held : (cells : List (Option KeyCells)) (request : Request) (key : ℕ) → changes cells request key ≡ true → HasCells cells key
changes_held cells (requests.Get ask of_get required) key is = absurd (false≢true is)
changes_held cells (requests.Put of_put put) key is =
    let parts = and_parts _ _ is in
    held (cells_at cells key) refl (subst (λ k. is_of put (cells_at cells k) ≡ true) (eqb-true of_put key parts.0) (and_parts _ _ parts.1).1)
  where
    held : (found : Option KeyCells) → cells_at cells key ≡ found → is_of put found ≡ true → HasCells cells key
    held None is of_it = absurd (false≢true of_it)
    held (Some at) is of_it = (at, is)

-- What a request makes of the changeset.
module _ (state : State) (request : Request) (place : ℕ) where
  -- the request changes the key, and the mate holds it
  abbrev IsMarked : ℕ → Type 0
  IsMarked key = (changes state.cells request key ≡ true) × IsTrue (mate_lives_at state place key)

  abbrev its_key_marked : Bool
  its_key_marked = changes state.cells request (key_of request) && mate_lives_at state place (key_of request)

  -- the changed keys then, by whether the request's is one
  abbrev marked_if : Bool → List ℕ
  marked_if is = if is then with_key (key_of request) (changed_of state place) else changed_of state place

  marked_cases : (key : ℕ) → Contains (marked state request place) key → Contains (changed_of state place) key ⊎ IsMarked key
  marked_cases key = by_test its_key_marked refl
    where
      by_test : (test : Bool) → its_key_marked ≡ test → Contains (marked_if test) key → Contains (changed_of state place) key ⊎ IsMarked key
      by_test false is has_it = inl has_it
      by_test true is has_it = elim ((in_with_key (key_of request) key (changed_of state place)).0 has_it) [
        | inr among ↦ inl among
        | inl same ↦ inr (subst IsMarked (sym same) (and_parts _ _ is))
      ]

  marked_keeps : (key : ℕ) → Contains (changed_of state place) key → Contains (marked state request place) key
  marked_keeps key has_it =
      elim its_key_marked as (λ test. Contains (marked_if test) key) [
        | true ↦ (in_with_key (key_of request) key (changed_of state place)).1 (inr has_it)
        | false ↦ has_it
      ]

  marked_has : (key : ℕ) → IsMarked key → Contains (marked state request place) key
  marked_has key is =
      let same = changes_its_key state.cells request key is.0 in
      let of_its_key = subst IsMarked same is in
      subst (λ test. Contains (marked_if test) key) (sym (and_from _ _ of_its_key.0 of_its_key.1))
      ((in_with_key (key_of request) key (changed_of state place)).1 (inl same))

  marked_ascends : IsTrue (is_ascending (changed_of state place)) → IsTrue (is_ascending (marked state request place))
  marked_ascends rises =
      elim its_key_marked as (λ test. IsTrue (is_ascending (marked_if test))) [
        | true ↦ with_key_ascends (key_of request) (changed_of state place) rises
        | false ↦ rises
      ]

-- no key is held then but those that were
abbrev pub HeldBefore : Lists → Lists → Type 0
HeldBefore before now = (key : ℕ) (now_at : KeyCells) → cells_at now.state.cells key ≡ Some now_at → HasCells before.state.cells key

-- each key that was held still is
abbrev pub HeldStill : Lists → Lists → Type 0
HeldStill before now = (key : ℕ) (at : KeyCells) → cells_at before.state.cells key ≡ Some at → HasCells now.state.cells key

-- the last cell told is the same
last_same : {cell same : PlainCell} {cells more : List PlainCell} → same ≡ cell → more ≡ cells → (cell.clock ≡ []) ⊎ IsLast cell cells
    → (same.clock ≡ []) ⊎ IsLast same more
last_same is_cell are_cells (inl empty) = inl (ap (λ (c : PlainCell). c.clock) is_cell ∙ empty)
last_same is_cell are_cells (inr last) = inr (record { front = last.front; is = are_cells ∙ last.is ∙ (λ j. last.front ++ sym is_cell j ∷ []) })

-- A request is worked on.
module _ (session : ℕ) (request : Request) (before now : Lists)
    (serves : Serves session request before now) (fixed : IsFixed before.state now.state) where
  -- of a key that is not left, each mate was told the present own cell still, where no own cell changes but of a key that the request changes
  pub serves_clean : AreClean before
      → ((key : ℕ) (at now_at : KeyCells) → cells_at before.state.cells key ≡ Some at → cells_at now.state.cells key ≡ Some now_at
      → changes before.state.cells request key ≡ false → now_at.own ≡ at.own)
      → HeldBefore before now → AreClean now
  serves_clean clean own_same back place key now_at low lives held not_left =
      let within : place < length before.told = subst (λ (told : List (List Entries)). place < length told) serves.told low in
      let was_held = back key now_at held in
      let lived : IsTrue (mate_lives_at before.state place key) = sym (lives_fixed fixed place key) ∙ lives in
      let not_marked : Contains (marked before.state request place) key → ⊥ = λ has_it.
      not_left (subst (λ keys. Contains keys key) (sym (serves.changed place within)) has_it) in
      let unchanged = false_from_ne_true (changes before.state.cells request key)
      (λ is. not_marked (marked_has before.state request place key (is, lived))) in
      last_same (own_same key was_held.0 now_at was_held.1 held unchanged) (ap (λ told. told_on key (slice_index_or told place [])) serves.told)
      (clean place key was_held.0 within lived was_held.1 (λ has_it. not_marked (marked_keeps before.state request place key has_it)))

  -- what is left to tell each mate stays as it should be, where a put that changes a key leaves no empty own cell of it
  pub serves_changed : AreAllChanged before
      → ((key : ℕ) (at now_at : KeyCells) → cells_at before.state.cells key ≡ Some at → cells_at now.state.cells key ≡ Some now_at
      → (changes before.state.cells request key ≡ true) ⊎ (at.own.clock ≢ []) → now_at.own.clock ≢ [])
      → HeldStill before now → AreAllChanged now
  serves_changed changed own_some forth place low =
      let within : place < length before.told = subst (λ (told : List (List Entries)). place < length told) serves.told low in
      let were = changed place within in
      let is = serves.changed place within in
      let either : (key : ℕ) → Contains (changed_of now.state place) key
      → Contains (changed_of before.state place) key ⊎ IsMarked before.state request place key = λ key has_it.
      marked_cases before.state request place key (subst (λ keys. Contains keys key) is has_it) in
      record {
        ascending = subst (λ keys. IsTrue (is_ascending keys)) (sym is) (marked_ascends before.state request place were.ascending);
        lives = λ key has_it.
            lives_fixed fixed place key
            ∙ elim (either key has_it) as (λ _. IsTrue (mate_lives_at before.state place key)) [
              | inl was_there ↦ were.lives key was_there
              | inr by_it ↦ by_it.1
            ];
        some = λ key has_it. elim (either key has_it) as (λ _. (at : KeyCells) × (cells_at now.state.cells key ≡ Some at) × (at.own.clock ≢ [])) [
          | inl was_there ↦
              let found = were.some key was_there in
              let held = forth key found.0 found.1 in
              (held.0, held.1, own_some key found.0 held.0 found.1 held.1 (inr found.2))
          | inr by_it ↦
              let found = changes_held before.state.cells request key by_it.0 in
              let held = forth key found.0 found.1 in
              (held.0, held.1, own_some key found.0 held.0 found.1 held.1 (inl by_it.0))
        ];
      }

-- each own cell is the same
abbrev pub SameOwn : Lists → Lists → Type 0
SameOwn before now =
    (key : ℕ) (at now_at : KeyCells) → cells_at before.state.cells key ≡ Some at → cells_at now.state.cells key ≡ Some now_at → now_at.own ≡ at.own

-- Nothing is told, and the changeset and all own cells are the same.
module _ (before now : Lists) (fixed : IsFixed before.state now.state) (same_told : now.told ≡ before.told)
    (same_changed : now.state.changed ≡ before.state.changed) (same_own : SameOwn before now) where
  -- of a key that is not left, each mate was told the present own cell still
  pub cells_only_clean : AreClean before → HeldBefore before now → AreClean now
  cells_only_clean clean back place key now_at low lives held not_left =
      let was_held = back key now_at held in
      last_same (same_own key was_held.0 now_at was_held.1 held) (ap (λ told. told_on key (slice_index_or told place [])) same_told)
      (clean place key was_held.0 (subst (λ (told : List (List Entries)). place < length told) same_told low)
      (sym (lives_fixed fixed place key) ∙ lives) was_held.1
      (λ has_it. not_left (subst (λ changed. Contains (slice_index_or changed place []) key) (sym same_changed) has_it)))

  -- what is left to tell each mate stays as it should be
  pub cells_only_changed : AreAllChanged before → HeldStill before now → AreAllChanged now
  cells_only_changed changed forth place low =
      let were = changed place (subst (λ (told : List (List Entries)). place < length told) same_told low) in
      let was_there : (key : ℕ) → Contains (changed_of now.state place) key → Contains (changed_of before.state place) key = λ key has_it.
      subst (λ changed. Contains (slice_index_or changed place []) key) same_changed has_it in
      record {
        ascending = subst (λ changed. IsTrue (is_ascending (slice_index_or changed place []))) (sym same_changed) were.ascending;
        lives = λ key has_it. lives_fixed fixed place key ∙ were.lives key (was_there key has_it);
        some = λ key has_it.
            let found = were.some key (was_there key has_it) in
            let held = forth key found.0 found.1 in
            (held.0, held.1, λ none. found.2 (ap (λ (c : PlainCell). c.clock) (sym (same_own key found.0 held.0 found.1 held.1)) ∙ none));
      }

-- where no batch went out, nothing was told and all is left
pub nothing_sent : (before now : Lists) (gossips : Gossips before now) → batches gossips.tries ≡ 0 → length now.told ≡ length before.told
    → length now.state.changed ≡ length before.state.changed → length before.state.changed ≡ length before.told
    → (now.told ≡ before.told) × (now.state.changed ≡ before.state.changed)
nothing_sent before now gossips none same_told same_changed as_many = (
  ext_get_or [] now.told before.told same_told (λ place low.
      let within : place < length before.told = omega (arith, low, same_told) in
      (gossips.each place within).told ∙ ap (λ went. told_to before place ++ map (λ keys. tells keys before.state.cells) went) (of_mate place).0
      ∙ append-nil (told_to before place)),
  ext_get_or [] now.state.changed before.state.changed same_changed (λ place low.
      let within : place < length before.told = omega (arith, low, same_changed, as_many) in
      (gossips.each place within).changed ∙ (of_mate place).1),
)
  where
    of_mate : (place : ℕ) → (went_out (slice_index_or gossips.tries place []) (changed_of before.state place) ≡ [])
        × (left_over (slice_index_or gossips.tries place []) (changed_of before.state place) ≡ changed_of before.state place)
    of_mate place = nothing_went (slice_index_or gossips.tries place []) (changed_of before.state place) (none_to_each gossips.tries none place)

-- gossip may tell nothing
pub gossips_nothing : (lists : Lists) → Gossips lists lists
gossips_nothing lists = record {
  tries = [];
  mates = omega arith;
  each = λ place low. record { no_empty = omega arith; told = sym (append-nil (told_to lists place)); changed = refl; turned = refl };
  rest = refl;
}

-- where the changeset has no pair, it has no key for any mate
pub clean_at_each : (state : State) → dirty state ≡ 0 → (place : ℕ) → changed_of state place ≡ []
clean_at_each state none place = elim (cases_lt place (length state.changed)) [
  | inl low ↦ nil_from_length (changed_of state place) (omega (arith, none, get_or-le-sum_by length state.changed place [] low))
  | inr past ↦ get_or_past state.changed place [] past
]

-- where it has a pair, it has a key for some mate
pub some_dirty : (state : State) → 1 ≤ dirty state → (place : ℕ) × (place < length state.changed) × (changed_of state place ≢ [])
some_dirty state some = of_some state.changed some
  where
    of_some : (changed : List (List ℕ)) → 1 ≤ sum_by length changed → (place : ℕ) × (place < length changed) × (slice_index_or changed place [] ≢ [])
    of_some [] some = absurd (omega (arith, some))
    of_some ([] ∷ changed) some =
        let found = of_some changed (omega (arith, some, sum_by-cons length [] changed)) in
        (suc found.0, omega (arith, found.1), found.2)
    of_some ((key ∷ keys) ∷ changed) some = (0, omega arith, λ none. not_empty (key ∷ keys) key (contains_first key keys) none)

-- where batches of all changed keys were tried and none went out, one came back from some mate
pub blocked_full : (before now : Lists) (gossips : Gossips before now) → AllTried before gossips.tries → batches gossips.tries ≡ 0
    → 1 ≤ dirty before.state → length before.state.changed ≡ length before.told
    → (place : ℕ) × (place < length before.told) × IsTrue (list_any not (slice_index_or gossips.tries place []))
blocked_full before now gossips tried none dirty as_many =
    let found = some_dirty before.state dirty in
    let within : found.0 < length before.told = omega (arith, found.1, as_many) in (
      found.0,
      within,
      some_back (slice_index_or gossips.tries found.0 []) (none_to_each gossips.tries none found.0)
          (omega (arith, tried found.0 within, some_keys (changed_of before.state found.0) found.2)),
    )
  where
    some_keys : (keys : List ℕ) → keys ≢ [] → 1 ≤ length keys
    some_keys [] some = absurd (some refl)
    some_keys (key ∷ keys) some = omega arith
