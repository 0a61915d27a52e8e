-- Batches of gossip: which keys went out, which are left over, and which cells of a key the batches tell.
use Rattle.std.specs.Prelude.{◌≡◌, ◌≢◌, ◌⊎◌, ◌==◌, ◌+◌, ◌*◌, ◌<◌, ◌≤◌, ℕ, Bool, true, false, IsTrue, cond, ltb, if◌then◌else◌, List, [], ◌∷◌, ◌++◌, All, Contains, drop, filter, length, map, not, option_map, slice_index_or, take, Option, Some, None}
use Rattle.std.proofs.Common.{refl, sym, ap, subst, ◌∙◌, inl, inr, arith}
use Rattle.std.specs.List.{cons_option, flat_map, list_any}
use Rattle.std.specs.Cmp.Derive.{both_true}
use Rattle.std.proofs.lemmas.Bool.{true≢false, and_parts, cases_lt, eq-eqb, le-leb, leb-true, ltb-true, ltb-false}
use Rattle.std.proofs.lemmas.Bool.Decides.{eqb_tells}
use Rattle.std.proofs.lemmas.List.{append-nil, get_or_past, nil_from_length, length-drop, map-append, take-append-drop}
use Rattle.std.proofs.lemmas.List.Concat.{flat_map-append}
use Rattle.std.proofs.lemmas.List.Elements.{All-nil, All-cons, Contains-append_left, Contains-append_right, Contains-append_cases, filter-append, filter_map-append}
use Rattle.std.proofs.lemmas.List.Sums.{get_or-le-sum_by}
use Rattle.lattice_laws.proofs.MembersLemmas.{contains_none, contains_first, contains_later, contains_cases}
use Rattle.merge_world.specs.Cell.{PlainCell}
use Rattle.merge_world.specs.Effects.{cells_at, told_of, tells}
use Rattle.merge_world.specs.World.{is_ascending}
use Rattle.merge_world.specs.declared.private_map.KeyCells.{KeyCells}
use Rattle.gossip_rounds.specs.Batches.{Entries, batches, left_over, told_on, went_out}
use Rattle.gossip_rounds.specs.Changes.{with_key}

-- a key is among keys or not
pub among_or_not : (keys : List ℕ) (key : ℕ) → Contains keys key ⊎ (Contains keys key → ⊥)
among_or_not [] key = inr (contains_none key)
among_or_not (first ∷ keys) key = elim (eqb_tells first key) [
  | inl same ↦ inl (subst (Contains (first ∷ keys)) same.1 (contains_first first keys))
  | inr apart ↦ elim (among_or_not keys key) [
    | inl later ↦ inl (contains_later first key keys later)
    | inr not_later ↦ inr (λ has_it. elim (contains_cases first key keys has_it) [ inl here ↦ apart.1 here | inr later ↦ not_later later ])
  ]
]

-- a key is held: there are cells of it
abbrev pub HasCells : List (Option KeyCells) → ℕ → Type 0
HasCells cells key = (at : KeyCells) × (cells_at cells key ≡ Some at)

-- the first of ascending keys is below each other
first_below : (first : ℕ) (keys : List ℕ) → IsTrue (is_ascending (first ∷ keys)) → (key : ℕ) → Contains keys key → first < key
first_below first [] rises key has_it = absurd (contains_none key has_it)
first_below first (next ∷ keys) rises key has_it =
    let parts = and_parts _ _ rises in
    let up = leb-true (first + 1) next parts.0 in
    elim (contains_cases next key keys has_it) [
      | inl here ↦ omega (arith, up, here)
      | inr later ↦ omega (arith, up, first_below next keys parts.1 key later)
    ]

-- the others ascend
others_ascend : (first : ℕ) (keys : List ℕ) → IsTrue (is_ascending (first ∷ keys)) → IsTrue (is_ascending keys)
others_ascend first [] rises = refl
others_ascend first (next ∷ keys) rises = (and_parts _ _ rises).1

-- a key that is below each of ascending ones may stand before them
ascend_from : (first : ℕ) (keys : List ℕ) → ((key : ℕ) → Contains keys key → first < key) → IsTrue (is_ascending keys)
    → IsTrue (is_ascending (first ∷ keys))
ascend_from first [] below rises = refl
ascend_from first (next ∷ keys) below rises = both_true (le-leb (first + 1) next (omega (arith, below next (contains_first next keys)))) rises

-- the front ascends, the back ascends, and each of the front is below each of the back
record AreApart (front back : List ℕ) : Type 0 where
  front_rises : IsTrue (is_ascending front)
  back_rises : IsTrue (is_ascending back)
  below : (key later : ℕ) → Contains front key → Contains back later → key < later

apart_from : (front back : List ℕ) → IsTrue (is_ascending (front ++ back)) → AreApart front back
apart_from [] back rises = record { front_rises = refl; back_rises = rises; below = λ key later has_it of_back. absurd (contains_none key has_it) }
apart_from (first ∷ front) back rises =
    let below = first_below first (front ++ back) rises in
    let others = apart_from front back (others_ascend first (front ++ back) rises) in
    record {
      front_rises = ascend_from first front (λ key has_it. below key (Contains-append_left front back key has_it)) others.front_rises;
      back_rises = others.back_rises;
      below = λ key later has_it of_back.
          elim (contains_cases first key front has_it) [
            | inl here ↦ omega (arith, here, below later (Contains-append_right front back later of_back))
            | inr among ↦ others.below key later among of_back
          ];
    }

ascend_together : (front back : List ℕ) → IsTrue (is_ascending front) → IsTrue (is_ascending back)
    → ((key later : ℕ) → Contains front key → Contains back later → key < later) → IsTrue (is_ascending (front ++ back))
ascend_together [] back front_rises back_rises below = back_rises
ascend_together (first ∷ front) back front_rises back_rises below =
    ascend_from first (front ++ back)
    (λ key has_it. elim (Contains-append_cases front back key has_it) [
      | inl among ↦ first_below first front front_rises key among
      | inr of_back ↦ below first key (contains_first first front) of_back
    ])
    (ascend_together front back (others_ascend first front front_rises) back_rises
    (λ key later has_it. below key later (contains_later first key front has_it)))

-- the keys that went out, one after the other
abbrev pub sent_keys : List Bool → List ℕ → List ℕ
sent_keys tries keys = flat_map (λ some. some) (went_out tries keys)

-- Keys are the first 16 and the others.
module _ (keys : List ℕ) (key : ℕ) where
  in_first : Contains (take 16 keys) key → Contains keys key
  in_first has_it = subst (λ all. Contains all key) (take-append-drop 16 keys) (Contains-append_left (take 16 keys) (drop 16 keys) key has_it)

  in_others : Contains (drop 16 keys) key → Contains keys key
  in_others has_it = subst (λ all. Contains all key) (take-append-drop 16 keys) (Contains-append_right (take 16 keys) (drop 16 keys) key has_it)

  in_parts : Contains keys key → Contains (take 16 keys) key ⊎ Contains (drop 16 keys) key
  in_parts has_it = Contains-append_cases (take 16 keys) (drop 16 keys) key (subst (λ all. Contains all key) (sym (take-append-drop 16 keys)) has_it)

parts_apart : (keys : List ℕ) → IsTrue (is_ascending keys) → AreApart (take 16 keys) (drop 16 keys)
parts_apart keys rises = apart_from (take 16 keys) (drop 16 keys) (subst (λ all. IsTrue (is_ascending all)) (sym (take-append-drop 16 keys)) rises)

-- a key that went out was one of the keys
pub sent_among : (tries : List Bool) (keys : List ℕ) (key : ℕ) → Contains (sent_keys tries keys) key → Contains keys key
sent_among [] keys key has_it = absurd (contains_none key has_it)
sent_among (true ∷ tries) keys key has_it =
    elim (Contains-append_cases (take 16 keys) (sent_keys tries (drop 16 keys)) key has_it) [
      | inl first ↦ in_first keys key first
      | inr later ↦ in_others keys key (sent_among tries (drop 16 keys) key later)
    ]
sent_among (false ∷ tries) keys key has_it = in_others keys key (sent_among tries (drop 16 keys) key has_it)

-- a key that is left over was one of the keys
pub left_among : (tries : List Bool) (keys : List ℕ) (key : ℕ) → Contains (left_over tries keys) key → Contains keys key
left_among [] keys key has_it = has_it
left_among (true ∷ tries) keys key has_it = in_others keys key (left_among tries (drop 16 keys) key has_it)
left_among (false ∷ tries) keys key has_it =
    elim (Contains-append_cases (take 16 keys) (left_over tries (drop 16 keys)) key has_it) [
      | inl first ↦ in_first keys key first
      | inr later ↦ in_others keys key (left_among tries (drop 16 keys) key later)
    ]

-- each key went out or is left over
pub sent_or_left : (tries : List Bool) (keys : List ℕ) (key : ℕ) → Contains keys key
    → Contains (sent_keys tries keys) key ⊎ Contains (left_over tries keys) key
sent_or_left [] keys key has_it = inr has_it
sent_or_left (true ∷ tries) keys key has_it =
    elim (in_parts keys key has_it) [
      | inl first ↦ inl (Contains-append_left (take 16 keys) (sent_keys tries (drop 16 keys)) key first)
      | inr others ↦ elim (sent_or_left tries (drop 16 keys) key others) [
        | inl sent ↦ inl (Contains-append_right (take 16 keys) (sent_keys tries (drop 16 keys)) key sent)
        | inr left ↦ inr left
      ]
    ]
sent_or_left (false ∷ tries) keys key has_it =
    elim (in_parts keys key has_it) [
      | inl first ↦ inr (Contains-append_left (take 16 keys) (left_over tries (drop 16 keys)) key first)
      | inr others ↦ elim (sent_or_left tries (drop 16 keys) key others) [
        | inl sent ↦ inl sent
        | inr left ↦ inr (Contains-append_right (take 16 keys) (left_over tries (drop 16 keys)) key left)
      ]
    ]

-- what is left over of ascending keys ascends
pub left_ascends : (tries : List Bool) (keys : List ℕ) → IsTrue (is_ascending keys) → IsTrue (is_ascending (left_over tries keys))
left_ascends [] keys rises = rises
left_ascends (true ∷ tries) keys rises = left_ascends tries (drop 16 keys) (parts_apart keys rises).back_rises
left_ascends (false ∷ tries) keys rises =
    let parts = parts_apart keys rises in
    ascend_together (take 16 keys) (left_over tries (drop 16 keys)) parts.front_rises (left_ascends tries (drop 16 keys) parts.back_rises)
    (λ key later has_it of_left. parts.below key later has_it (left_among tries (drop 16 keys) later of_left))

-- what went out of ascending keys ascends
sent_ascends : (tries : List Bool) (keys : List ℕ) → IsTrue (is_ascending keys) → IsTrue (is_ascending (sent_keys tries keys))
sent_ascends [] keys rises = refl
sent_ascends (true ∷ tries) keys rises =
    let parts = parts_apart keys rises in
    ascend_together (take 16 keys) (sent_keys tries (drop 16 keys)) parts.front_rises (sent_ascends tries (drop 16 keys) parts.back_rises)
    (λ key later has_it of_sent. parts.below key later has_it (sent_among tries (drop 16 keys) later of_sent))
sent_ascends (false ∷ tries) keys rises = sent_ascends tries (drop 16 keys) (parts_apart keys rises).back_rises

-- no key of ascending ones both went out and is left over
sent_not_left : (tries : List Bool) (keys : List ℕ) → IsTrue (is_ascending keys) → (key : ℕ) → Contains (sent_keys tries keys) key
    → Contains (left_over tries keys) key → ⊥
sent_not_left [] keys rises key sent left = contains_none key sent
sent_not_left (true ∷ tries) keys rises key sent left =
    let parts = parts_apart keys rises in
    elim (Contains-append_cases (take 16 keys) (sent_keys tries (drop 16 keys)) key sent) [
      | inl first ↦ omega (arith, parts.below key key first (left_among tries (drop 16 keys) key left))
      | inr later ↦ sent_not_left tries (drop 16 keys) parts.back_rises key later left
    ]
sent_not_left (false ∷ tries) keys rises key sent left =
    let parts = parts_apart keys rises in
    elim (Contains-append_cases (take 16 keys) (left_over tries (drop 16 keys)) key left) [
      | inl first ↦ omega (arith, parts.below key key first (sent_among tries (drop 16 keys) key sent))
      | inr later ↦ sent_not_left tries (drop 16 keys) parts.back_rises key sent later
    ]

-- the cells of a key among entries, in order
abbrev cells_in : ℕ → Entries → List PlainCell
cells_in key entries = map (λ entry. entry.1) (filter (λ entry. entry.0 == key) entries)

cells_in-append : (key : ℕ) (front back : Entries) → cells_in key (front ++ back) ≡ cells_in key front ++ cells_in key back
cells_in-append key front back =
    ap (map (λ entry. entry.1)) (filter-append (λ entry. entry.0 == key) front back)
    ∙ map-append (λ entry. entry.1) (filter (λ entry. entry.0 == key) front) (filter (λ entry. entry.0 == key) back)

-- what batches tell of a key and what others tell after them
pub told_on-append : (key : ℕ) (front back : List Entries) → told_on key (front ++ back) ≡ told_on key front ++ told_on key back
told_on-append key front back =
    ap (cells_in key) (flat_map-append (λ batch. batch) front back)
    ∙ cells_in-append key (flat_map (λ batch. batch) front) (flat_map (λ batch. batch) back)

-- the own cell, where cells are held
abbrev own_in : Option KeyCells → List PlainCell
own_in None = []
own_in (Some at) = at.own ∷ []

module _ (cells : List (Option KeyCells)) where
  -- a cell is the own one of a key
  abbrev pub IsOwnOf : ℕ → PlainCell → Type 0
  IsOwnOf key cell = (at : KeyCells) × (cells_at cells key ≡ Some at) × (cell ≡ at.own)

  -- what one key tells of a key, by whether it is that one
  abbrev told_if : ℕ → Bool → List PlainCell
  told_if first same = if same then own_in (cells_at cells first) else []

  -- keys tell of a key what the first of them and the others do
  tells-cons : (key first : ℕ) (keys : List ℕ)
      → cells_in key (tells (first ∷ keys) cells) ≡ told_if first (first == key) ++ cells_in key (tells keys cells)
  tells-cons key first keys =
      let rest : Entries = tells keys cells in
      let kept : Entries = filter (λ entry. entry.0 == key) rest in
      elim (cells_at cells first) as (λ found. cells_in key (cons_option (option_map (λ (at : KeyCells). (first, at.own)) found) rest)
      ≡ (if first == key then own_in found else []) ++ cells_in key rest) [
        | None ↦ elim (first == key) as (λ same. cells_in key rest ≡ (if same then [] else []) ++ cells_in key rest) [ true ↦ refl | false ↦ refl ]
        | Some at ↦
            elim (first == key) as (λ same. map (λ entry. entry.1) (cond same ((first, at.own) ∷ kept) kept)
            ≡ (if same then at.own ∷ [] else []) ++ cells_in key rest) [
              | true ↦ refl
              | false ↦ refl
            ]
      ]

  -- keys tell nothing of a key that is none of them
  tells_absent : (key : ℕ) (keys : List ℕ) → (Contains keys key → ⊥) → cells_in key (tells keys cells) ≡ []
  tells_absent key [] absent = refl
  tells_absent key (first ∷ keys) absent =
      let others = tells_absent key keys (λ has_it. absent (contains_later first key keys has_it)) in
      elim (eqb_tells first key) [
        | inl same ↦ absurd (absent (subst (Contains (first ∷ keys)) same.1 (contains_first first keys)))
        | inr apart ↦ tells-cons key first keys ∙ ap (λ same. told_if first same ++ cells_in key (tells keys cells)) apart.0 ∙ others
      ]

  -- ascending keys tell the own cell of each of them, once
  tells_present : (key : ℕ) (keys : List ℕ) → IsTrue (is_ascending keys) → Contains keys key
      → cells_in key (tells keys cells) ≡ own_in (cells_at cells key)
  tells_present key [] rises has_it = absurd (contains_none key has_it)
  tells_present key (first ∷ keys) rises has_it =
      elim (eqb_tells first key) [
        | inl same ↦
            let others = tells_absent key keys (λ later. omega (arith, same.1, first_below first keys rises key later)) in
            tells-cons key first keys ∙ ap (λ same. told_if first same ++ cells_in key (tells keys cells)) same.0
            ∙ ap (λ rest. own_in (cells_at cells first) ++ rest) others ∙ append-nil (own_in (cells_at cells first))
            ∙ ap (λ k. own_in (cells_at cells k)) same.1
        | inr apart ↦
            let later : Contains keys key = elim (contains_cases first key keys has_it) [ inl here ↦ absurd (apart.1 here) | inr later ↦ later ] in
            tells-cons key first keys ∙ ap (λ same. told_if first same ++ cells_in key (tells keys cells)) apart.0
            ∙ tells_present key keys (others_ascend first keys rises) later
      ]

  -- keys tell the own cell of each of them
  tells_has : (key : ℕ) (keys : List ℕ) (at : KeyCells) → Contains keys key → cells_at cells key ≡ Some at
      → Contains (cells_in key (tells keys cells)) at.own
  tells_has key [] at has_it held = absurd (contains_none key has_it)
  tells_has key (first ∷ keys) at has_it held =
      subst (λ all. Contains all at.own) (sym (tells-cons key first keys)) (elim (contains_cases first key keys has_it) [
        | inr later ↦ Contains-append_right (told_if first (first == key)) (cells_in key (tells keys cells)) at.own (tells_has key keys at later held)
        | inl same ↦
            let here = ap (told_if first) (eq-eqb first key same) ∙ ap (λ k. own_in (cells_at cells k)) same ∙ ap own_in held in
            Contains-append_left (told_if first (first == key)) (cells_in key (tells keys cells)) at.own
            (subst (λ all. Contains all at.own) (sym here) (contains_first at.own []))
      ])

  -- what is told of a key is its own cell
  tells_own : (key : ℕ) (keys : List ℕ) (cell : PlainCell) → Contains (cells_in key (tells keys cells)) cell → IsOwnOf key cell
  tells_own key [] cell has_it = absurd (contains_none cell has_it)
  tells_own key (first ∷ keys) cell has_it =
      let either = subst (λ all. Contains all cell) (tells-cons key first keys) has_it in
      elim (Contains-append_cases (told_if first (first == key)) (cells_in key (tells keys cells)) cell either) [
        | inr later ↦ tells_own key keys cell later
        | inl here ↦ elim (eqb_tells first key) [
          | inr apart ↦ absurd (contains_none cell (subst (λ same. Contains (told_if first same) cell) apart.0 here))
          | inl same ↦
              let of_first = subst (λ same. Contains (told_if first same) cell) same.0 here in
              held (cells_at cells key) refl (subst (λ k. Contains (own_in (cells_at cells k)) cell) same.1 of_first)
        ]
      ]
    where
      held : (found : Option KeyCells) → cells_at cells key ≡ found → Contains (own_in found) cell → IsOwnOf key cell
      held None is has_it = absurd (contains_none cell has_it)
      held (Some at) is has_it =
          let same : cell ≡ at.own = elim (contains_cases at.own cell [] has_it) [
            | inl same ↦ sym same
            | inr none ↦ absurd (contains_none cell none)
          ] in
          (at, is, same)

  -- batches one after the other tell what all their keys tell
  tells_together : (batches : List (List ℕ))
      → flat_map (λ batch. batch) (map (λ keys. tells keys cells) batches) ≡ tells (flat_map (λ some. some) batches) cells
  tells_together [] = refl
  tells_together (keys ∷ batches) =
      ap (λ rest. tells keys cells ++ rest) (tells_together batches) ∙ sym (filter_map-append (told_of cells) keys (flat_map (λ some. some) batches))

  -- the batches that went out
  abbrev pub sent_batches : List Bool → List ℕ → List Entries
  sent_batches tries keys = map (λ keys. tells keys cells) (went_out tries keys)

  sent_tell : (tries : List Bool) (keys : List ℕ) (key : ℕ)
      → told_on key (sent_batches tries keys) ≡ cells_in key (tells (sent_keys tries keys) cells)
  sent_tell tries keys key = ap (cells_in key) (tells_together (went_out tries keys))

  -- what batches that went out tell of a key is its own cell
  pub sent_own : (tries : List Bool) (keys : List ℕ) (key : ℕ) (cell : PlainCell) → Contains (told_on key (sent_batches tries keys)) cell
      → IsOwnOf key cell
  sent_own tries keys key cell has_it = tells_own key (sent_keys tries keys) cell (subst (λ all. Contains all cell) (sent_tell tries keys key) has_it)

  -- batches of keys tell nothing of any other key
  pub sent_absent : (tries : List Bool) (keys : List ℕ) (key : ℕ) → (Contains keys key → ⊥) → told_on key (sent_batches tries keys) ≡ []
  sent_absent tries keys key absent =
      sent_tell tries keys key ∙ tells_absent key (sent_keys tries keys) (λ sent. absent (sent_among tries keys key sent))

  -- of a held key that is not left over they tell the own cell
  pub sent_has : (tries : List Bool) (keys : List ℕ) (key : ℕ) (at : KeyCells) → Contains keys key → cells_at cells key ≡ Some at
      → (Contains (left_over tries keys) key → ⊥) → Contains (told_on key (sent_batches tries keys)) at.own
  sent_has tries keys key at has_it held not_left =
      subst (λ all. Contains all at.own) (sym (sent_tell tries keys key)) (elim (sent_or_left tries keys key has_it) [
        | inl sent ↦ tells_has key (sent_keys tries keys) at sent held
        | inr left ↦ absurd (not_left left)
      ])

  -- and that once, where the keys ascend
  pub sent_present : (tries : List Bool) (keys : List ℕ) (key : ℕ) (at : KeyCells) → IsTrue (is_ascending keys) → Contains keys key
      → cells_at cells key ≡ Some at
      → (Contains (left_over tries keys) key → ⊥) → told_on key (sent_batches tries keys) ≡ at.own ∷ []
  sent_present tries keys key at rises has_it held not_left =
      let sent : Contains (sent_keys tries keys) key = elim (sent_or_left tries keys key has_it) [
        | inl sent ↦ sent
        | inr left ↦ absurd (not_left left)
      ] in
      sent_tell tries keys key ∙ tells_present key (sent_keys tries keys) (sent_ascends tries keys rises) sent ∙ ap own_in held

  -- of each key they tell one cell at most
  pub sent_once : (tries : List Bool) (keys : List ℕ) (key : ℕ) → IsTrue (is_ascending keys) → length (told_on key (sent_batches tries keys)) ≤ 1
  sent_once tries keys key rises =
      elim (among_or_not (sent_keys tries keys) key) [
        | inl sent ↦
            let present = tells_present key (sent_keys tries keys) (sent_ascends tries keys rises) sent in
            omega (arith, own_once (cells_at cells key), ap length (sent_tell tries keys key ∙ present))
        | inr not_sent ↦ omega (arith, ap length (sent_tell tries keys key ∙ tells_absent key (sent_keys tries keys) not_sent))
      ]
    where
      own_once : (found : Option KeyCells) → length (own_in found) ≤ 1
      own_once None = omega arith
      own_once (Some at) = omega arith

  -- a key that they tell of is one of the keys
  pub sent_of : (tries : List Bool) (keys : List ℕ) (key : ℕ) → told_on key (sent_batches tries keys) ≢ [] → Contains keys key
  sent_of tries keys key some = elim (among_or_not keys key) [ inl has_it ↦ has_it | inr absent ↦ absurd (some (sent_absent tries keys key absent)) ]

  -- batches of held keys are not empty, where none was tried but of keys that there are
  pub none_empty : (tries : List Bool) (keys : List ℕ) → 16 * length tries < length keys + 16
      → ((key : ℕ) → Contains (sent_keys tries keys) key → HasCells cells key)
      → All (λ (batch : Entries). 1 ≤ length batch) (sent_batches tries keys)
  none_empty [] keys few held = All-nil (λ (batch : Entries). 1 ≤ length batch)
  none_empty (true ∷ tries) keys few held =
      All-cons (λ (batch : Entries). 1 ≤ length batch) (tells (take 16 keys) cells) (sent_batches tries (drop 16 keys))
      (first_tells keys (omega (arith, few))
      (λ key has_it. held key (Contains-append_left (take 16 keys) (sent_keys tries (drop 16 keys)) key has_it)))
      (none_empty tries (drop 16 keys) (omega (arith, few, length-drop 16 keys))
      (λ key has_it. held key (Contains-append_right (take 16 keys) (sent_keys tries (drop 16 keys)) key has_it)))
    where
      first_tells : (keys : List ℕ) → 1 ≤ length keys → ((key : ℕ) → Contains (take 16 keys) key → HasCells cells key)
          → 1 ≤ length (tells (take 16 keys) cells)
      first_tells [] some held = absurd (omega (arith, some))
      first_tells (first ∷ keys) some held =
          let found = held first (contains_first first (take 15 keys)) in
          let rest : Entries = tells (take 15 keys) cells in
          subst (λ o. 1 ≤ length (cons_option (option_map (λ (at : KeyCells). (first, at.own)) o) rest)) (sym found.1) (omega arith)
  none_empty (false ∷ tries) keys few held = none_empty tries (drop 16 keys) (omega (arith, few, length-drop 16 keys)) held

-- where no batch went out, all is left over
pub nothing_went : (tries : List Bool) (keys : List ℕ) → length (filter (λ went. went) tries) ≡ 0
    → (went_out tries keys ≡ []) × (left_over tries keys ≡ keys)
nothing_went [] keys none = (refl, refl)
nothing_went (true ∷ tries) keys none = absurd (omega (arith, none))
nothing_went (false ∷ tries) keys none =
    let others = nothing_went tries (drop 16 keys) none in
    (others.0, ap (λ rest. take 16 keys ++ rest) others.1 ∙ take-append-drop 16 keys)

-- where batches of all keys were tried and each went out, nothing is left over
pub all_went : (tries : List Bool) (keys : List ℕ) → list_any not tries ≡ false → length keys ≤ 16 * length tries → left_over tries keys ≡ []
all_went [] keys went few = nil_from_length keys (omega (arith, few))
all_went (true ∷ tries) keys went few = all_went tries (drop 16 keys) went (omega (arith, few, length-drop 16 keys))
all_went (false ∷ tries) keys went few = absurd (true≢false went)

-- where batches of some keys were tried and none went out, one came back
pub some_back : (tries : List Bool) → length (filter (λ went. went) tries) ≡ 0 → 1 ≤ length tries → list_any not tries ≡ true
some_back [] none some = absurd (omega (arith, some))
some_back (true ∷ tries) none some = absurd (omega (arith, none))
some_back (false ∷ tries) none some = refl

-- where none went out to any mate, none did to each
pub none_to_each : (tries : List (List Bool)) → batches tries ≡ 0 → (place : ℕ) → length (filter (λ went. went) (slice_index_or tries place [])) ≡ 0
none_to_each tries none place = elim (cases_lt place (length tries)) [
  | inl low ↦ omega (arith, none, get_or-le-sum_by (λ of_mate. length (filter (λ went. went) of_mate)) tries place [] low)
  | inr past ↦ ap (λ (of_mate : List Bool). length (filter (λ went. went) of_mate)) (get_or_past tries place [] past)
]

-- a key is among all of them where it is the new one or among the keys
abbrev pub IsWith : ℕ → ℕ → List ℕ → List ℕ → Type 0
IsWith new key keys all = (Contains all key → (key ≡ new) ⊎ Contains keys key) × (((key ≡ new) ⊎ Contains keys key) → Contains all key)

-- a key is among keys and one more where it is that one or among them
pub in_with_key : (new key : ℕ) (keys : List ℕ) → IsWith new key keys (with_key new keys)
in_with_key new key [] = (
  (λ has_it. elim (contains_cases new key [] has_it) [ inl same ↦ inl (sym same) | inr none ↦ inr none ]),
  (λ either. elim either [ inl same ↦ subst (Contains (new ∷ [])) (sym same) (contains_first new []) | inr none ↦ absurd (contains_none key none) ]),
)
in_with_key new key (next ∷ keys) =
    let others = in_with_key new key keys in
    let not_below : List ℕ = if new == next then next ∷ keys else next ∷ with_key new keys in
    elim (ltb new next) as (λ below. IsWith new key (next ∷ keys) (if below then new ∷ next ∷ keys else not_below)) [
      | true ↦ (
        (λ has_it. elim (contains_cases new key (next ∷ keys) has_it) [ inl same ↦ inl (sym same) | inr later ↦ inr later ]),
        (λ either. elim either [
          | inl same ↦ subst (Contains (new ∷ next ∷ keys)) (sym same) (contains_first new (next ∷ keys))
          | inr later ↦ contains_later new key (next ∷ keys) later
        ]),
      )
      | false ↦ elim (eqb_tells new next) [
        | inl same ↦ subst (λ t. IsWith new key (next ∷ keys) (if t then next ∷ keys else next ∷ with_key new keys)) (sym same.0) (
          (λ has_it. inr has_it),
          (λ either. elim either [
            | inl here ↦ subst (Contains (next ∷ keys)) (sym (here ∙ same.1)) (contains_first next keys)
            | inr later ↦ later
          ]),
        )
        | inr apart ↦ subst (λ t. IsWith new key (next ∷ keys) (if t then next ∷ keys else next ∷ with_key new keys)) (sym apart.0) (
          (λ has_it. elim (contains_cases next key (with_key new keys) has_it) [
            | inl first ↦ inr (subst (Contains (next ∷ keys)) first (contains_first next keys))
            | inr later ↦ elim (others.0 later) [ inl same ↦ inl same | inr among ↦ inr (contains_later next key keys among) ]
          ]),
          (λ either. elim either [
            | inl same ↦ contains_later next key (with_key new keys) (others.1 (inl same))
            | inr among ↦ elim (contains_cases next key keys among) [
              | inl first ↦ subst (Contains (next ∷ with_key new keys)) first (contains_first next (with_key new keys))
              | inr later ↦ contains_later next key (with_key new keys) (others.1 (inr later))
            ]
          ]),
        )
      ]
    ]

-- ascending keys and one more ascend
pub with_key_ascends : (new : ℕ) (keys : List ℕ) → IsTrue (is_ascending keys) → IsTrue (is_ascending (with_key new keys))
with_key_ascends new [] rises = refl
with_key_ascends new (next ∷ keys) rises =
    by_order (ltb new next) refl (with_key_ascends new keys (others_ascend next keys rises))
  where
    by_order : (below : Bool) → ltb new next ≡ below → IsTrue (is_ascending (with_key new keys))
        → IsTrue (is_ascending (if below then new ∷ next ∷ keys else if new == next then next ∷ keys else next ∷ with_key new keys))
    by_order true is others = both_true (le-leb (new + 1) next (omega (arith, ltb-true new next is))) rises
    by_order false is others = elim (eqb_tells new next) [
      | inl same ↦ subst (λ t. IsTrue (is_ascending (if t then next ∷ keys else next ∷ with_key new keys))) (sym same.0) rises
      | inr apart ↦ subst (λ t. IsTrue (is_ascending (if t then next ∷ keys else next ∷ with_key new keys))) (sym apart.0)
          (ascend_from next (with_key new keys)
          (λ key has_it. elim ((in_with_key new key keys).0 has_it) [
            | inl same ↦ omega (arith, same, ltb-false new next is, apart.1)
            | inr among ↦ first_below next keys rises key among
          ])
          others)
    ]
