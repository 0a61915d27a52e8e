-- A worker tells its mates: the batches of a mate one after the other, and the mates one after the other.
use Rattle.std.proofs.Common.{◌≡◌, ◌≢◌, ◌||◌, ℕ, zero, suc, ◌+◌, ◌-◌, ◌*◌, ◌^◌, ◌<◌, ◌≤◌, Bool, true, false, if◌then◌else◌, min, not, List, [], ◌∷◌, ◌++◌, drop, length, map, option_map, take, Option, Some, None, Result, Ok, Err, IsTrue, refl, sym, ap, ◌∙◌, subst, arith, inl, inr, append-nil, append_assoc, length-append, length-drop, length-take}
use Rattle.std.specs.List.{cons_option, list_any, remove_range}
use Rattle.std.specs.Prelude.{filter, slice_get, slice_index_or, slice_set, IfOk, IsErr, OnOk}
use Rattle.std.proofs.Math.Bool.{or-false}
use Rattle.std.proofs.Math.Seq.{drop-append-add, drop-drop}
use Rattle.std.proofs.lemmas.Bool.{cases_Bool, false≢true, true≢false}
use Rattle.std.proofs.lemmas.Bool.Decides.{eqb_tells}
use Rattle.std.proofs.lemmas.List.{drop_at, drop_min, get_or-map, get_or-set_other, get_or-set_same, get_or_past, get_or_push, length-set, map-append, take-append-drop, take_at, take_min}
use Rattle.std.proofs.lemmas.List.Elements.{filter-append}
use Rattle.std.proofs.lemmas.List.Folds.{list_any-append}
use Rattle.std.proofs.lemmas.List.Sums.{sum_by_push}
use Rattle.std.proofs.lemmas.Option.{get_or_from_slice_get, slice_get_within}
use Rattle.lattice_laws.specs.Counts.{Rose}
use Rattle.merge_world.specs.Cell.{PlainCell}
use Rattle.mail_contract.specs.Sends.{FullsAfter, OnFull, Posted}
use Rattle.mail_contract.specs.declared.Refused.{Refused}
use Rattle.mail_contract.specs.declared.Refused.TheVariants.{Full, NoMemory}
use Rattle.merge_world.specs.Effects.{cells_at, tells, told_of}
use Rattle.merge_world.specs.declared.private_map.KeyCells.{KeyCells}
use Rattle.gossip_rounds.specs.Batches.{Entries, FirstBack, RoomAt, ToldMate, batches, left_over, went_first, went_out}
use Rattle.gossip_rounds.specs.Changes.{PlainChanges}
use Rattle.gossip_rounds.specs.Telling.{DifferAt, TellsAll, TellsOne}

-- what is told of a key is its own cell, where there is one
pub own_told : (map : List (Option KeyCells)) (key : ℕ) (own : Option PlainCell) → own ≡ option_map (λ cells. cells.own) (cells_at map key)
    → option_map {U = ℕ × PlainCell} (λ cell. (key, cell)) own ≡ told_of map key
own_told map key own is = ap (option_map (λ (cell : PlainCell). (key, cell))) is ∙ twice (cells_at map key)
  where
    twice : (found : Option KeyCells)
        → option_map {U = ℕ × PlainCell} (λ cell. (key, cell)) (option_map (λ cells. cells.own) found)
        ≡ option_map {U = ℕ × PlainCell} (λ cells. (key, cells.own)) found
    twice None = refl
    twice (Some cells) = refl

-- a list with an entry more, where there is one
one_at_most : {X : Type 0} (entry : Option X) (entries : List X) → length (cons_option entry entries) ≤ suc (length entries)
one_at_most None entries = omega arith
one_at_most (Some entry) entries = omega arith

-- of some keys as many cells are told at most as there are keys
pub few_told : (keys : List ℕ) (map : List (Option KeyCells)) → length (tells keys map) ≤ length keys
few_told [] map = omega arith
few_told (key ∷ keys) map = omega (arith, few_told keys map, one_at_most (told_of map key) (tells keys map))

-- the keys whose batches came back
abbrev pub came_back : List Bool → List ℕ → List ℕ
came_back [] keys = []
came_back (true ∷ tries) keys = came_back tries (drop 16 keys)
came_back (false ∷ tries) keys = take 16 keys ++ came_back tries (drop 16 keys)

-- the keys that are left to try
abbrev pub untried : List Bool → List ℕ → List ℕ
untried tries keys = drop (16 * length tries) keys

-- those after a first batch
untried-cons : (went : Bool) (tries : List Bool) (keys : List ℕ) → untried tries (drop 16 keys) ≡ untried (went ∷ tries) keys
untried-cons went tries keys =
    let same : 16 + 16 * length tries ≡ 16 * length (went ∷ tries) = omega arith in
    drop-drop (16 * length tries) 16 keys ∙ ap (λ n. drop n keys) same

-- and after one more at the end
untried-push : (tries : List Bool) (went : Bool) (keys : List ℕ) → untried (tries ++ went ∷ []) keys ≡ drop 16 (untried tries keys)
untried-push tries went keys =
    let same : 16 * length (tries ++ went ∷ []) ≡ 16 * length tries + 16 = omega (arith, length-append tries (went ∷ [])) in
    ap (λ n. drop n keys) same ∙ sym (drop-drop 16 (16 * length tries) keys)

-- the batches of some tries and further ones
went_out-append : (tries more : List Bool) (keys : List ℕ)
    → went_out (tries ++ more) keys ≡ went_out tries keys ++ went_out more (untried tries keys)
went_out-append [] more keys = refl
went_out-append (true ∷ tries) more keys =
    let later : List ℕ = drop 16 keys in
    ap (λ out. take 16 keys ∷ out) (went_out-append tries more later)
    ∙ ap (λ rest. take 16 keys ∷ went_out tries later ++ went_out more rest) (untried-cons true tries keys)
went_out-append (false ∷ tries) more keys =
    let later : List ℕ = drop 16 keys in
    went_out-append tries more later ∙ ap (λ rest. went_out tries later ++ went_out more rest) (untried-cons false tries keys)

-- and the keys that come back of them
came_back-append : (tries more : List Bool) (keys : List ℕ)
    → came_back (tries ++ more) keys ≡ came_back tries keys ++ came_back more (untried tries keys)
came_back-append [] more keys = refl
came_back-append (true ∷ tries) more keys =
    let later : List ℕ = drop 16 keys in
    came_back-append tries more later ∙ ap (λ rest. came_back tries later ++ came_back more rest) (untried-cons true tries keys)
came_back-append (false ∷ tries) more keys =
    let later : List ℕ = drop 16 keys in
    let further : List ℕ → List ℕ = λ rest. came_back tries later ++ came_back more rest in
    ap (λ back. take 16 keys ++ back) (came_back-append tries more later ∙ ap further (untried-cons false tries keys))
    ∙ sym (append_assoc (take 16 keys) (came_back tries later) (came_back more (untried (false ∷ tries) keys)))

-- the keys that came back and those that are left to try stay changed
left_over_is : (tries : List Bool) (keys : List ℕ) → left_over tries keys ≡ came_back tries keys ++ untried tries keys
left_over_is [] keys = refl
left_over_is (true ∷ tries) keys =
    let later : List ℕ = drop 16 keys in
    left_over_is tries later ∙ ap (λ rest. came_back tries later ++ rest) (untried-cons true tries keys)
left_over_is (false ∷ tries) keys =
    let later : List ℕ = drop 16 keys in
    let back : List ℕ → List ℕ = λ rest. came_back tries later ++ rest in
    ap (λ left. take 16 keys ++ left) (left_over_is tries later ∙ ap back (untried-cons false tries keys))
    ∙ sym (append_assoc (take 16 keys) (came_back tries later) (untried (false ∷ tries) keys))

or-true : (any : Bool) → (any || true) ≡ true
or-true true = refl
or-true false = refl

some_or_none : {P : Type 0} (count : ℕ) → (count ≡ 0 → P) → (1 ≤ count → P) → P
some_or_none zero none some = none refl
some_or_none (suc count) none some = some (omega arith)

-- a count that did not fall and then rose
rose_on : (before now after : ℕ) → before ≤ now → Rose now after → Rose before after
rose_on before now after not_fell rose = omega (arith, not_fell, rose)

-- a list with an item more is not empty
not_none : {A : Type 0} (items : List A) (item : A) → items ++ item ∷ [] ≡ [] → ⊥
not_none items item none = omega (arith, ap length none, length-append items (item ∷ []))

-- where the first batch came back, and a last one went out, it came back before the last one
first_back_before : (tries : List Bool) → FirstBack (tries ++ true ∷ []) → FirstBack tries
first_back_before [] came_back = absurd (true≢false came_back)
first_back_before (went ∷ tries) came_back = came_back

-- how many went out first, where one came back
went_first-append : (tries more : List Bool) → list_any not tries ≡ true → went_first (tries ++ more) ≡ went_first tries
went_first-append [] more some = absurd (false≢true some)
went_first-append (true ∷ tries) more some = ap (λ n. n + 1) (went_first-append tries more some)
went_first-append (false ∷ tries) more some = refl

-- and where none did
went_first_all : (tries : List Bool) → list_any not tries ≡ false → went_first (tries ++ false ∷ []) ≡ length tries
went_first_all [] none = refl
went_first_all (true ∷ tries) none = omega (arith, went_first_all tries none)
went_first_all (false ∷ tries) none = absurd (true≢false none)

-- How a sender stands after some tries: as before where there are none, and with a message more to take up a place for each where all went out.
pub record Stands {O : Type 0} (clear : O → Type 0) (roomy : Bool) (slot slot_now : Option O) (unseen unseen_now : ℕ) (tries : List Bool) : Type 0 where
  pub untried : tries ≡ [] → slot_now ≡ slot
  pub counts : IsTrue roomy → list_any not tries ≡ false → min 64 unseen_now ≡ min 64 (unseen + length tries)
  pub first : (sender : O) → slot ≡ Some sender → FirstBack tries → clear sender → ⊥
  pub full : IsTrue roomy → IsTrue (list_any not tries) → 64 ≤ unseen + went_first tries

-- how the sender at a place of several stands
abbrev pub StandsAt : {O : Type 0} → (O → Type 0) → Bool → (O → ℕ) → List O → List O → ℕ → List Bool → Type 0
StandsAt clear roomy unseen senders senders_now place tries =
    Stands clear roomy (slice_get senders place) (slice_get senders_now place)
    (slice_index_or (map unseen senders) place 0) (slice_index_or (map unseen senders_now) place 0) tries

module _ {O : Type 0} (clear : O → Type 0) (roomy : Bool) (unseen : O → ℕ) where
  -- nothing comes back where nothing is tried
  pub untried_roomy : (senders : List O) (place : ℕ) → RoomAt clear roomy unseen senders place []
  untried_roomy senders place sender there = record {
    first = λ back. absurd back;
    full = λ is_roomy some. absurd (false≢true some);
  }

  -- a sender that stays has the room that it had
  pub room_stays : (senders senders_now : List O) (place : ℕ) → slice_get senders_now place ≡ slice_get senders place
      → (tries : List Bool) → RoomAt clear roomy unseen senders_now place tries → RoomAt clear roomy unseen senders place tries
  room_stays senders senders_now place same tries room sender there = room sender (same ∙ there)

  -- how it stands before the first try
  pub stands_first : (senders : List O) (place : ℕ) → StandsAt clear roomy unseen senders senders place []
  stands_first senders place = record {
    untried = λ none. refl;
    counts = λ is_roomy none. omega arith;
    first = λ sender there back. absurd back;
    full = λ is_roomy some. absurd (false≢true some);
  }

  module _ (senders senders_now : List O) (place : ℕ) (tries : List Bool) (stands : StandsAt clear roomy unseen senders senders_now place tries) where
    -- what came back is bounded by its room
    pub stands_roomy : RoomAt clear roomy unseen senders place tries
    stands_roomy sender there = record {
      first = stands.first sender there;
      full =
          let low = slice_get_within senders place sender there in
          let is : slice_index_or (map unseen senders) place 0 ≡ unseen sender =
          get_or-map unseen senders place sender 0 low ∙ ap unseen (get_or_from_slice_get senders place sender sender there)
          in
          λ is_roomy some. omega (arith, stands.full is_roomy some, is);
    }

    -- how it stands once one more went out
    pub stands_went : (senders_then : List O)
        → (IsTrue roomy → slice_index_or (map unseen senders_then) place 0 ≡ min 64 (slice_index_or (map unseen senders_now) place 0 + 1))
        → StandsAt clear roomy unseen senders senders_then place (tries ++ true ∷ [])
    stands_went senders_then more =
        let same_any : list_any not (tries ++ true ∷ []) ≡ list_any not tries = list_any-append not tries (true ∷ []) ∙ or-false (list_any not tries) in
        record {
          untried = λ none. absurd (not_none tries true none);
          counts = λ is_roomy none. omega (arith, more is_roomy, stands.counts is_roomy (sym same_any ∙ none), length-append tries (true ∷ []));
          first = λ sender there back. stands.first sender there (first_back_before tries back);
          full = λ is_roomy some.
              let some_then : list_any not tries ≡ true = sym same_any ∙ some in
              omega (arith, stands.full is_roomy some_then, went_first-append tries (true ∷ []) some_then);
        }

    -- and once one came back
    pub stands_back : (senders_then : List O)
        → ((sender : O) → slice_get senders_now place ≡ Some sender → clear sender → ⊥)
        → (IsTrue roomy → 64 ≤ slice_index_or (map unseen senders_now) place 0)
        → StandsAt clear roomy unseen senders senders_then place (tries ++ false ∷ [])
    stands_back senders_then not_clear no_room =
        let some_any : list_any not (tries ++ false ∷ []) ≡ true = list_any-append not tries (false ∷ []) ∙ or-true (list_any not tries) in
        record {
          untried = λ none. absurd (not_none tries false none);
          counts = λ is_roomy none. absurd (true≢false (sym some_any ∙ none));
          first = first_there tries stands;
          full = λ is_roomy some. elim (cases_Bool (list_any not tries)) [
            | inl some_then ↦ omega (arith, stands.full is_roomy some_then, went_first-append tries (false ∷ []) some_then)
            | inr none ↦ omega (arith, no_room is_roomy, stands.counts is_roomy none, went_first_all tries none)
          ];
        }
      where
        first_there : (tries : List Bool) → StandsAt clear roomy unseen senders senders_now place tries
            → (sender : O) → slice_get senders place ≡ Some sender → FirstBack (tries ++ false ∷ []) → clear sender → ⊥
        first_there [] stands sender there back = not_clear sender (stands.untried refl ∙ there)
        first_there (went ∷ tries) stands sender there back = stands.first sender there back

-- What concerns one mate: its changed keys, the batches that it was told, what was turned back, and how often its sender wanted for a place.
pub record OneMate : Type 0 where
  pub keys : List ℕ
  pub batches : List Entries
  pub back : ℕ
  pub fulls : ℕ

-- What concerns each mate.
pub record Mates : Type 0 where
  pub changed : List (List ℕ)
  pub told : List (List Entries)
  pub turned : List ℕ
  pub fulls : List ℕ

-- that of mates with these changed keys, numbers of what was turned back, and senders
abbrev pub mates_of : {O : Type 0} → (O → List Entries) → (O → ℕ) → PlainChanges → List ℕ → List O → Mates
mates_of sent_by fulls_of changes turned senders = record {
  changed = changes.of_mates;
  told = map sent_by senders;
  turned = turned;
  fulls = map fulls_of senders;
}

-- that of the mate at a place
abbrev pub mate_in : Mates → ℕ → OneMate
mate_in mates place = record {
  keys = slice_index_or mates.changed place [];
  batches = slice_index_or mates.told place [];
  back = slice_index_or mates.turned place 0;
  fulls = slice_index_or mates.fulls place 0;
}

-- a mate was told by these tries
abbrev pub IsToldBy : List (Option KeyCells) → ℕ → List Bool → OneMate → OneMate → Type 0
IsToldBy cells taken tries before now = ToldMate cells taken tries before.keys now.keys before.batches now.batches before.back now.back

-- a mate was told, by the answer
abbrev pub IsTold : {E : Type 0} → Result ℕ E → List (Option KeyCells) → ℕ → OneMate → OneMate → (List Bool → Type 0) → Type 0
IsTold result cells taken before now room =
    TellsOne result cells taken before.keys now.keys before.batches now.batches before.back now.back before.fulls now.fulls room

-- the mates were told, by the answer
abbrev pub AreAllTold : {E : Type 0} → Result ℕ E → List (Option KeyCells) → ℕ → Mates → Mates → (ℕ → List Bool → Type 0) → Type 0
AreAllTold result cells taken before now room =
    TellsAll result cells taken before.changed now.changed before.told now.told before.turned now.turned before.fulls now.fulls room

-- A mate is being told: what was tried, where the keys before a place came back and those from it on are left to try, and how its sender stands.
pub record IsTelling (cells : List (Option KeyCells)) (taken most from sent : ℕ) (stands : List Bool → Type 0) (before now : OneMate) : Type 0 where
  pub tries : List Bool
  pub no_empty : 16 * length tries < length before.keys + 16
  pub told : now.batches ≡ before.batches ++ map (λ keys. tells keys cells) (went_out tries before.keys)
  pub from_is : from ≡ length (came_back tries before.keys)
  pub left : now.keys ≡ came_back tries before.keys ++ untried tries before.keys
  pub turned : now.back ≡ (if list_any not tries then taken else before.back)
  pub sent_is : sent ≡ length (filter (λ went. went) tries)
  pub few : 1 ≤ sent → sent + length now.keys ≤ most
  pub small : 1 ≤ sent → most < 2 ^ 16
  pub full : IsTrue (list_any not tries) → Rose before.fulls now.fulls
  pub never_falls : before.fulls ≤ now.fulls
  pub sender : stands tries

-- A batch tells of the next keys, from a place up to another.
pub record IsNext (cells : List (Option KeyCells)) (from to : ℕ) (keys : List ℕ) (batch : Entries) : Type 0 where
  pub some_left : from < length keys
  pub to_is : to ≡ min (length keys) (from + 16)
  pub batch_is : batch ≡ tells (take (to - from) (drop from keys)) cells

-- once a batch was tried fewer keys are left to try
pub fewer_left : {cells : List (Option KeyCells)} {from to : ℕ} {keys : List ℕ} {batch : Entries} → IsNext cells from to keys batch
    → (length (remove_range keys from to) - from < length keys - from) × (length keys - to < length keys - from)
fewer_left {from = from} {to} {keys} next = (
  omega (arith, next.some_left, next.to_is, length-append (take from keys) (drop to keys), length-take from keys, length-drop to keys),
  omega (arith, next.some_left, next.to_is),
)

module _ (cells : List (Option KeyCells)) (taken most : ℕ) (stands : List Bool → Type 0) (before : OneMate) where
  -- what is told before the first batch
  telling_begins : stands [] → IsTelling cells taken most 0 0 stands before before
  telling_begins untried = record {
    tries = [];
    no_empty = omega arith;
    told = sym (append-nil before.batches);
    from_is = refl;
    left = refl;
    turned = refl;
    sent_is = refl;
    few = λ some. absurd (omega (arith, some));
    small = λ some. absurd (omega (arith, some));
    full = λ some. absurd (false≢true some);
    never_falls = omega arith;
    sender = untried;
  }

module _ {cells : List (Option KeyCells)} {taken most from sent : ℕ} {stands : List Bool → Type 0} {before now : OneMate}
    (telling : IsTelling cells taken most from sent stands before now) where
  told_so_far : IsToldBy cells taken telling.tries before now
  told_so_far = record {
    no_empty = telling.no_empty;
    told = telling.told;
    changed = telling.left ∙ sym (left_over_is telling.tries before.keys);
    turned = telling.turned;
  }

  -- a mate was told so far, where memory is wanting
  pub telling_fails : {E : Type 0} {room : List Bool → Type 0} (result : Result ℕ E) → IsErr result → ((tries : List Bool) → stands tries → room tries)
      → IsTold result cells taken before now room
  telling_fails (Ok done) fails rooms = absurd (false≢true fails)
  telling_fails (Err error) fails rooms = record {
    tries = telling.tries;
    mate = told_so_far;
    all = tt;
    sent = tt;
    full = telling.full;
    never_falls = telling.never_falls;
    has_room = rooms telling.tries telling.sender;
  }

  -- a mate was told of all its keys, where none is left to try
  pub telling_ends : {E : Type 0} {room : List Bool → Type 0} → length now.keys ≤ from → ((tries : List Bool) → stands tries → room tries)
      → IsTold {E = E} (Ok sent) cells taken before now room
  telling_ends far rooms =
      let back : List ℕ = came_back telling.tries before.keys in
      let left : List ℕ = untried telling.tries before.keys in
      record {
        tries = telling.tries;
        mate = told_so_far;
        all =
            let rest = length-drop (16 * length telling.tries) before.keys in
            omega (arith, far, telling.from_is, ap length telling.left, length-append back left, rest);
        sent = telling.sent_is;
        full = telling.full;
        never_falls = telling.never_falls;
        has_room = rooms telling.tries telling.sender;
      }

  module _ {to : ℕ} {batch : Entries} (next : IsNext cells from to now.keys batch) where
    abbrev back : List ℕ
    back = came_back telling.tries before.keys

    abbrev left : List ℕ
    left = untried telling.tries before.keys

    -- how far the batch reaches
    reaches : to ≡ length back + min 16 (length left)
    reaches = omega (arith, next.to_is, telling.from_is, ap length telling.left, length-append back left)

    -- what stands before it
    before_it : take from now.keys ≡ back
    before_it = ap (take from) telling.left ∙ take_at back left from (sym telling.from_is)

    -- what it tells of
    told_by_it : take (to - from) (drop from now.keys) ≡ take 16 left
    told_by_it =
        let count : to - from ≡ min 16 (length left) = omega (arith, reaches, telling.from_is) in
        let from_it : drop from now.keys ≡ left = ap (drop from) telling.left ∙ drop_at back left from (sym telling.from_is) in
        (λ j. take (count j) (from_it j)) ∙ take_min 16 left

    -- what stands after it
    after_it : drop to now.keys ≡ drop 16 left
    after_it = (λ j. drop (reaches j) (telling.left j)) ∙ drop-append-add back left (min 16 (length left)) ∙ drop_min 16 left

    not_empty : (went : Bool) → 16 * length (telling.tries ++ went ∷ []) < length before.keys + 16
    not_empty went =
        let tries = length-append telling.tries (went ∷ []) in
        let all = length-drop (16 * length telling.tries) before.keys in
        omega (arith, next.some_left, telling.from_is, ap length telling.left, length-append back left, tries, all)

    -- the batch went out
    batch_went : {stands_then : List Bool → Type 0} → length now.keys ≤ most → most < 2 ^ 16
        → ((tries : List Bool) → stands tries → stands_then (tries ++ true ∷ []))
        → IsTelling cells taken most from (sent + 1) stands_then before (record {
          keys = remove_range now.keys from to;
          batches = now.batches ++ batch ∷ [];
          back = now.back;
          fulls = now.fulls;
        })
    batch_went few small sends =
        let tries : List Bool = telling.tries ++ true ∷ [] in
        let out : List (List ℕ) = went_out telling.tries before.keys in
        let tell : List ℕ → Entries = λ keys. tells keys cells in
        let returned : came_back tries before.keys ≡ back = came_back-append telling.tries (true ∷ []) before.keys ∙ append-nil back in
        let same_any : list_any not tries ≡ list_any not telling.tries =
        list_any-append not telling.tries (true ∷ []) ∙ or-false (list_any not telling.tries)
        in
        let all_out : map tell (went_out tries before.keys) ≡ map tell out ++ tell (take 16 left) ∷ [] =
        ap (map tell) (went_out-append telling.tries (true ∷ []) before.keys) ∙ map-append tell out (take 16 left ∷ [])
        in
        let fewer : length (remove_range now.keys from to) + 1 ≤ length now.keys =
        let removed = length-append (take from now.keys) (drop to now.keys) in
        omega (arith, next.to_is, next.some_left, removed, length-take from now.keys, length-drop to now.keys)
        in
        record {
          tries = tries;
          no_empty = not_empty true;
          told =
              (λ j. telling.told j ++ (next.batch_is ∙ ap tell told_by_it) j ∷ [])
              ∙ append_assoc before.batches (map tell out) (tell (take 16 left) ∷ [])
              ∙ ap (λ more. before.batches ++ more) (sym all_out);
          from_is = telling.from_is ∙ ap length (sym returned);
          left = λ j. (before_it ∙ sym returned) j ++ (after_it ∙ sym (untried-push telling.tries true before.keys)) j;
          turned = telling.turned ∙ ap (λ (any : Bool). if any then taken else before.back) (sym same_any);
          sent_is =
              let went : Bool → Bool = λ went. went in
              let more = ap length (filter-append went telling.tries (true ∷ [])) in
              omega (arith, telling.sent_is, more, length-append (filter went telling.tries) (true ∷ []));
          few = λ some_now. some_or_none sent (λ none. omega (arith, none, few, fewer)) (λ some. omega (arith, telling.few some, fewer));
          small = λ some_now. small;
          full = λ any. telling.full (subst IsTrue same_any any);
          never_falls = telling.never_falls;
          sender = sends telling.tries telling.sender;
        }

    -- the batch came back
    batch_came_back : {stands_then : List Bool → Type 0} (fulls : ℕ) → now.fulls ≤ fulls → Rose now.fulls fulls
        → ((tries : List Bool) → stands tries → stands_then (tries ++ false ∷ []))
        → IsTelling cells taken most to sent stands_then before (record { keys = now.keys; batches = now.batches; back = taken; fulls = fulls })
    batch_came_back fulls not_fell rose refuses =
        let tries : List Bool = telling.tries ++ false ∷ [] in
        let out : List (List ℕ) = went_out telling.tries before.keys in
        let went : Bool → Bool = λ went. went in
        let returned : came_back tries before.keys ≡ back ++ take 16 left =
        came_back-append telling.tries (false ∷ []) before.keys ∙ ap (λ keys. back ++ keys) (append-nil (take 16 left))
        in
        let some_any : list_any not tries ≡ true = list_any-append not telling.tries (false ∷ []) ∙ or-true (list_any not telling.tries) in
        let same_out : went_out tries before.keys ≡ out = went_out-append telling.tries (false ∷ []) before.keys ∙ append-nil out in
        record {
          tries = tries;
          no_empty = not_empty false;
          told = telling.told ∙ ap (λ out. before.batches ++ map (λ keys. tells keys cells) out) (sym same_out);
          from_is =
              reaches
              ∙ sym (ap length returned ∙ length-append back (take 16 left) ∙ ap (λ n. length back + n) (length-take 16 left));
          left =
              telling.left
              ∙ ap (λ keys. back ++ keys) (sym (take-append-drop 16 left))
              ∙ sym (append_assoc back (take 16 left) (drop 16 left))
              ∙ (λ j. sym returned j ++ sym (untried-push telling.tries false before.keys) j);
          turned = ap (λ (any : Bool). if any then taken else before.back) (sym some_any);
          sent_is =
              let more = filter-append went telling.tries (false ∷ []) in
              telling.sent_is ∙ sym (ap length (more ∙ append-nil (filter went telling.tries)));
          few = telling.few;
          small = telling.small;
          full = λ any. rose_on before.fulls now.fulls fulls telling.never_falls rose;
          never_falls = omega (arith, telling.never_falls, not_fell);
          sender = refuses telling.tries telling.sender;
        }

-- what is equal may stand for it
telling_same : {cells : List (Option KeyCells)} {taken most from from_then sent sent_then : ℕ} {stands : List Bool → Type 0} {before now after : OneMate}
    → from_then ≡ from → sent_then ≡ sent → after ≡ now → IsTelling cells taken most from sent stands before now
    → IsTelling cells taken most from_then sent_then stands before after
telling_same {cells} {taken} {most} {stands = stands} {before = before} from_is sent_is is =
    subst (λ (T : Type 0). T) (λ j. IsTelling cells taken most (sym from_is j) (sym sent_is j) stands before (sym is j))

-- Nothing changes but at a mate.
pub record DifferOnly (mate : ℕ) (before now : Mates) : Type 0 where
  pub changed : DifferAt [] mate before.changed now.changed
  pub told : DifferAt [] mate before.told now.told
  pub turned : DifferAt 0 mate before.turned now.turned
  pub fulls : DifferAt 0 mate before.fulls now.fulls

-- nothing changes
differs_nowhere : {A : Type 0} {default : A} {place : ℕ} {before : List A} → DifferAt default place before before
differs_nowhere = record { same_length = refl; others = λ other apart. refl }

module _ {A : Type 0} {default : A} {place : ℕ} {before now after : List A} where
  -- nothing more changes
  differs_still : DifferAt default place before now → after ≡ now → DifferAt default place before after
  differs_still differs same = subst (DifferAt default place before) (sym same) differs

  -- the item at the place changes
  differs_there : (item : A) → DifferAt default place before now → after ≡ slice_set now place item → DifferAt default place before after
  differs_there item differs is = record {
    same_length = ap length is ∙ length-set now place item ∙ differs.same_length;
    others = λ other apart.
        ap (λ list. slice_index_or list other default) is ∙ get_or-set_other now place other item default apart ∙ differs.others other apart;
  }

-- A mate of several is being told.
pub record IsTellingMate (cells : List (Option KeyCells)) (taken most mate from sent : ℕ) (stands : List Bool → Type 0) (before now : Mates) : Type 0 where
  pub others : DifferOnly mate before now
  pub telling : IsTelling cells taken most from sent stands (mate_in before mate) (mate_in now mate)

-- what is told of a mate before the first batch
pub mate_begins : (cells : List (Option KeyCells)) (taken most mate : ℕ) (stands : List Bool → Type 0) (before : Mates) → stands []
    → IsTellingMate cells taken most mate 0 0 stands before before
mate_begins cells taken most mate stands before untried = record {
  others = record {
    changed = differs_nowhere;
    told = differs_nowhere;
    turned = differs_nowhere;
    fulls = differs_nowhere;
  };
  telling = telling_begins cells taken most stands (mate_in before mate) untried;
}

module _ {cells : List (Option KeyCells)} {taken most mate from sent : ℕ} {stands : List Bool → Type 0} {before now after : Mates}
    (mate_telling : IsTellingMate cells taken most mate from sent stands before now) where
  -- nothing more is told of a mate
  pub mate_unmoved : after.changed ≡ now.changed → after.told ≡ now.told → after.turned ≡ now.turned → after.fulls ≡ now.fulls
      → IsTellingMate cells taken most mate from sent stands before after
  mate_unmoved same_changed same_told same_turned same_fulls =
      let same : after ≡ now = λ j. record { changed = same_changed j; told = same_told j; turned = same_turned j; fulls = same_fulls j } in
      subst (IsTellingMate cells taken most mate from sent stands before) (sym same) mate_telling

  module _ {from_then sent_then to : ℕ} {batch : Entries}
      (next : IsNext cells from to (slice_index_or now.changed mate []) batch) where
    -- a batch to the mate went out
    pub mate_went : {stands_then : List Bool → Type 0} → from_then ≡ from → sent_then ≡ sent + 1 → mate < length before.changed → mate < length before.told
        → length (slice_index_or now.changed mate []) ≤ most → most < 2 ^ 16
        → after.changed ≡ slice_set now.changed mate (remove_range (slice_index_or now.changed mate []) from to)
        → after.told ≡ slice_set now.told mate (slice_index_or now.told mate [] ++ batch ∷ [])
        → after.turned ≡ now.turned → after.fulls ≡ now.fulls
        → ((tries : List Bool) → stands tries → stands_then (tries ++ true ∷ []))
        → IsTellingMate cells taken most mate from_then sent_then stands_then before after
    mate_went from_is sent_is changed_low told_low few small cleared sends same_turned same_fulls stands_on =
        let others = mate_telling.others in
        let changed_now : mate < length now.changed = omega (arith, changed_low, others.changed.same_length) in
        let told_now : mate < length now.told = omega (arith, told_low, others.told.same_length) in
        let keys_are = ap (λ changed. slice_index_or changed mate []) cleared ∙ get_or-set_same now.changed mate _ [] changed_now in
        let batches_are = ap (λ told. slice_index_or told mate []) sends ∙ get_or-set_same now.told mate _ [] told_now in
        record {
          others = record {
            changed = differs_there _ others.changed cleared;
            told = differs_there _ others.told sends;
            turned = differs_still others.turned same_turned;
            fulls = differs_still others.fulls same_fulls;
          };
          telling =
              telling_same from_is sent_is
              (λ j. record {
                keys = keys_are j;
                batches = batches_are j;
                back = slice_index_or (same_turned j) mate 0;
                fulls = slice_index_or (same_fulls j) mate 0;
              })
              (batch_went mate_telling.telling next few small stands_on);
        }

    -- a batch to the mate came back
    pub mate_refused : {stands_then : List Bool → Type 0} → from_then ≡ to → sent_then ≡ sent → mate < length before.turned
        → after.changed ≡ now.changed → after.told ≡ now.told → after.turned ≡ slice_set now.turned mate taken → length after.fulls ≡ length now.fulls
        → slice_index_or now.fulls mate 0 ≤ slice_index_or after.fulls mate 0
        → Rose (slice_index_or now.fulls mate 0) (slice_index_or after.fulls mate 0)
        → ((other : ℕ) → other ≢ mate → slice_index_or after.fulls other 0 ≡ slice_index_or now.fulls other 0)
        → ((tries : List Bool) → stands tries → stands_then (tries ++ false ∷ []))
        → IsTellingMate cells taken most mate from_then sent_then stands_then before after
    mate_refused from_is sent_is turned_low same_changed same_told turns same_length not_fell rose others_stay stands_on =
        let others = mate_telling.others in
        let turned_now : mate < length now.turned = omega (arith, turned_low, others.turned.same_length) in
        let back_is = ap (λ turned. slice_index_or turned mate 0) turns ∙ get_or-set_same now.turned mate taken 0 turned_now in
        record {
          others = record {
            changed = differs_still others.changed same_changed;
            told = differs_still others.told same_told;
            turned = differs_there taken others.turned turns;
            fulls = record {
              same_length = same_length ∙ others.fulls.same_length;
              others = λ other apart. others_stay other apart ∙ others.fulls.others other apart;
            };
          };
          telling =
              telling_same from_is sent_is
              (λ j. record {
                keys = slice_index_or (same_changed j) mate [];
                batches = slice_index_or (same_told j) mate [];
                back = back_is j;
                fulls = slice_index_or after.fulls mate 0;
              })
              (batch_came_back mate_telling.telling next (slice_index_or after.fulls mate 0) not_fell rose stands_on);
        }

module _ (U : Type 0) {M : Type 0} (refused : Refused M) (back message : M) (place : ℕ)
    (sent sent_now : List (List M)) (fulls fulls_now : List ℕ) where
  -- where a send found no place nothing was sent, and the count of the sender rose
  pub found_full : refused ≡ Full back → Posted {U = U} (Err refused) message place sent sent_now
      → FullsAfter {U = U} (Err refused) place fulls fulls_now
      → (sent_now ≡ sent) × (slice_index_or fulls place 0 ≤ slice_index_or fulls_now place 0)
      × Rose (slice_index_or fulls place 0) (slice_index_or fulls_now place 0)
      × ((other : ℕ) → other ≢ place → slice_index_or fulls_now other 0 ≡ slice_index_or fulls other 0)
  found_full is posted fulls_after =
      let sends = subst (λ refused. Posted {U = U} (Err refused) message place sent sent_now) is posted in
      let counts = subst (λ refused. FullsAfter {U = U} (Err refused) place fulls fulls_now) is fulls_after in
      (sends.1, counts.0, omega (arith, counts.1), counts.2)

  -- where memory was wanting for it nothing was sent, and no count rose
  pub found_no_memory : refused ≡ NoMemory back → Posted {U = U} (Err refused) message place sent sent_now
      → FullsAfter {U = U} (Err refused) place fulls fulls_now → (sent_now ≡ sent) × (fulls_now ≡ fulls)
  found_no_memory is posted fulls_after = (
    (subst (λ refused. Posted {U = U} (Err refused) message place sent sent_now) is posted).1,
    subst (λ refused. FullsAfter {U = U} (Err refused) place fulls fulls_now) is fulls_after,
  )

-- a send found no place, so what it tells then holds
pub where_full : (U : Type 0) {M holds : Type 0} (refused : Refused M) (message : M) → refused ≡ Full message → OnFull {U = U} (Err refused) holds → holds
where_full U {holds = holds} refused message is told = subst (λ refused. OnFull {U = U} (Err refused) holds) is told

-- a place elsewhere than at the end keeps its item once there is one more
elsewhere : {A : Type 0} (items : List A) (item default : A) (place : ℕ) → place ≢ length items
    → slice_index_or (items ++ item ∷ []) place default ≡ slice_index_or items place default
elsewhere [] item default zero apart = absurd (apart refl)
elsewhere [] item default (suc place) apart = refl
elsewhere (first ∷ items) item default zero apart = refl
elsewhere (first ∷ items) item default (suc place) apart = elsewhere items item default place (λ same. apart (ap suc same))

-- The mates were told by these tries, and are as they were where there are none.
pub record AreToldBy (tries : List (List Bool)) (cells : List (Option KeyCells)) (taken : ℕ) (room : ℕ → List Bool → Type 0) (before now : Mates) : Type 0 where
  pub same_changed : length now.changed ≡ length before.changed
  pub same_told : length now.told ≡ length before.told
  pub same_turned : length now.turned ≡ length before.turned
  pub each :
      (place : ℕ) → place < length before.told
      → IsToldBy cells taken (slice_index_or tries place []) (mate_in before place) (mate_in now place)
  pub full :
      (place : ℕ) → place < length before.told → IsTrue (list_any not (slice_index_or tries place []))
      → Rose (slice_index_or before.fulls place 0) (slice_index_or now.fulls place 0)
  pub never_fall : (place : ℕ) → place < length before.told → slice_index_or before.fulls place 0 ≤ slice_index_or now.fulls place 0
  pub have_room : (place : ℕ) → place < length before.told → room place (slice_index_or tries place [])

-- The mates before a place were told, and the others are left to be told.
pub record AreTold (cells : List (Option KeyCells)) (taken mate sent : ℕ) (room : ℕ → List Bool → Type 0) (before now : Mates) : Type 0 where
  pub tries : List (List Bool)
  pub by : AreToldBy tries cells taken room before now
  pub count : length tries ≡ mate
  pub all : (place : ℕ) → place < mate → length (slice_index_or before.changed place []) ≤ 16 * length (slice_index_or tries place [])
  pub sent_is : sent ≡ batches tries
  pub few : sent ≤ 65535 * mate

-- what mates were told before the first one
pub none_told : (cells : List (Option KeyCells)) (taken : ℕ) (room : ℕ → List Bool → Type 0) (before : Mates) → ((place : ℕ) → room place [])
    → AreTold cells taken 0 0 room before before
none_told cells taken room before untried = record {
  tries = [];
  by = record {
    same_changed = refl;
    same_told = refl;
    same_turned = refl;
    each = λ place low. record {
      no_empty = omega arith;
      told = sym (append-nil (slice_index_or before.told place []));
      changed = refl;
      turned = refl;
    };
    full = λ place low some. absurd (false≢true some);
    never_fall = λ place low. omega arith;
    have_room = λ place low. untried place;
  };
  count = refl;
  all = λ place low. absurd (omega (arith, low));
  sent_is = refl;
  few = omega arith;
}

module _ {cells : List (Option KeyCells)} {taken mate sent : ℕ} {room : ℕ → List Bool → Type 0} {before now : Mates}
    (are_told : AreTold cells taken mate sent room before now) where
  -- all mates were told, after the last one
  pub all_told : {E : Type 0} → length before.told ≡ mate → AreAllTold {E = E} (Ok sent) cells taken before now room
  all_told last = record {
    tries = are_told.tries;
    mates = omega (arith, are_told.count, last);
    same_changed = are_told.by.same_changed;
    same_told = are_told.by.same_told;
    same_turned = are_told.by.same_turned;
    each = are_told.by.each;
    all = λ place low. are_told.all place (omega (arith, last, low));
    sent = are_told.sent_is;
    full = are_told.by.full;
    never_fall = are_told.by.never_fall;
    have_room = are_told.by.have_room;
  }

  module _ {E : Type 0} {result : Result ℕ E} {after : Mates} {room_there : List Bool → Type 0} (low : mate < length before.told)
      (others : DifferOnly mate now after) (one : IsTold result cells taken (mate_in now mate) (mate_in after mate) room_there)
      (same_room : (tries : List Bool) → room_there tries → room mate tries) where
    abbrev tries : List (List Bool)
    tries = are_told.tries ++ one.tries ∷ []

    tried_there : slice_index_or tries mate [] ≡ one.tries
    tried_there = get_or_push are_told.tries one.tries [] mate are_told.count

    tried_elsewhere : (place : ℕ) → place ≢ mate → slice_index_or tries place [] ≡ slice_index_or are_told.tries place []
    tried_elsewhere place apart = elsewhere are_told.tries one.tries [] place (λ same. apart (same ∙ are_told.count))

    -- the mate was not told before
    untold : IsToldBy cells taken [] (mate_in before mate) (mate_in now mate)
    untold =
        subst (λ tries. IsToldBy cells taken tries (mate_in before mate) (mate_in now mate))
        (get_or_past are_told.tries mate [] (omega (arith, are_told.count))) (are_told.by.each mate low)

    told_there : IsToldBy cells taken one.tries (mate_in before mate) (mate_in after mate)
    told_there =
        let same_batches = untold.told ∙ append-nil (slice_index_or before.told mate []) in
        subst (λ was. IsToldBy cells taken one.tries was (mate_in after mate))
        (λ j. record { keys = untold.changed j; batches = same_batches j; back = untold.turned j; fulls = slice_index_or before.fulls mate 0 })
        one.mate

    -- a mate elsewhere stays as it was
    same_elsewhere : (place : ℕ) → place ≢ mate → mate_in now place ≡ mate_in after place
    same_elsewhere place apart = λ j. record {
      keys = sym (others.changed.others place apart) j;
      batches = sym (others.told.others place apart) j;
      back = sym (others.turned.others place apart) j;
      fulls = sym (others.fulls.others place apart) j;
    }

    told_by_more : AreToldBy tries cells taken room before after
    told_by_more = record {
      same_changed = others.changed.same_length ∙ are_told.by.same_changed;
      same_told = others.told.same_length ∙ are_told.by.same_told;
      same_turned = others.turned.same_length ∙ are_told.by.same_turned;
      each = λ place is_place. elim (eqb_tells place mate) [
        | inl same ↦
            subst (λ at. IsToldBy cells taken (slice_index_or tries at []) (mate_in before at) (mate_in after at)) (sym same.1)
            (subst (λ tries. IsToldBy cells taken tries (mate_in before mate) (mate_in after mate)) (sym tried_there) told_there)
        | inr apart ↦
            subst (λ (T : Type 0). T)
            (λ j. IsToldBy cells taken (sym (tried_elsewhere place apart.1) j) (mate_in before place) (same_elsewhere place apart.1 j))
            (are_told.by.each place is_place)
      ];
      full = λ place is_place. elim (eqb_tells place mate) [
        | inl same ↦
            let any_of : List Bool → Type 0 = λ of_mate. IsTrue (list_any not of_mate) in
            let rose_at : ℕ → Type 0 = λ at. Rose (slice_index_or before.fulls at 0) (slice_index_or after.fulls at 0) in
            subst (λ at. any_of (slice_index_or tries at []) → rose_at at) (sym same.1)
            (λ some. rose_on _ _ _ (are_told.by.never_fall mate low) (one.full (subst any_of tried_there some)))
        | inr apart ↦ λ some.
            subst (λ count. Rose (slice_index_or before.fulls place 0) count) (sym (others.fulls.others place apart.1))
            (are_told.by.full place is_place (subst (λ of_mate. IsTrue (list_any not of_mate)) (tried_elsewhere place apart.1) some))
      ];
      never_fall = λ place is_place. elim (eqb_tells place mate) [
        | inl same ↦
            let was = are_told.by.never_fall mate low in
            let is = one.never_falls in
            subst (λ at. slice_index_or before.fulls at 0 ≤ slice_index_or after.fulls at 0) (sym same.1) (omega (arith, was, is))
        | inr apart ↦
            subst (λ count. slice_index_or before.fulls place 0 ≤ count) (sym (others.fulls.others place apart.1))
            (are_told.by.never_fall place is_place)
      ];
      have_room = λ place is_place. elim (eqb_tells place mate) [
        | inl same ↦
            subst (λ at. room at (slice_index_or tries at [])) (sym same.1) (subst (room mate) (sym tried_there) (same_room one.tries one.has_room))
        | inr apart ↦ subst (room place) (sym (tried_elsewhere place apart.1)) (are_told.by.have_room place is_place)
      ];
    }

    -- some mates were told, where memory is wanting at one
    pub told_fails : {F : Type 0} (answer : Result ℕ F) → IsErr answer → AreAllTold answer cells taken before after room
    told_fails (Ok done) fails = absurd (false≢true fails)
    told_fails (Err error) fails = record {
      tries = tries;
      mates = omega (arith, low, are_told.count, length-append are_told.tries (one.tries ∷ []));
      same_changed = told_by_more.same_changed;
      same_told = told_by_more.same_told;
      same_turned = told_by_more.same_turned;
      each = told_by_more.each;
      all = tt;
      sent = tt;
      full = told_by_more.full;
      never_fall = told_by_more.never_fall;
      have_room = told_by_more.have_room;
    }

    -- a mate more was told
    pub told_more : (more : ℕ) → result ≡ Ok more → more < 2 ^ 16 → AreTold cells taken (mate + 1) (sent + more) room before after
    told_more more is small =
        record {
          tries = tries;
          by = told_by_more;
          count = length-append are_told.tries (one.tries ∷ []) ∙ ap (λ n. n + 1) are_told.count;
          all = λ place is_place. elim (eqb_tells place mate) [
            | inl same ↦
                let keys : List ℕ = slice_index_or now.changed mate [] in
                let all : length keys ≤ 16 * length one.tries = subst (λ answer. OnOk answer (length keys ≤ 16 * length one.tries)) is one.all in
                subst (λ at. length (slice_index_or before.changed at []) ≤ 16 * length (slice_index_or tries at [])) (sym same.1)
                (omega (arith, all, ap length untold.changed, ap length tried_there))
            | inr apart ↦
                let all = are_told.all place (omega (arith, is_place, apart.1)) in
                omega (arith, all, ap length (tried_elsewhere place apart.1))
          ];
          sent_is =
              let count : List Bool → ℕ = λ of_mate. length (filter (λ went. went) of_mate) in
              let sent_to_one : more ≡ count one.tries = subst (λ answer. IfOk answer (λ sent. sent ≡ count one.tries)) is one.sent in
              omega (arith, are_told.sent_is, sent_to_one, sum_by_push count are_told.tries one.tries);
          few = omega (arith, small, are_told.few);
        }
