-- What a request and a batch make of the private map: own cells stay the join of the puts, and whole ones that of them and of the entries.
use Rattle.std.specs.Prelude.{◌≡◌, ◌≢◌, ◌&&◌, ◌==◌, ◌⊎◌, ℕ, zero, suc, ◌-◌, ◌≤◌, Bool, true, false, cond, if◌then◌else◌, leb, IsTrue, List, [], ◌∷◌, ◌++◌, All, filter, is_some, length, map, option_map, slice_index_or, Option, Some, None}
use Rattle.std.specs.List.{list_any}
use Rattle.std.proofs.Common.{refl, sym, ap, subst, ◌∙◌, inl, inr, append-nil, arith}
use Rattle.std.proofs.lemmas.Bool.{and_parts, eqb-true, false≢true, leb-true}
use Rattle.std.proofs.lemmas.Bool.Decides.{eqb_tells}
use Rattle.std.proofs.lemmas.Iterator.Adapters.{option_map_id}
use Rattle.std.proofs.lemmas.List.{map-append}
use Rattle.std.proofs.lemmas.List.Concat.{flat_map-append}
use Rattle.std.proofs.lemmas.List.Elements.{All-contains_itself, All-filter, All-head, All-map, All-push, All-tail, Contains-push, filter-append, filter_passes}
use Rattle.std.proofs.lemmas.Option.{cond_some, none-some, same_Some}
use Rattle.lattice_laws.proofs.ListLemmas.{All-front}
use Rattle.clock_lattice.specs.Clock.{count_of, covers}
use Rattle.clock_lattice.proofs.CoverageLemmas.{clock_coverage}
use Rattle.clock_lattice.proofs.ClockLemmas.{empty_is_clock}
use Rattle.composed_value.specs.Cell.{PlainCell, IsCell, joined_cells, one_put_cell}
use Rattle.composed_value.specs.Keyed.{kind_at, puts_on}
use Rattle.composed_value.specs.Kind.{kind_of, kind_of_value}
use Rattle.composed_value.specs.declared.kind.Kind.{Kind}
use Rattle.composed_value.specs.declared.kind.Kind.TheVariants.{Max}
use Rattle.composed_value.specs.declared.put.Put.{Put}
use Rattle.composed_value.proofs.ValidValueLemmas.{put_has_kind}
use Rattle.merge_world.specs.Effects.{cells_at, changed_at, empty_cells, hears, is_kind, merged, opening_map, with_heard, with_put}
use Rattle.merge_world.specs.declared.private_map.KeyCells.{KeyCells}
use Rattle.merge_world.proofs.CellsLemmas.{kind_tells}
use Rattle.merge_world.proofs.KeyCellsLemmas.{heard_on, hears_at}
use Rattle.merge_world.proofs.PlacesLemmas.{changed_from, changed_here, changed_there}
use Rattle.store_msg.specs.declared.request.Request.{Request}
use Rattle.store_msg.specs.declared.request.Request.TheVariants as requests
use Rattle.gossip_rounds.specs.Batches.{Entries}
use Rattle.worker_core.specs.Kept.{AreEntries, IsRequest}
use Rattle.worker_core.specs.Share.{AreOwn, AreWhole, IsMadeFrom, cells_on, entries_in, joined_with, of_kind, own_cell, shown_of}
use Rattle.worker_core.specs.State.{lives_at}
use Rattle.worker_core.specs.Turns.{changes, is_of, served}
use Rattle.worker_core.proofs.OwnLemmas.{AreRequests, IsCellOfKind, at_most_covers, brought, brought_are, joined_are, joined_at_least, joined_swapped, joined_two, joined_with-append, own_cell-push, own_counts, own_grows, own_is, own_is_cell}

-- what a request makes of the cells of a key
abbrev served_on : ℕ → Request → KeyCells → KeyCells
served_on key (requests.Put its_key put) cells = if its_key == key then with_put put cells else cells
served_on key (requests.Get ask its_key required) cells = cells

-- what stands at a key after a request was worked on
served_at : (key : ℕ) (request : Request) (cells : List (Option KeyCells))
    → cells_at (served request cells) key ≡ option_map (served_on key request) (cells_at cells key)
served_at key (requests.Put its_key put) cells =
    let change : Option KeyCells → Option KeyCells = option_map (with_put put) in
    let after : Bool → KeyCells → KeyCells = λ t at. if t then with_put put at else at in
    let after_if : Bool → Option KeyCells = λ t. option_map (after t) (cells_at cells key) in
    elim (eqb_tells its_key key) [
      | inl same ↦
          subst (λ k. cells_at (changed_at k change cells) key ≡ change (cells_at cells key)) (sym same.1) (changed_here change None refl key cells)
          ∙ ap after_if (sym same.0)
      | inr apart ↦
          changed_there change None its_key key cells (λ same. apart.1 (sym same))
          ∙ sym (option_map_id (cells_at cells key))
          ∙ ap after_if (sym apart.0)
    ]
served_at key (requests.Get ask its_key required) cells = sym (option_map_id (cells_at cells key))

-- the cells of a key after a request come of those before
served_from : (cells : List (Option KeyCells)) (request : Request) (key : ℕ) (now : KeyCells) → cells_at (served request cells) key ≡ Some now
    → (at : KeyCells) × (cells_at cells key ≡ Some at) × (served_on key request at ≡ now)
served_from cells request key now is = changed_from (served_on key request) (cells_at cells key) now (sym (served_at key request cells) ∙ is)

-- and so those after a batch
heard_from : (cells : List (Option KeyCells)) (batch : Entries) (key : ℕ) (now : KeyCells) → cells_at (hears batch cells) key ≡ Some now
    → (at : KeyCells) × (cells_at cells key ≡ Some at) × (heard_on key batch at ≡ now)
heard_from cells batch key now is = changed_from (heard_on key batch) (cells_at cells key) now (sym (hears_at key batch cells) ∙ is)

-- a key that is held after a request was held before
pub held_before_taken : (cells : List (Option KeyCells)) (request : Request) (key : ℕ) (now : KeyCells)
    → cells_at (served request cells) key ≡ Some now → (at : KeyCells) × (cells_at cells key ≡ Some at)
held_before_taken cells request key now is = let from = served_from cells request key now is in (from.0, from.1)

-- and so after a batch
pub held_before_heard : (cells : List (Option KeyCells)) (batch : Entries) (key : ℕ) (now : KeyCells)
    → cells_at (hears batch cells) key ≡ Some now → (at : KeyCells) × (cells_at cells key ≡ Some at)
held_before_heard cells batch key now is = let from = heard_from cells batch key now is in (from.0, from.1)

-- a change of what is there leaves whether it is there
some_changed : {X Y : Type 0} (change : X → Y) (found : Option X) → is_some (option_map change found) ≡ is_some found
some_changed change None = refl
some_changed change (Some x) = refl

-- a request leaves which keys are held
pub holds_taken : (cells : List (Option KeyCells)) (request : Request) (key : ℕ)
    → is_some (cells_at (served request cells) key) ≡ is_some (cells_at cells key)
holds_taken cells request key = ap is_some (served_at key request cells) ∙ some_changed (served_on key request) (cells_at cells key)

-- and so does a batch
pub holds_heard : (cells : List (Option KeyCells)) (batch : Entries) (key : ℕ)
    → is_some (cells_at (hears batch cells) key) ≡ is_some (cells_at cells key)
holds_heard cells batch key = ap is_some (hears_at key batch cells) ∙ some_changed (heard_on key batch) (cells_at cells key)

-- the cell of a put is merged in where the put is of the cell's kind
merged_put : (kind : Kind) (cell : PlainCell) (put : Put) → kind_of_value cell.value ≡ kind
    → merged cell (one_put_cell put) ≡ joined_with cell (map one_put_cell (of_kind kind (put ∷ [])))
merged_put kind cell put has_kind =
    let one : PlainCell = one_put_cell put in
    let merged_if : Bool → PlainCell = λ t. if t then joined_cells cell one else cell in
    ap (λ of_put. merged_if (is_kind of_put (kind_of_value cell.value))) (put_has_kind put)
    ∙ ap (λ of_cell. merged_if (is_kind (kind_of put.payload) of_cell)) has_kind
    ∙ elim (is_kind (kind_of put.payload) kind) as (λ t. merged_if t ≡ joined_with cell (map one_put_cell (cond t (put ∷ []) []))) [
      | true ↦ refl
      | false ↦ refl
    ]

-- the cells of a key with a put merged in
abbrev put_merged : Put → KeyCells → KeyCells
put_merged put at = record { own = merged at.own (one_put_cell put); whole = merged at.whole (one_put_cell put) }

-- the put of an entry
abbrev put_of : ℕ × Put → Put
put_of entry = entry.1

module _ (part : KeyCells → PlainCell) (takes : (put : Put) (at : KeyCells) → part (put_merged put at) ≡ merged (part at) (one_put_cell put)) where
  -- a cell of a key, its own or its whole one, is joined with what a request brings
  served_part : (kind : Kind) (key : ℕ) (request : Request) (at : KeyCells) → kind_of_value (part at).value ≡ kind
      → part (served_on key request at) ≡ joined_with (part at) (brought kind key request)
  served_part kind key (requests.Put its_key put) at has_kind =
      let after : KeyCells = put_merged put at in
      let entries : Bool → List (ℕ × Put) = λ t. if t then (its_key, put) ∷ [] else [] in
      let joined : List Put → PlainCell = λ puts. joined_with (part at) (map one_put_cell (of_kind kind puts)) in
      elim (leb 1 put.number) as (λ t. part (if its_key == key then (if t then after else at) else at) ≡ joined (puts_on key (entries t))) [
        | true ↦ elim (its_key == key) as (λ s. part (if s then after else at) ≡ joined (map put_of (entries s))) [
          | true ↦ takes put at ∙ merged_put kind (part at) put has_kind
          | false ↦ refl
        ]
        | false ↦ elim (its_key == key) as (λ s. part (if s then at else at) ≡ part at) [ true ↦ refl | false ↦ refl ]
      ]
  served_part kind key (requests.Get ask its_key required) at has_kind = refl

-- the own cell is joined with what a request brings
served_own : (kind : Kind) (key : ℕ) (request : Request) (at : KeyCells) → kind_of_value at.own.value ≡ kind
    → (served_on key request at).own ≡ joined_with at.own (brought kind key request)
served_own = served_part (λ cells. cells.own) (λ put at. refl)

-- and so is the whole cell
served_whole : (kind : Kind) (key : ℕ) (request : Request) (at : KeyCells) → kind_of_value at.whole.value ≡ kind
    → (served_on key request at).whole ≡ joined_with at.whole (brought kind key request)
served_whole = served_part (λ cells. cells.whole) (λ put at. refl)

-- a request brings something to a key of a kind
abbrev brings : Kind → ℕ → Request → Bool
brings kind key (requests.Put its_key put) = its_key == key && (leb 1 put.number && is_kind (kind_of put.payload) kind)
brings kind key (requests.Get ask its_key required) = false

-- one that does not brings no cells
none_brought : (kind : Kind) (key : ℕ) (request : Request) → brings kind key request ≡ false → brought kind key request ≡ []
none_brought kind key (requests.Put its_key put) nothing =
    let of_kind_too : Bool = is_kind (kind_of put.payload) kind in
    let entries : Bool → List (ℕ × Put) = λ t. if t then (its_key, put) ∷ [] else [] in
    let cells : List Put → List PlainCell = λ puts. map one_put_cell (of_kind kind puts) in
    elim (leb 1 put.number) as (λ t. (its_key == key && (t && of_kind_too)) ≡ false → cells (puts_on key (entries t)) ≡ []) [
      | true ↦ elim (its_key == key) as (λ s. (s && of_kind_too) ≡ false → cells (map put_of (entries s)) ≡ []) [
        | true ↦ λ other. ap (λ (t : Bool). map one_put_cell (cond t (put ∷ []) [])) other
        | false ↦ λ other. refl
      ]
      | false ↦ λ none. refl
    ] nothing
none_brought kind key (requests.Get ask its_key required) nothing = refl

-- an entry is one of the key, with a cell of its kind; and its cell
abbrev is_on : Kind → ℕ → ℕ × PlainCell → Bool
is_on kind key entry = entry.0 == key && is_kind (kind_of_value entry.1.value) kind

abbrev cell_in : ℕ × PlainCell → PlainCell
cell_in entry = entry.1

-- hearing entries leaves the own cell
heard_own : (key : ℕ) (entries : Entries) (at : KeyCells) → (heard_on key entries at).own ≡ at.own
heard_own key [] at = refl
heard_own key (entry ∷ entries) at =
    elim (entry.0 == key) as (λ s. (heard_on key entries (if s then with_heard entry.1 at else at)).own ≡ at.own) [
      | true ↦ heard_own key entries (with_heard entry.1 at)
      | false ↦ heard_own key entries at
    ]

-- the whole cell is joined with the entries of the key, of its kind
heard_whole : (kind : Kind) (key : ℕ) (entries : Entries) (at : KeyCells) → AreEntries entries → IsCellOfKind kind at.whole
    → (heard_on key entries at).whole ≡ joined_with at.whole (cells_on kind key entries)
heard_whole kind key [] at are of_kind = refl
heard_whole kind key (entry ∷ entries) at are of_kind =
    let has_cell : ℕ × PlainCell → Type 0 = λ e. IsCell e.1 in
    let are_later = All-tail has_cell entry entries are in
    let of_entry : Kind = kind_of_value entry.1.value in
    let rest : Entries = filter (is_on kind key) entries in
    let with_cells : Bool → PlainCell = λ t. joined_with at.whole (map cell_in (cond t (entry ∷ rest) rest)) in
    let after : Bool → KeyCells = λ t. record { own = at.own; whole = if t then joined_cells at.whole entry.1 else at.whole } in
    elim (entry.0 == key) as (λ s. (heard_on key entries (if s then with_heard entry.1 at else at)).whole ≡ with_cells (s && is_kind of_entry kind)) [
      | true ↦
          ap (λ of_whole. (heard_on key entries (after (is_kind of_entry of_whole))).whole) of_kind.has_kind
          ∙ elim (is_kind of_entry kind) as (λ t. is_kind of_entry kind ≡ t → (heard_on key entries (after t)).whole ≡ with_cells t) [
            | true ↦ λ same.
                let is_entry : IsCell entry.1 = All-head has_cell entry entries are in
                let is_heard : IsCellOfKind kind entry.1 = record { is_cell = is_entry; has_kind = kind_tells of_entry kind same } in
                heard_whole kind key entries (after true) are_later (joined_two kind at.whole entry.1 of_kind is_heard)
            | false ↦ λ other. heard_whole kind key entries at are_later of_kind
          ] refl
      | false ↦ heard_whole kind key entries at are_later of_kind
    ]

-- the cells of a key among entries are cells of its kind
cells_on_are : (kind : Kind) (key : ℕ) (entries : Entries) → AreEntries entries → All (IsCellOfKind kind) (cells_on kind key entries)
cells_on_are kind key entries are =
    All-map (IsCellOfKind kind) cell_in (filter (is_on kind key) entries) (λ k d low.
    let entry : ℕ × PlainCell = slice_index_or (filter (is_on kind key) entries) k d in
    let passes = and_parts (entry.0 == key) (is_kind (kind_of_value entry.1.value) kind) (filter_passes (is_on kind key) entries k d low) in
    record {
      is_cell = All-filter (is_on kind key) (λ e. IsCell e.1) entries are k d low;
      has_kind = kind_tells (kind_of_value entry.1.value) kind passes.1;
    })

-- the cells of a key among the entries of batches and of one more
cells_on-push : (kind : Kind) (key : ℕ) (joined : List (ℕ × Entries)) (sender : ℕ) (batch : Entries)
    → cells_on kind key (entries_in (joined ++ (sender, batch) ∷ [])) ≡ cells_on kind key (entries_in joined) ++ cells_on kind key batch
cells_on-push kind key joined sender batch =
    let before : Entries = entries_in joined in
    ap (cells_on kind key) (flat_map-append (λ (b : ℕ × Entries). b.1) joined ((sender, batch) ∷ []))
    ∙ ap (λ (entries : Entries). cells_on kind key (before ++ entries)) (append-nil batch)
    ∙ ap (map cell_in) (filter-append (is_on kind key) before batch)
    ∙ map-append cell_in (filter (is_on kind key) before) (filter (is_on kind key) batch)

-- the whole cell is one of the kind, and is joined with further cells
record IsJoinedWith (kind : Kind) (more : List PlainCell) (at now : KeyCells) : Type 0 where
  of_kind : IsCellOfKind kind at.whole
  joined : now.whole ≡ joined_with at.whole more

-- what is shown of a key covers then what was shown before
shown_grows : (kind : Kind) (more : List PlainCell) (found now : Option KeyCells) (after : KeyCells → KeyCells) → All (IsCellOfKind kind) more
    → now ≡ option_map after found → ((at : KeyCells) → found ≡ Some at → IsJoinedWith kind more at (after at))
    → IsTrue (covers (shown_of now).clock (shown_of found).clock)
shown_grows kind more None now after are_more is each = subst (λ (at : Option KeyCells). IsTrue (covers (shown_of at).clock [])) (sym is) refl
shown_grows kind more (Some at) now after are_more is each =
    let here = each at refl in
    let all = joined_are kind at.whole more here.of_kind are_more in
    subst (λ (at_now : Option KeyCells). IsTrue (covers (shown_of at_now).clock at.whole.clock)) (sym is)
    (subst (λ (cell : PlainCell). IsTrue (covers cell.clock at.whole.clock)) (sym here.joined)
    (at_most_covers at.whole (joined_with at.whole more) here.of_kind.is_cell all.is_cell (joined_at_least kind at.whole more here.of_kind are_more)))

module _ (kinds : List Kind) (cells : List (Option KeyCells)) (worked : List (ℕ × Request)) (own : AreOwn kinds cells worked) where
  -- an own cell is a cell of the key's kind
  own_at : AreRequests worked → (key : ℕ) (at : KeyCells) → cells_at cells key ≡ Some at → IsCellOfKind (kind_at kinds key) at.own
  own_at are key at is = subst (IsCellOfKind (kind_at kinds key)) (sym (own key at is)) (own_is (kind_at kinds key) key worked are)

  -- own cells with the puts of one more request
  pub own_taken : (session : ℕ) (request : Request) → AreRequests worked
      → AreOwn kinds (served request cells) (worked ++ (session, request) ∷ [])
  own_taken session request are key now is =
      let kind : Kind = kind_at kinds key in
      let from = served_from cells request key now is in
      sym (ap (λ (c : KeyCells). c.own) from.2)
      ∙ served_own kind key request from.0 (own_at are key from.0 from.1).has_kind
      ∙ ap (λ cell. joined_with cell (brought kind key request)) (own key from.0 from.1)
      ∙ sym (own_cell-push kind key worked (session, request))

  -- a batch leaves the own cells
  pub own_heard : (batch : Entries) → AreOwn kinds (hears batch cells) worked
  own_heard batch key now is =
      let from = heard_from cells batch key now is in
      sym (ap (λ (c : KeyCells). c.own) from.2) ∙ heard_own key batch from.0 ∙ own key from.0 from.1

  module _ (joined : List (ℕ × Entries)) (whole : AreWhole kinds cells joined) where
    -- a whole cell is made from the puts that were worked on and from entries that were joined
    pub whole_made : (key : ℕ) (at : KeyCells) → cells_at cells key ≡ Some at
        → IsMadeFrom (kind_at kinds key) key worked (entries_in joined) at.whole
    whole_made key at is =
        let heard : List PlainCell = cells_on (kind_at kinds key) key (entries_in joined) in
        record {
          heard = heard;
          are_heard = All-contains_itself heard;
          is = whole key at is ∙ ap (λ cell. joined_with cell heard) (own key at is);
        }

    module _ (are_requests : AreRequests worked) (are_entries : AreEntries (entries_in joined)) where
      -- a whole cell is a cell of the key's kind
      pub whole_is : (key : ℕ) (at : KeyCells) → cells_at cells key ≡ Some at → IsCellOfKind (kind_at kinds key) at.whole
      whole_is key at is =
          let kind : Kind = kind_at kinds key in
          subst (IsCellOfKind kind) (sym (whole key at is))
          (joined_are kind at.own (cells_on kind key (entries_in joined)) (own_at are_requests key at is)
          (cells_on_are kind key (entries_in joined) are_entries))

      -- whole cells with the puts of one more request
      pub whole_taken : (request : Request) → IsRequest request → AreWhole kinds (served request cells) joined
      whole_taken request is_request key now is =
          let kind : Kind = kind_at kinds key in
          let from = served_from cells request key now is in
          let at : KeyCells = from.0 in
          let of_own = own_at are_requests key at from.1 in
          let heard : List PlainCell = cells_on kind key (entries_in joined) in
          let are_heard = cells_on_are kind key (entries_in joined) are_entries in
          sym (ap (λ (c : KeyCells). c.whole) from.2)
          ∙ served_whole kind key request at (whole_is key at from.1).has_kind
          ∙ ap (λ cell. joined_with cell (brought kind key request)) (whole key at from.1)
          ∙ joined_swapped kind at.own heard (brought kind key request) of_own are_heard (brought_are kind key request is_request)
          ∙ ap (λ cell. joined_with cell heard) (sym (served_own kind key request at of_own.has_kind) ∙ ap (λ (c : KeyCells). c.own) from.2)

      -- whole cells with the entries of one more batch
      pub whole_heard : (sender : ℕ) (batch : Entries) → AreEntries batch → AreWhole kinds (hears batch cells) (joined ++ (sender, batch) ∷ [])
      whole_heard sender batch are_new key now is =
          let kind : Kind = kind_at kinds key in
          let from = heard_from cells batch key now is in
          let at : KeyCells = from.0 in
          let heard : List PlainCell = cells_on kind key (entries_in joined) in
          let all : List PlainCell = cells_on kind key (entries_in (joined ++ (sender, batch) ∷ [])) in
          sym (ap (λ (c : KeyCells). c.whole) from.2)
          ∙ heard_whole kind key batch at are_new (whole_is key at from.1)
          ∙ ap (λ cell. joined_with cell (cells_on kind key batch)) (whole key at from.1)
          ∙ sym (joined_with-append at.own heard (cells_on kind key batch))
          ∙ ap (joined_with at.own) (sym (cells_on-push kind key joined sender batch))
          ∙ ap (λ cell. joined_with cell all) (sym (heard_own key batch at) ∙ ap (λ (c : KeyCells). c.own) from.2)

      -- what is shown of a key after a request covers what was shown before
      pub shown_taken : (request : Request) → IsRequest request → (key : ℕ)
          → IsTrue (covers (shown_of (cells_at (served request cells) key)).clock (shown_of (cells_at cells key)).clock)
      shown_taken request is_request key =
          let kind : Kind = kind_at kinds key in
          shown_grows kind (brought kind key request) (cells_at cells key) (cells_at (served request cells) key) (served_on key request)
          (brought_are kind key request is_request) (served_at key request cells) (λ at is.
          let of_whole = whole_is key at is in
          record { of_kind = of_whole; joined = served_whole kind key request at of_whole.has_kind })

      -- and so after a batch
      pub shown_heard : (batch : Entries) → AreEntries batch → (key : ℕ)
          → IsTrue (covers (shown_of (cells_at (hears batch cells) key)).clock (shown_of (cells_at cells key)).clock)
      shown_heard batch are_new key =
          let kind : Kind = kind_at kinds key in
          shown_grows kind (cells_on kind key batch) (cells_at cells key) (cells_at (hears batch cells) key) (heard_on key batch)
          (cells_on_are kind key batch are_new) (hears_at key batch cells) (λ at is.
          let of_whole = whole_is key at is in
          record { of_kind = of_whole; joined = heard_whole kind key batch at are_new of_whole })

  -- an own cell counts the put of a request that changes it
  changed_counts : (request : Request) (key : ℕ) (at : KeyCells) → AreRequests worked → IsRequest request → cells_at cells key ≡ Some at
      → changes cells request key ≡ true
      → (own_cell (kind_at kinds key) key (worked ++ (0, request) ∷ [])).clock ≢ []
  changed_counts (requests.Put its_key put) key at are is_request is changed none =
      let kind : Kind = kind_at kinds key in
      let later : List (ℕ × Request) = worked ++ (0, requests.Put its_key put) ∷ [] in
      let is_later = All-push (λ (message : ℕ × Request). IsRequest message.1) worked (0, requests.Put its_key put) are is_request in
      let on_key = and_parts (its_key == key) (leb 1 put.number && is_of put (cells_at cells its_key)) changed in
      let of_it = and_parts (leb 1 put.number) (is_of put (cells_at cells its_key)) on_key.1 in
      let same : its_key ≡ key = eqb-true its_key key on_key.0 in
      let some : 1 ≤ put.number = leb-true 1 put.number of_it.0 in
      let there : is_of put (Some at) ≡ true = sym (ap (is_of put) (ap (cells_at cells) same ∙ is)) ∙ of_it.1 in
      let as_own : kind_of put.payload ≡ kind_of_value at.own.value = kind_tells (kind_of put.payload) (kind_of_value at.own.value) there in
      let among = Contains-push worked (0, requests.Put its_key put) in
      let counts = own_counts kind its_key later 0 put is_later among some (as_own ∙ (own_at are key at is).has_kind) in
      let counted : ℕ → ℕ = λ k. count_of put.session (own_cell kind k later).clock in
      let here : put.number ≤ counted key = subst (λ k. put.number ≤ counted k) same counts in
      omega (arith, some, here, ap (count_of put.session) none)
  changed_counts (requests.Get ask its_key required) key at are is_request is changed none = absurd (false≢true changed)

  -- an own cell that counts something still does so
  some_stays : (message : ℕ × Request) (key : ℕ) → AreRequests (worked ++ message ∷ []) → (own_cell (kind_at kinds key) key worked).clock ≢ []
      → (own_cell (kind_at kinds key) key (worked ++ message ∷ [])).clock ≢ []
  some_stays message key are some none =
      let kind : Kind = kind_at kinds key in
      let before : PlainCell = own_cell kind key worked in
      let after : PlainCell = own_cell kind key (worked ++ message ∷ []) in
      let is_before = own_is_cell kind key worked (All-front (λ (m : ℕ × Request). IsRequest m.1) worked (message ∷ []) are) in
      let is_after = own_is_cell kind key (worked ++ message ∷ []) are in
      let covered = at_most_covers before after is_before is_after (own_grows kind key worked (message ∷ []) are) in
      let by_none : IsTrue (covers [] before.clock) = subst (λ clock. IsTrue (covers clock before.clock)) none covered in
      some (clock_coverage.each_other before.clock [] is_before.clock_is empty_is_clock refl by_none)

  -- where a request changes an own cell, or the cell counted something before, it counts something then
  pub own_some : (request : Request) → AreRequests worked → IsRequest request → (key : ℕ) (at now : KeyCells) → cells_at cells key ≡ Some at
      → cells_at (served request cells) key ≡ Some now
      → (changes cells request key ≡ true) ⊎ (at.own.clock ≢ []) → now.own.clock ≢ []
  own_some request are is_request key at now is is_now either =
      let kind : Kind = kind_at kinds key in
      let later = own_taken 0 request are key now is_now in
      let are_later = All-push (λ (message : ℕ × Request). IsRequest message.1) worked (0, request) are is_request in
      subst (λ (cell : PlainCell). cell.clock ≢ []) (sym later) (elim either [
        | inl changed ↦ changed_counts request key at are is_request is changed
        | inr some ↦ some_stays (0, request) key are_later (subst (λ (cell : PlainCell). cell.clock ≢ []) (own key at is) some)
      ])

-- what the test of a change says of the cells of the key
changes_is : (cells : List (Option KeyCells)) (request : Request) (key : ℕ) (at : KeyCells) → cells_at cells key ≡ Some at
    → changes cells request key ≡ brings (kind_of_value at.own.value) key request
changes_is cells (requests.Put its_key put) key at is =
    let changes_if : Bool → Option KeyCells → Bool = λ s found. s && (leb 1 put.number && is_of put found) in
    elim (eqb_tells its_key key) [
      | inl same ↦ ap (changes_if (its_key == key)) (ap (cells_at cells) same.1 ∙ is)
      | inr apart ↦ ap (λ s. changes_if s (cells_at cells its_key)) apart.0 ∙ sym (ap (λ s. changes_if s (Some at)) apart.0)
    ]
changes_is cells (requests.Get ask its_key required) key at is = refl

-- a request that does not change an own cell leaves it
pub own_same : (cells : List (Option KeyCells)) (request : Request) (key : ℕ) (at now : KeyCells) → cells_at cells key ≡ Some at
    → cells_at (served request cells) key ≡ Some now → changes cells request key ≡ false → now.own ≡ at.own
own_same cells request key at now is is_now unchanged =
    let kind : Kind = kind_of_value at.own.value in
    let found = served_at key request cells ∙ ap (option_map (served_on key request)) is in
    let now_is : served_on key request at ≡ now = same_Some (served_on key request at) now (sym found ∙ is_now) in
    sym (ap (λ (c : KeyCells). c.own) now_is)
    ∙ served_own kind key request at refl
    ∙ ap (joined_with at.own) (none_brought kind key request (sym (changes_is cells request key at is) ∙ unchanged))

-- a batch leaves each own cell
pub own_heard_same : (cells : List (Option KeyCells)) (batch : Entries) (key : ℕ) (at now : KeyCells) → cells_at cells key ≡ Some at
    → cells_at (hears batch cells) key ≡ Some now → now.own ≡ at.own
own_heard_same cells batch key at now is is_now =
    let found = hears_at key batch cells ∙ ap (option_map (heard_on key batch)) is in
    let now_is : heard_on key batch at ≡ now = same_Some (heard_on key batch at) now (sym found ∙ is_now) in
    sym (ap (λ (c : KeyCells). c.own) now_is) ∙ heard_own key batch at

-- the cells of a key before any request are empty
opening_at : (placement : List (List ℕ)) (kinds : List Kind) (me key : ℕ) (at : KeyCells)
    → cells_at (opening_map placement kinds me) key ≡ Some at → empty_cells (kind_at kinds key) ≡ at
opening_at placement kinds me zero at is = absurd (none-some at is)
opening_at placement kinds me (suc i) at is =
    let place : suc i - 1 ≡ i = omega arith in
    ap (λ k. empty_cells (slice_index_or kinds k Max)) place ∙ in_zip placement kinds i is
  where
    in_zip : (placement : List (List ℕ)) (kinds : List Kind) (i : ℕ) → slice_index_or (opening_map placement kinds me) i None ≡ Some at
        → empty_cells (slice_index_or kinds i Max) ≡ at
    in_zip [] kinds i is = absurd (none-some at is)
    in_zip (replicas ∷ placement) [] i is = absurd (none-some at is)
    in_zip (replicas ∷ placement) (kind ∷ kinds) zero is = (cond_some (list_any (λ replica. replica == me) replicas) (empty_cells kind) at is).1
    in_zip (replicas ∷ placement) (kind ∷ kinds) (suc i) is = in_zip placement kinds i is

-- so the own ones are those of no requests
pub opening_own : (placement : List (List ℕ)) (kinds : List Kind) (me : ℕ) → AreOwn kinds (opening_map placement kinds me) []
opening_own placement kinds me key at is = ap (λ (c : KeyCells). c.own) (sym (opening_at placement kinds me key at is))

-- and the whole ones those of no entries
pub opening_whole : (placement : List (List ℕ)) (kinds : List Kind) (me : ℕ) → AreWhole kinds (opening_map placement kinds me) []
opening_whole placement kinds me key at is =
    let same = opening_at placement kinds me key at is in
    ap (λ (c : KeyCells). c.whole) (sym same) ∙ ap (λ (c : KeyCells). c.own) same

-- the keys that are held before any request are those that live at the worker
pub opening_holds : (placement : List (List ℕ)) (kinds : List Kind) (me : ℕ) → length kinds ≡ length placement → (key : ℕ)
    → is_some (cells_at (opening_map placement kinds me) key) ≡ lives_at placement me key
opening_holds placement kinds me long zero = refl
opening_holds placement kinds me long (suc i) = in_zip placement kinds i long
  where
    in_zip : (placement : List (List ℕ)) (kinds : List Kind) (i : ℕ) → length kinds ≡ length placement
        → is_some (slice_index_or (opening_map placement kinds me) i None) ≡ list_any (λ replica. replica == me) (slice_index_or placement i [])
    in_zip [] kinds i long = refl
    in_zip (replicas ∷ placement) [] i long = absurd (omega (arith, long))
    in_zip (replicas ∷ placement) (kind ∷ kinds) zero long =
        elim (list_any (λ replica. replica == me) replicas) as (λ t.
        let held : Option KeyCells = if t then Some (empty_cells kind) else None in
        is_some held ≡ t) [ true ↦ refl | false ↦ refl ]
    in_zip (replicas ∷ placement) (kind ∷ kinds) (suc i) long = in_zip placement kinds i (omega (arith, long))
