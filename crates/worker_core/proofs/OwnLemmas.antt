-- The cell of the puts among requests, on a key and of its kind; and what is joined of cells of one kind.
use Rattle.std.specs.Prelude.{◌≡◌, ◌==◌, ℕ, ◌≤◌, Bool, true, if◌then◌else◌, leb, IsTrue, List, [], ◌∷◌, ◌++◌, All, Contains, filter, map}
use Rattle.std.proofs.Common.{refl, sym, ap, subst, ◌∙◌, inl, inr, append-nil}
use Rattle.std.proofs.lemmas.Bool.{cond_both, eq-eqb, le-leb, leb-true}
use Rattle.std.proofs.lemmas.List.{map-append}
use Rattle.std.proofs.lemmas.List.Concat.{flat_map-append}
use Rattle.std.proofs.lemmas.List.Elements.{All-append, All-contains, All-cons, All-filter, All-head, All-map, All-nil, All-tail, All-weaker, Contains-append_left, Contains-append_right, filter-append, filter_passes}
use Rattle.lattice_laws.specs.Joins.{MayJoin}
use Rattle.lattice_laws.proofs.GreatestOfListsLemmas.{in_either}
use Rattle.lattice_laws.proofs.JoinsLemmas.{above_left, above_through, joined_all_by_members}
use Rattle.lattice_laws.proofs.ListLemmas.{All-back, All-front}
use Rattle.lattice_laws.proofs.MembersLemmas.{contains_cases, contains_filter, contains_first, contains_later, contains_map, contains_none}
use Rattle.clock_lattice.specs.Clock.{count_of, covers}
use Rattle.clock_lattice.proofs.CoverageLemmas.{clock_coverage}
use Rattle.composed_value.specs.Cell.{PlainCell, IsCell, AreOfOneKind, cell_of, empty_cell, joined_cells, one_put_cell}
use Rattle.composed_value.specs.CellLaws.{cell_associative, cell_laws}
use Rattle.composed_value.specs.Keyed.{puts_on}
use Rattle.composed_value.specs.Kind.{kind_of, kind_of_value}
use Rattle.composed_value.specs.PlainValue.{IsPutOf}
use Rattle.composed_value.specs.Put.{IsPut}
use Rattle.composed_value.specs.declared.kind.Kind.{Kind}
use Rattle.composed_value.specs.declared.put.Put.{Put}
use Rattle.composed_value.proofs.CellOfLemmas.{cell_of_is_cell, one_put_is_cell}
use Rattle.composed_value.proofs.KeyedLemmas.{puts_on-append}
use Rattle.composed_value.proofs.PlainValueLemmas.{value_has_kind}
use Rattle.composed_value.proofs.ValidValueLemmas.{put_has_kind}
use Rattle.merge_world.specs.Effects.{is_kind}
use Rattle.merge_world.proofs.CellsLemmas.{kind_itself, kind_tells}
use Rattle.store_msg.specs.declared.request.Request.{Request}
use Rattle.store_msg.specs.declared.request.Request.TheVariants as requests
use Rattle.worker_core.specs.Kept.{IsRequest}
use Rattle.worker_core.specs.Share.{IsAtMost, joined_with, of_kind, own_cell, put_in, puts_in}

-- a cell that there can be, of a kind
pub record IsCellOfKind (kind : Kind) (cell : PlainCell) : Type 0 where
  pub is_cell : IsCell cell
  pub has_kind : kind_of_value cell.value ≡ kind

-- requests that there can be
abbrev pub AreRequests : List (ℕ × Request) → Type 0
AreRequests messages = All (λ message. IsRequest message.1) messages

-- the cells of the puts that a request brings to a key of a kind: one or none
abbrev pub brought : Kind → ℕ → Request → List PlainCell
brought kind key request = map one_put_cell (of_kind kind (puts_on key (put_in request)))

-- what is at most a cell is at most all that the cell is at most
pub at_most_trans : (a b c : PlainCell) → IsCell a → IsCell b → IsCell c → AreOfOneKind a b → AreOfOneKind b c → IsAtMost a b → IsAtMost b c
    → IsAtMost a c
at_most_trans = above_through cell_laws cell_associative

-- the clock of what is at least a cell covers the cell's clock
pub at_most_covers : (a b : PlainCell) → IsCell a → IsCell b → IsAtMost a b → IsTrue (covers b.clock a.clock)
at_most_covers a b is_a is_b at_most =
    (clock_coverage.changes_nothing a.clock b.clock is_a.clock_is is_b.clock_is).1 (ap (λ (cell : PlainCell). cell.clock) at_most)

-- the join of two cells of a kind is one
pub joined_two : (kind : Kind) (a b : PlainCell) → IsCellOfKind kind a → IsCellOfKind kind b → IsCellOfKind kind (joined_cells a b)
joined_two kind a b of_a of_b =
    let closed = cell_laws.closed a b of_a.is_cell of_b.is_cell (of_a.has_kind ∙ sym of_b.has_kind) in
    record { is_cell = closed.0; has_kind = sym closed.1 ∙ of_a.has_kind }

-- and so is the join of one and others
pub joined_are : (kind : Kind) (first : PlainCell) (rest : List PlainCell) → IsCellOfKind kind first → All (IsCellOfKind kind) rest
    → IsCellOfKind kind (joined_with first rest)
joined_are kind first [] of_first of_rest = of_first
joined_are kind first (next ∷ rest) of_first of_rest =
    let of_both = joined_two kind first next of_first (All-head (IsCellOfKind kind) next rest of_rest) in
    joined_are kind (joined_cells first next) rest of_both (All-tail (IsCellOfKind kind) next rest of_rest)

-- the first is at most that join
pub joined_at_least : (kind : Kind) (first : PlainCell) (rest : List PlainCell) → IsCellOfKind kind first → All (IsCellOfKind kind) rest
    → IsAtMost first (joined_with first rest)
joined_at_least kind first [] of_first of_rest = cell_laws.idempotent first of_first.is_cell
joined_at_least kind first (next ∷ rest) of_first of_rest =
    let of_next = All-head (IsCellOfKind kind) next rest of_rest in
    let of_others = All-tail (IsCellOfKind kind) next rest of_rest in
    let both = joined_cells first next in
    let of_both = joined_two kind first next of_first of_next in
    let of_all = joined_are kind both rest of_both of_others in
    at_most_trans first both (joined_with both rest) of_first.is_cell of_both.is_cell of_all.is_cell
    (of_first.has_kind ∙ sym of_both.has_kind) (of_both.has_kind ∙ sym of_all.has_kind)
    (above_left cell_laws cell_associative first next of_first.is_cell of_next.is_cell (of_first.has_kind ∙ sym of_next.has_kind))
    (joined_at_least kind both rest of_both of_others)

-- two lists of cells are joined one after the other
pub joined_with-append : (first : PlainCell) (xs ys : List PlainCell) → joined_with first (xs ++ ys) ≡ joined_with (joined_with first xs) ys
joined_with-append first [] ys = refl
joined_with-append first (x ∷ xs) ys = joined_with-append (joined_cells first x) xs ys

-- a member of a first and two lists is one where the lists are the other way round
swapped_members : (first : PlainCell) (xs ys : List PlainCell) (x : PlainCell) → Contains (first ∷ xs ++ ys) x → Contains (first ∷ ys ++ xs) x
swapped_members first xs ys x has_it =
    elim (contains_cases first x (xs ++ ys) has_it) [
      | inl here ↦ subst (Contains (first ∷ ys ++ xs)) here (contains_first first (ys ++ xs))
      | inr later ↦
          contains_later first x (ys ++ xs)
          (in_either xs ys (Contains (ys ++ xs) x) x (Contains-append_right ys xs x) (Contains-append_left ys xs x) later)
    ]

-- and it does not matter which of the two comes first
pub joined_swapped : (kind : Kind) (first : PlainCell) (xs ys : List PlainCell) → IsCellOfKind kind first → All (IsCellOfKind kind) xs
    → All (IsCellOfKind kind) ys
    → joined_with (joined_with first xs) ys ≡ joined_with (joined_with first ys) xs
joined_swapped kind first xs ys of_first of_xs of_ys =
    let values = first ∷ xs ++ ys in
    let is_of : PlainCell → Type 0 = IsCellOfKind kind in
    let all : All is_of values = All-cons is_of first (xs ++ ys) of_first (All-append is_of xs ys of_xs of_ys) in
    let may : MayJoin IsCell AreOfOneKind values = record {
      are_values = λ k d low. (all k d low).is_cell;
      all_fit = λ x y has_x has_y. (All-contains is_of values x all has_x).has_kind ∙ sym (All-contains is_of values y all has_y).has_kind;
    } in
    sym (joined_with-append first xs ys)
    ∙ joined_all_by_members cell_laws cell_associative first (xs ++ ys) first (ys ++ xs) may
    (λ x. (swapped_members first xs ys x, swapped_members first ys xs x))
    ∙ joined_with-append first ys xs

-- a put is of a kind
abbrev is_of_kind : Kind → Put → Bool
is_of_kind kind put = is_kind (kind_of put.payload) kind

-- the test passes a put of the kind
passes_kind : (kind : Kind) (put : Put) → kind_of put.payload ≡ kind → is_of_kind kind put ≡ true
passes_kind kind put is = subst (λ of_put. is_kind of_put kind ≡ true) (sym is) (kind_itself kind)

-- the puts among two lists of requests
pub puts_in-append : (xs ys : List (ℕ × Request)) → puts_in (xs ++ ys) ≡ puts_in xs ++ puts_in ys
puts_in-append xs ys = flat_map-append (λ (message : ℕ × Request). put_in message.1) xs ys

-- those on a key, of its kind
abbrev puts_of : Kind → ℕ → List (ℕ × Request) → List Put
puts_of kind key messages = of_kind kind (puts_on key (puts_in messages))

puts_of-append : (kind : Kind) (key : ℕ) (xs ys : List (ℕ × Request)) → puts_of kind key (xs ++ ys) ≡ puts_of kind key xs ++ puts_of kind key ys
puts_of-append kind key xs ys =
    ap (λ puts. of_kind kind (puts_on key puts)) (puts_in-append xs ys)
    ∙ ap (of_kind kind) (puts_on-append key (puts_in xs) (puts_in ys))
    ∙ filter-append (is_of_kind kind) (puts_on key (puts_in xs)) (puts_on key (puts_in ys))

-- the cell of requests and further ones: the puts of the further ones are joined in
own_cell-append : (kind : Kind) (key : ℕ) (front back : List (ℕ × Request))
    → own_cell kind key (front ++ back) ≡ joined_with (own_cell kind key front) (map one_put_cell (puts_of kind key back))
own_cell-append kind key front back =
    let before : List Put = puts_of kind key front in
    let after : List Put = puts_of kind key back in
    ap (cell_of kind) (puts_of-append kind key front back)
    ∙ ap (joined_with (empty_cell kind)) (map-append one_put_cell before after)
    ∙ joined_with-append (empty_cell kind) (map one_put_cell before) (map one_put_cell after)

-- the cell of requests and one more: what that one brings is joined in
pub own_cell-push : (kind : Kind) (key : ℕ) (worked : List (ℕ × Request)) (message : ℕ × Request)
    → own_cell kind key (worked ++ message ∷ []) ≡ joined_with (own_cell kind key worked) (brought kind key message.1)
own_cell-push kind key worked message =
    let more : List (ℕ × Put) → List PlainCell = λ puts. map one_put_cell (of_kind kind (puts_on key puts)) in
    own_cell-append kind key worked (message ∷ []) ∙ ap (λ puts. joined_with (own_cell kind key worked) (more puts)) (append-nil (put_in message.1))

-- an entry has a put that there can be
abbrev pub HasPut : ℕ × Put → Type 0
HasPut entry = IsPut entry.1

-- and is on a key
abbrev is_on : ℕ → ℕ × Put → Bool
is_on key entry = entry.0 == key

-- the put of a request that there can be is one that there can be
put_is : (request : Request) → IsRequest request → All HasPut (put_in request)
put_is (requests.Put key put) is =
    cond_both (leb 1 put.number) ((key, put) ∷ []) [] (All HasPut)
    (λ some. All-cons HasPut (key, put) [] (is (leb-true 1 put.number some)) (All-nil HasPut))
    (λ none. All-nil HasPut)
put_is (requests.Get ask key required) is = All-nil HasPut

-- so are those of a list of such requests
pub puts_are : (messages : List (ℕ × Request)) → AreRequests messages → All HasPut (puts_in messages)
puts_are [] all = All-nil HasPut
puts_are (message ∷ rest) all =
    All-append HasPut (put_in message.1) (puts_in rest)
    (put_is message.1 (All-head (λ (m : ℕ × Request). IsRequest m.1) message rest all))
    (puts_are rest (All-tail (λ (m : ℕ × Request). IsRequest m.1) message rest all))

-- and those on a key of a kind are of the kind too
of_kind_are : (kind : Kind) (key : ℕ) (puts : List (ℕ × Put)) → All HasPut puts
    → All (IsPutOf kind) (of_kind kind (puts_on key puts))
of_kind_are kind key puts are k d low =
    let on_key : All IsPut (puts_on key puts) =
    All-map IsPut (λ (entry : ℕ × Put). entry.1) (filter (is_on key) puts) (All-filter (is_on key) HasPut puts are)
    in
    record {
      is_put = All-filter (is_of_kind kind) IsPut (puts_on key puts) on_key k d low;
      of_kind = kind_tells _ kind (filter_passes (is_of_kind kind) (puts_on key puts) k d low);
    }

-- the one-put cells of puts of a kind are cells of it
ones_are : (kind : Kind) (puts : List Put) → All (IsPutOf kind) puts → All (IsCellOfKind kind) (map one_put_cell puts)
ones_are kind puts are =
    let one_is : (put : Put) → IsPutOf kind put → IsCellOfKind kind (one_put_cell put) = λ put is. record {
      is_cell = one_put_is_cell kind put is;
      has_kind = put_has_kind put ∙ is.of_kind;
    } in
    All-map (IsCellOfKind kind) one_put_cell puts (All-weaker (IsPutOf kind) (λ put. IsCellOfKind kind (one_put_cell put)) one_is puts are)

-- what a request brings to a key of a kind are cells of the kind
pub brought_are : (kind : Kind) (key : ℕ) (request : Request) → IsRequest request → All (IsCellOfKind kind) (brought kind key request)
brought_are kind key request is =
    ones_are kind (of_kind kind (puts_on key (put_in request))) (of_kind_are kind key (put_in request) (put_is request is))

-- the cell of puts among requests is a cell of its kind
pub own_is : (kind : Kind) (key : ℕ) (worked : List (ℕ × Request)) → AreRequests worked → IsCellOfKind kind (own_cell kind key worked)
own_is kind key worked are =
    let puts : List Put = puts_of kind key worked in
    let of = cell_of_is_cell kind puts (of_kind_are kind key (puts_in worked) (puts_are worked are)) in
    record { is_cell = of.0; has_kind = value_has_kind kind puts (cell_of kind puts).value of.1.value }

-- so it is a cell that there can be
pub own_is_cell : (kind : Kind) (key : ℕ) (worked : List (ℕ × Request)) → AreRequests worked → IsCell (own_cell kind key worked)
own_is_cell kind key worked are = (own_is kind key worked are).is_cell

-- with further requests the cell only grows
pub own_grows : (kind : Kind) (key : ℕ) (front back : List (ℕ × Request)) → AreRequests (front ++ back)
    → IsAtMost (own_cell kind key front) (own_cell kind key (front ++ back))
own_grows kind key front back are =
    let is_request : ℕ × Request → Type 0 = λ message. IsRequest message.1 in
    let more : List Put = puts_of kind key back in
    subst (IsAtMost (own_cell kind key front)) (sym (own_cell-append kind key front back))
    (joined_at_least kind (own_cell kind key front) (map one_put_cell more) (own_is kind key front (All-front is_request front back are))
    (ones_are kind more (of_kind_are kind key (puts_in back) (puts_are back (All-back is_request front back are)))))

-- a put with a number that stands among requests is one of their puts
put_among : (key : ℕ) (worked : List (ℕ × Request)) (session : ℕ) (put : Put) → 1 ≤ put.number → Contains worked (session, requests.Put key put)
    → Contains (puts_in worked) (key, put)
put_among key [] session put some has_it = absurd (contains_none (session, requests.Put key put) has_it)
put_among key (message ∷ worked) session put some has_it =
    elim (contains_cases message (session, requests.Put key put) worked has_it) [
      | inl here ↦
          let has_put : List (ℕ × Put) → Type 0 = λ puts. Contains (puts ++ puts_in worked) (key, put) in
          subst (λ (first : ℕ × Request). has_put (put_in first.1)) (sym here)
          (subst (λ (t : Bool). has_put (if t then (key, put) ∷ [] else [])) (sym (le-leb 1 put.number some))
          (contains_first (key, put) (puts_in worked)))
      | inr later ↦ Contains-append_right (put_in message.1) (puts_in worked) (key, put) (put_among key worked session put some later)
    ]

-- and the cell counts it, where it is of the kind
pub own_counts : (kind : Kind) (key : ℕ) (worked : List (ℕ × Request)) (session : ℕ) (put : Put) → AreRequests worked
    → Contains worked (session, requests.Put key put) → 1 ≤ put.number → kind_of put.payload ≡ kind
    → put.number ≤ count_of put.session (own_cell kind key worked).clock
own_counts kind key worked session put are has_it some is =
    let puts : List Put = puts_of kind key worked in
    let of = cell_of_is_cell kind puts (of_kind_are kind key (puts_in worked) (puts_are worked are)) in
    let all : List (ℕ × Put) = puts_in worked in
    let on_key : Contains (puts_on key all) put =
    contains_map (λ (entry : ℕ × Put). entry.1) (filter (is_on key) all) (key, put)
    (contains_filter (is_on key) all (key, put) (put_among key worked session put some has_it) (eq-eqb key key refl))
    in
    let among : Contains puts put = contains_filter (is_of_kind kind) (puts_on key all) put on_key (passes_kind kind put is) in
    let is_of_session : Put → Bool = λ other. put.session == other.session in
    (of.1.clock put.session).0 put.number
    (contains_map (λ (other : Put). other.number) (filter is_of_session puts) put
    (contains_filter is_of_session puts put among (eq-eqb put.session put.session refl)))
