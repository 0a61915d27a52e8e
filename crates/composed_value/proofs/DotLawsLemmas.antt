-- What a counter and a set with removal say of their puts.
use Rattle.std.specs.Prelude.{◌≡◌, ◌≢◌, suc, unwrap_or, ℕ, ◌+◌, ◌≤◌, cond, length, pos, ◌-ℤ◌, List, [], ◌∷◌, ◌++◌, Option, Some, None, All, AllPairs, Contains}
use Rattle.std.specs.List.{cons_option, sum_by}
use Rattle.std.specs.Ordering.{eq_by_cmp, is_eq}
use Rattle.std.specs.declared.cmp.Ordering.{Ordering}
use Rattle.std.specs.declared.cmp.Ordering.TheVariants.{Less, Equal, Greater}
use Rattle.std.specs.Cmp.{Equal-is}
use Rattle.std.specs.FinMap.{find, put as put_at}
use Rattle.std.specs.FinMap.Entries.{by_order}
use Rattle.std.proofs.Common.{refl, sym, ap, subst, ◌∙◌, inl, inr, arith}
use Rattle.std.proofs.lemmas.Bool.{cases_Bool}
use Rattle.lattice_laws.proofs.GreatestOfListsLemmas.{in_either, in_one}
use Rattle.std.proofs.lemmas.List.Elements.{All-head, All-tail, Contains-append_left, Contains-append_right}
use Rattle.std.proofs.lemmas.List.Sums.{sum_by-cons}
use Rattle.std.proofs.lemmas.Cmp.{tied_itself}
use Rattle.lattice_laws.proofs.MembersLemmas.{contains_none, contains_first, contains_later, contains_cases}
use Rattle.lattice_laws.specs.Entries.{with_old}
use Rattle.dot_lattices.specs.Amounts.{joined_amounts}
use Rattle.dot_lattices.specs.Dot.{dot_cmp, counts}
use Rattle.dot_lattices.specs.DotLaws.{dot_exact}
use Rattle.dot_lattices.specs.DotSums.{joined_sums, total_of}
use Rattle.dot_lattices.specs.declared.amounts.Amounts.{Amounts}
use Rattle.dot_lattices.specs.declared.dot.Dot.{Dot}
use Rattle.composed_value.proofs.DotValueLemmas.{counter_is_single}
use Rattle.composed_value.proofs.GatheredLemmas.{gathered_from, gathered_of}
use Rattle.composed_value.proofs.PlainValueLemmas.{value_by_members, value_of_both, value_of_none, value_of_one}
use Rattle.composed_value.specs.Kind.{kind_of}
use Rattle.composed_value.specs.Laws.{CountersAreSums, InsertsStayUnseen}
use Rattle.composed_value.specs.PlainValue.{AreGreatestOf, IsPutOf, IsValueOf, change_at, change_of, changes_at, insert_of, seen_of}
use Rattle.composed_value.specs.Put.{dot_of}
use Rattle.composed_value.specs.declared.kind.Kind.TheVariants as kinds
use Rattle.composed_value.specs.declared.payload.Payload.{Payload}
use Rattle.composed_value.specs.declared.payload.Payload.TheVariants as payloads
use Rattle.composed_value.specs.declared.put.Put.{Put}
use Rattle.composed_value.specs.declared.value.Value.TheVariants as values
use Rattle.basic_lattices.specs.Word.{word_cmp}
use Rattle.lattice_laws.specs.SpellingLaws.{spelled_total, spelled_exact}
use Rattle.dot_lattices.specs.declared.insert.Insert.{Insert}

-- ---- sums

-- a sum with an entry at a new dot
sum_by-put : (f : Dot × Amounts → ℕ) (dot : Dot) (amounts : Amounts) (sums : List (Dot × Amounts)) → find dot_cmp dot sums ≡ None → sum_by f (put_at dot_cmp dot amounts sums) ≡ f (dot, amounts) + sum_by f sums
sum_by-put f dot amounts [] none = sum_by-cons f (dot, amounts) []
sum_by-put f dot amounts (entry ∷ sums) none = by (dot_cmp dot entry.0) refl (λ later. sum_by-put f dot amounts sums later)
  where
    by : (order : Ordering) → dot_cmp dot entry.0 ≡ order → (find dot_cmp dot sums ≡ None → sum_by f (put_at dot_cmp dot amounts sums) ≡ f (dot, amounts) + sum_by f sums) → sum_by f (put_at dot_cmp dot amounts (entry ∷ sums)) ≡ f (dot, amounts) + sum_by f (entry ∷ sums)
    by Less is in_rest = ap (λ order. sum_by f (by_order order ((dot, amounts) ∷ entry ∷ sums) ((entry.0, amounts) ∷ sums) (entry ∷ put_at dot_cmp dot amounts sums))) is ∙ sum_by-cons f (dot, amounts) (entry ∷ sums)
    by Equal is in_rest = absurd (let found : Some entry.1 ≡ None = sym (ap (λ order. cond (is_eq order) (Some entry.1) (find dot_cmp dot sums)) is) ∙ none in cc)
    by Greater is in_rest =
        let later : find dot_cmp dot sums ≡ None = sym (ap (λ order. cond (is_eq order) (Some entry.1) (find dot_cmp dot sums)) is) ∙ none in
        ap (λ order. sum_by f (by_order order ((dot, amounts) ∷ entry ∷ sums) ((entry.0, amounts) ∷ sums) (entry ∷ put_at dot_cmp dot amounts sums))) is
        ∙ omega (arith, sum_by-cons f entry (put_at dot_cmp dot amounts sums), sum_by-cons f entry sums, in_rest later)

-- a put of another dot changes nothing at this one
no_change : (dot : Dot) (put : Put) (payload : Payload) → dot ≢ dot_of put → change_at dot put payload ≡ None
no_change dot put (payloads.Amount plus amount) other = elim (cases_Bool (eq_by_cmp dot_cmp dot (dot_of put))) [
  | inl ties ↦ absurd (other (dot_exact dot (dot_of put) ((Equal-is _).0 ties)))
  | inr apart ↦ rw apart refl
]
no_change dot put _ other = refl

no_changes : (dot : Dot) (puts : List Put) → All (λ put. dot ≢ dot_of put) puts → changes_at puts dot ≡ []
no_changes dot [] others = refl
no_changes dot (put ∷ puts) others =
    ap (λ change. cons_option change (changes_at puts dot)) (no_change dot put put.payload (All-head (λ put. dot ≢ dot_of put) put puts others)) ∙ no_changes dot puts (All-tail (λ put. dot ≢ dot_of put) put puts others)

-- where nothing changes, nothing is found
none_found : (found : Option Amounts) → AreGreatestOf [] found → found ≡ None
none_found None are = refl
none_found (Some amounts) are = absurd (contains_none amounts.added are.added.0)

-- the first of a list differs from the others, which differ among themselves
first_differs : {X : Type 0} (R : X → X → Type 0) (x : X) (xs : List X) → AllPairs R (x ∷ xs) → All (R x) xs
first_differs R x xs pairs k d within = pairs 0 (suc k) d (omega arith) (omega (arith, within))

others_differ : {X : Type 0} (R : X → X → Type 0) (x : X) (xs : List X) → AllPairs R (x ∷ xs) → AllPairs R xs
others_differ R x xs pairs i j d below within = pairs (suc i) (suc j) d (omega (arith, below)) (omega (arith, within))

abbrev AddedBy : Put → ℕ
AddedBy put = (change_of put.payload).added

abbrev TakenBy : Put → ℕ
TakenBy put = (change_of put.payload).taken

-- a counter of the puts that has both sums
record HasSums (puts : List Put) (sums : List (Dot × Amounts)) : Type 0 where
  is : IsValueOf kinds.Counter puts (values.Counter sums)
  added : sum_by (λ entry. entry.1.added) sums ≡ sum_by AddedBy puts
  taken : sum_by (λ entry. entry.1.taken) sums ≡ sum_by TakenBy puts

-- which of two lists comes first does not matter to their members
same_turned : (put : Put) (puts : List Put) (x : Put) → (Contains (puts ++ put ∷ []) x → Contains (put ∷ puts) x) × (Contains (put ∷ puts) x → Contains (puts ++ put ∷ []) x)
same_turned put puts x = (
  in_either puts (put ∷ []) (Contains (put ∷ puts) x) x (λ has. contains_later put x puts has) (λ has. in_one (λ y. Contains (put ∷ puts) y) put x (contains_first put puts) has),
  λ has. elim (contains_cases put x puts has) [
    | inl same ↦ Contains-append_right puts (put ∷ []) x (subst (Contains (put ∷ [])) same (contains_first put []))
    | inr later ↦ Contains-append_left puts (put ∷ []) x later
  ],
)

-- the counter of one put
one_value : (put : Put) (payload : Payload) → kind_of payload ≡ kinds.Counter → IsPutOf kinds.Counter (record put { payload = payload }) → IsValueOf kinds.Counter (record put { payload = payload } ∷ []) (values.Counter ((dot_of put, change_of payload) ∷ []))
one_value put (payloads.Amount plus amount) of_kind of_put = value_of_one kinds.Counter (record put { payload = payloads.Amount plus amount }) of_put
one_value put _ of_kind of_put = absurd (cc)

-- a counter with one put more
abbrev with_put : Put → List (Dot × Amounts) → List (Dot × Amounts)
with_put put sums = joined_sums sums ((dot_of put, change_of put.payload) ∷ [])

value_with_put : (put : Put) (puts : List Put) (sums : List (Dot × Amounts)) → IsPutOf kinds.Counter put → IsValueOf kinds.Counter puts (values.Counter sums) → IsValueOf kinds.Counter (put ∷ puts) (values.Counter (with_put put sums))
value_with_put put puts sums of_put is =
    let both = value_of_both kinds.Counter puts (put ∷ []) (values.Counter sums) (values.Counter ((dot_of put, change_of put.payload) ∷ [])) is (one_value put put.payload of_put.of_kind of_put) in
    value_by_members kinds.Counter (puts ++ put ∷ []) (put ∷ puts) (values.Counter (with_put put sums)) (same_turned put puts) both

sums_of : (puts : List Put) → All (IsPutOf kinds.Counter) puts → AllPairs (λ put other. dot_of put ≢ dot_of other) puts → (sums : List (Dot × Amounts)) × HasSums puts sums
sums_of [] of_kind different = ([], record { is = value_of_none kinds.Counter; added = refl; taken = refl })
sums_of (put ∷ puts) of_kind different =
    let Differ : Put → Put → Type 0 = λ put other. dot_of put ≢ dot_of other in
    let rest = sums_of puts (All-tail (IsPutOf kinds.Counter) put puts of_kind) (others_differ Differ put puts different) in
    let dot = dot_of put in
    let change = change_of put.payload in
    let none : find dot_cmp dot rest.0 ≡ None = none_found (find dot_cmp dot rest.0) (subst (λ changes. AreGreatestOf changes (find dot_cmp dot rest.0)) (no_changes dot puts (first_differs Differ put puts different)) (rest.1.is.1 dot)) in
    let joined : with_put put rest.0 ≡ put_at dot_cmp dot change rest.0 = ap (λ old. put_at dot_cmp dot (with_old joined_amounts old change) rest.0) none in (
      put_at dot_cmp dot change rest.0,
      record {
        is = subst (λ sums. IsValueOf kinds.Counter (put ∷ puts) (values.Counter sums)) joined (value_with_put put puts rest.0 (All-head (IsPutOf kinds.Counter) put puts of_kind) rest.1.is);
        added = omega (arith, sum_by-put (λ entry. entry.1.added) dot change rest.0 none, rest.1.added, sum_by-cons AddedBy put puts);
        taken = omega (arith, sum_by-put (λ entry. entry.1.taken) dot change rest.0 none, rest.1.taken, sum_by-cons TakenBy put puts);
      },
    )

pub counters_are_sums : CountersAreSums
counters_are_sums puts sums of_kind different is =
    let told = sums_of puts of_kind different in
    let same : sums ≡ told.0 = counter_is_single (changes_at puts) sums told.0 is told.1.is in
    ap total_of same ∙ (λ i. pos (told.1.added i) -ℤ pos (told.1.taken i))

-- ---- dots

-- with one entry more there is one dot more at most
length_put : (dot : Dot) (amounts : Amounts) (sums : List (Dot × Amounts)) → length (put_at dot_cmp dot amounts sums) ≤ length sums + 1
length_put dot amounts [] = omega arith
length_put dot amounts (entry ∷ sums) = by (dot_cmp dot entry.0) (length_put dot amounts sums)
  where
    by : (order : Ordering) → length (put_at dot_cmp dot amounts sums) ≤ length sums + 1 → length (by_order order ((dot, amounts) ∷ entry ∷ sums) ((entry.0, amounts) ∷ sums) (entry ∷ put_at dot_cmp dot amounts sums)) ≤ length (entry ∷ sums) + 1
    by Less rest = omega arith
    by Equal rest = omega arith
    by Greater rest = omega (arith, rest)

few_dots : (puts : List Put) → All (IsPutOf kinds.Counter) puts → (sums : List (Dot × Amounts)) × IsValueOf kinds.Counter puts (values.Counter sums) × (length sums ≤ length puts)
few_dots [] of_kind = ([], value_of_none kinds.Counter, omega arith)
few_dots (put ∷ puts) of_kind =
    let rest = few_dots puts (All-tail (IsPutOf kinds.Counter) put puts of_kind) in
    let longer = length_put (dot_of put) (with_old joined_amounts (find dot_cmp (dot_of put) rest.0) (change_of put.payload)) rest.0 in
    (with_put put rest.0, value_with_put put puts rest.0 (All-head (IsPutOf kinds.Counter) put puts of_kind) rest.1, omega (arith, longer, rest.2))

-- A counter has no more dots than it has puts.
pub dots_are_few : (puts : List Put) (sums : List (Dot × Amounts)) → All (IsPutOf kinds.Counter) puts → IsValueOf kinds.Counter puts (values.Counter sums) → length sums ≤ length puts
dots_are_few puts sums of_kind is =
    let told = few_dots puts of_kind in
    subst (λ sums. length sums ≤ length puts) (counter_is_single (changes_at puts) told.0 sums told.1 is) told.2

-- ---- inserts

-- a remove of the word has what it had seen
removes_seen : (word : List ℕ) (put : Put) (payload : Payload) → payload ≡ payloads.Remove word → seen_of word put payload ≡ Some put.seen
removes_seen word put payload is = ap (seen_of word put) is ∙ ap (λ order. cond (is_eq order) (Some put.seen) None) (tied_itself spelled_total word)

-- and what a put gives of it is that of a remove of the word
seen_removes : (word : List ℕ) (put : Put) (payload : Payload) (seen : List (ℕ × ℕ)) → seen_of word put payload ≡ Some seen → (payload ≡ payloads.Remove word) × (put.seen ≡ seen)
seen_removes word put (payloads.Remove its) seen gives = elim (cases_Bool (eq_by_cmp word_cmp word its)) [
  | inl ties ↦
      let given : Some put.seen ≡ Some seen = sym (ap (λ tied. cond tied (Some put.seen) None) ties) ∙ gives in
      (ap payloads.Remove (sym (spelled_exact word its ((Equal-is _).0 ties))), ap (λ found. unwrap_or found put.seen) given)
  | inr apart ↦ absurd (let none : None ≡ Some seen = sym (ap (λ tied. cond tied (Some put.seen) None) apart) ∙ gives in cc)
]
seen_removes word put _ seen gives = absurd (cc)

pub inserts_stay_unseen : InsertsStayUnseen
inserts_stay_unseen puts set put word is has inserted =
    let insert : Insert = record { word = word; dot = dot_of put } in
    let gives : insert_of put put.payload ≡ Some insert = ap (insert_of put) inserted in
    let there = gathered_of (λ put. insert_of put put.payload) puts put insert has gives in
    let says = is.inserts insert in (
      λ yes other has_other removes. (says.0 yes).1 other.seen (gathered_of (λ put. seen_of word put put.payload) puts other other.seen has_other (removes_seen word other other.payload removes)),
      λ none. says.1 (
        there,
        λ clock seen.
            let from = gathered_from (λ put. seen_of word put put.payload) puts clock seen in
            let told = seen_removes word from.0 from.0.payload clock from.2 in
            ap (λ clock. counts clock (dot_of put)) (sym told.1) ∙ none from.0 from.1 told.0,
      ),
    )
