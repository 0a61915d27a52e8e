-- The plain value of a list of puts: of none, of one, of two lists together; it depends on the members alone, and there is one.
use Rattle.std.specs.Prelude.{◌≡◌, ◌↔◌, ℕ, ◌<◌, ◌≤◌, ◌^◌, ◌⊎◌, max, Bool, true, false, cond, ◌||◌, IsTrue, List, [], ◌∷◌, ◌++◌, length, Option, Some, None, Contains, filter_map, ⊤}
use Rattle.std.specs.List.{cons_option}
use Rattle.std.proofs.Common.{refl, sym, ap, subst, subst₂, ◌∙◌, inl, inr, length-append, arith}
use Rattle.std.proofs.lemmas.Bool.{false≢true, cases_lt, or_cases, or_left, or_right}
use Rattle.std.proofs.lemmas.List.Elements.{All-nil, All-cons, Contains-push, Contains-append_left, filter_map-append}
use Rattle.std.specs.Cmp.{both_ways}
use Rattle.std.specs.FinMap.{find}
use Rattle.std.specs.Ordering.{ord_max, is_lt, is_le, eq_by_cmp}
use Rattle.lattice_laws.proofs.MembersLemmas.{contains_none}
use Rattle.lattice_laws.specs.Entries.{IsEntry}
use Rattle.lattice_laws.specs.EntriesLaws.{find-joined_maps, same_from_keys}
use Rattle.lattice_laws.specs.Greatest.{IsGreatest}
use Rattle.lattice_laws.specs.GreatestLaws.{max_laws}
use Rattle.lattice_laws.proofs.GreatestOfListsLemmas.{IsGreater, greatest_of_both, greatest_of_one, greatest_is_single, greatest_by_members, max_is_greater}
use Rattle.lattice_laws.specs.Joins.{SameMembers}
use Rattle.lattice_laws.proofs.JoinsLemmas.{above_left, above_right, above_through}
use Rattle.lattice_laws.specs.Lattice.{LatticeLaws, Associative}
use Rattle.lattice_laws.specs.Maybe.{plain_of}
use Rattle.lattice_laws.specs.declared.maybe.Maybe.{Maybe}
use Rattle.basic_lattices.specs.GreaterLaws.{greater_laws, greater_associative}
use Rattle.basic_lattices.specs.Stamped.{stamp_cmp}
use Rattle.basic_lattices.specs.StampedLaws.{stamp_total, stamp_exact}
use Rattle.basic_lattices.proofs.StampedLemmas.{stamp_is_second}
use Rattle.basic_lattices.specs.TextSet.{united}
use Rattle.basic_lattices.specs.Word.{IsWord, word_cmp}
use Rattle.lattice_laws.specs.SpellingLaws.{spelled_total, spelled_exact}
use Rattle.basic_lattices.specs.declared.stamped.Stamped.{Stamped}
use Rattle.version_antichain.specs.Versions.{joined_versions}
use Rattle.version_antichain.specs.declared.version.Version.{Version}
use Rattle.dot_lattices.specs.Amounts.{amounts_of}
use Rattle.dot_lattices.specs.Dot.{dot_cmp}
use Rattle.dot_lattices.specs.DotSet.{joined_dot_sets}
use Rattle.dot_lattices.specs.DotSums.{joined_sums}
use Rattle.dot_lattices.specs.declared.amounts.Amounts.{Amounts}
use Rattle.dot_lattices.specs.declared.dot.Dot.{Dot}
use Rattle.dot_lattices.specs.declared.insert.Insert.{Insert}
use Rattle.composed_value.proofs.DotValueLemmas.{amounts_by_members, amounts_fit, counter_of_none, counter_of_one, counter_of_both, counter_is_single, orset_of_none, orset_of_insert, orset_of_remove, orset_of_both, orset_by_members, orset_is_single}
use Rattle.composed_value.proofs.GatheredLemmas.{same_gathered}
use Rattle.composed_value.specs.Kind.{kind_of, kind_of_value}
use Rattle.composed_value.specs.PlainValue.{IsPutOf, IsValueOf, number_of, word_of, number_at, stamped_of, version_of, numbers, words, numbers_at, stamped, versions, change_at, insert_of, seen_of, changes_at, inserts, seen_by_removes, IsCounterOf, IsOrSetOf}
use Rattle.composed_value.specs.Put.{IsPayload, IsPut, dot_of, stamp_of, brought_by, value_of_put}
use Rattle.composed_value.proofs.SetsOfListsLemmas.{IsSetOf, set_of_none, set_of_one, set_of_both, set_of_is_single, set_of_by_members}
use Rattle.composed_value.specs.Value.{joined_found, empty_value, joined_values}
use Rattle.composed_value.specs.ValueLaws.{plain_of_joined, plain_of_injective, fields_laws}
use Rattle.composed_value.proofs.VersionValueLemmas.{AreKept, kept_of_none, kept_of_one, kept_of_both, kept_by_members, kept_is_single}
use Rattle.composed_value.specs.declared.kind.Kind.{Kind}
use Rattle.composed_value.specs.declared.kind.Kind.TheVariants as kinds
use Rattle.composed_value.specs.declared.payload.Payload.{Payload}
use Rattle.composed_value.specs.declared.payload.Payload.TheVariants as payloads
use Rattle.composed_value.specs.declared.put.Put.{Put}
use Rattle.composed_value.specs.declared.value.Value.{Value}
use Rattle.composed_value.specs.declared.value.Value.TheVariants as values

-- the number, word, number at a field, stamped word or version that a put has
abbrev number_in : Put → Option ℕ
number_in put = number_of put.payload

abbrev word_in : Put → Option (List ℕ)
word_in put = word_of put.payload

abbrev number_in_at : List ℕ → Put → Option ℕ
number_in_at field put = number_at field put.payload

abbrev stamped_in : Put → Option Stamped
stamped_in put = stamped_of put put.payload

abbrev version_in : Put → Option Version
version_in put = version_of put put.payload

abbrev change_in : Dot → Put → Option Amounts
change_in dot put = change_at dot put put.payload

abbrev insert_in : Put → Option Insert
insert_in put = insert_of put put.payload

abbrev seen_in : List ℕ → Put → Option (List (ℕ × ℕ))
seen_in word put = seen_of word put put.payload

-- the order of stamped words has a greater of two
stamp_is_greater : IsGreater (λ a b. IsTrue (is_le (stamp_cmp a b))) (ord_max stamp_cmp)
stamp_is_greater =
    let laws : LatticeLaws (λ (_ : Stamped). ⊤) (λ _ _. ⊤) (ord_max stamp_cmp) = greater_laws stamp_cmp stamp_total stamp_exact (λ _. ⊤) in
    let grouped : Associative (λ (_ : Stamped). ⊤) (λ _ _. ⊤) (ord_max stamp_cmp) = greater_associative stamp_cmp stamp_total stamp_exact (λ _. ⊤) in
    record {
      itself = λ a. (stamp_is_second a a).1 (laws.idempotent a tt);
      through = λ a b c ab bc. (stamp_is_second a c).1 (above_through laws grouped a b c tt tt tt tt tt ((stamp_is_second a b).0 ab) ((stamp_is_second b c).0 bc));
      each_other = λ a b ab ba. sym ((stamp_is_second b a).0 ba) ∙ laws.commutative b a tt tt tt ∙ (stamp_is_second a b).0 ab;
      one_of_both = λ a b. elim (is_lt (stamp_cmp b a)) as (λ t. (cond t a b ≡ a) ⊎ (cond t a b ≡ b)) [ true ↦ inl refl | false ↦ inr refl ];
      first_below = λ a b. (stamp_is_second a (ord_max stamp_cmp a b)).1 (above_left laws grouped a b tt tt tt);
      second_below = λ a b. (stamp_is_second b (ord_max stamp_cmp a b)).1 (above_right laws grouped a b tt tt tt);
    }

module _ {X : Type 0} {at_most : X → X → Type 0} {greater : X → X → X} (is_greater : IsGreater at_most greater) (gather : Put → Option X) where
  -- the greatest of what is gathered of two lists, where it may be nothing yet
  found_of_both : (xs ys : List Put) (a b : Maybe X) → IsGreatest at_most (filter_map gather xs) (plain_of (λ x. x) a) → IsGreatest at_most (filter_map gather ys) (plain_of (λ x. x) b) → IsGreatest at_most (filter_map gather (xs ++ ys)) (plain_of (λ x. x) (joined_found greater a b))
  found_of_both xs ys a b ga gb =
      subst₂ (IsGreatest at_most) (sym (filter_map-append gather xs ys)) (sym (plain_of_joined greater a b))
      (greatest_of_both is_greater (filter_map gather xs) (filter_map gather ys) (plain_of (λ x. x) a) (plain_of (λ x. x) b) ga gb)

  -- what is gathered of a list has one greatest
  found_is_single : (puts : List Put) (a b : Maybe X) → IsGreatest at_most (filter_map gather puts) (plain_of (λ x. x) a) → IsGreatest at_most (filter_map gather puts) (plain_of (λ x. x) b) → a ≡ b
  found_is_single puts a b ga gb = plain_of_injective a b (greatest_is_single is_greater (filter_map gather puts) (plain_of (λ x. x) a) (plain_of (λ x. x) b) ga gb)

-- the greatest number at a field of one put, which is of the field or not
field_of_one : (tied : Bool) (number : ℕ) → IsGreatest ◌≤◌ (cons_option (cond tied (Some number) None) []) (cond tied (Some number) None)
field_of_one true number = greatest_of_one max_is_greater number
field_of_one false number = contains_none

-- two lists have a put together where one of them has
some_of_both : (xs ys : List Put) (a b : Bool) → IsTrue a ↔ (0 < length xs) → IsTrue b ↔ (0 < length ys) → IsTrue (a || b) ↔ (0 < length (xs ++ ys))
some_of_both xs ys a b of_xs of_ys =
    let long = length-append xs ys in (
      (λ on. elim (or_cases a b on) [
        | inl first ↦ let some = of_xs.0 first in omega arith
        | inr second ↦ let some = of_ys.0 second in omega arith
      ]),
      (λ some. elim (cases_lt 0 (length xs)) [
        | inl some_first ↦ or_left a b (of_xs.1 some_first)
        | inr none_first ↦ or_right a b (of_ys.1 (omega arith))
      ]),
    )

-- a list with all members of another has a put where the other has one
some_among : (xs ys : List Put) → ((x : Put) → Contains xs x → Contains ys x) → 0 < length xs → 0 < length ys
some_among [] ys among some = absurd (omega arith)
some_among (x ∷ xs) ys among some = let has = among x (Contains-append_left (x ∷ []) xs x (Contains-push [] x)) in omega arith

-- the value of puts of a kind is of the kind
pub value_has_kind : (kind : Kind) (puts : List Put) (value : Value) → IsValueOf kind puts value → kind_of_value value ≡ kind
value_has_kind kinds.Max puts (values.Max greatest) is = refl
value_has_kind kinds.Or puts (values.Or on) is = refl
value_has_kind kinds.Set puts (values.Set set) is = refl
value_has_kind kinds.Map puts (values.Map fields) is = refl
value_has_kind kinds.Last puts (values.Last last) is = refl
value_has_kind kinds.Versions puts (values.Versions kept) is = refl
value_has_kind kinds.Counter puts (values.Counter sums) is = refl
value_has_kind kinds.OrSet puts (values.OrSet set) is = refl
value_has_kind _ puts _ is = absurd is

-- the value of no puts
pub value_of_none : (kind : Kind) → IsValueOf kind [] (empty_value kind)
value_of_none kinds.Max = contains_none
value_of_none kinds.Or = ((λ on. absurd (false≢true on)), (λ some. absurd (omega arith)))
value_of_none kinds.Set = set_of_none spelled_total spelled_exact IsWord
value_of_none kinds.Map = (record { ascending = refl; are_entries = All-nil (IsEntry IsWord (λ number. number < 2 ^ 64)) }, λ field. contains_none)
value_of_none kinds.Last = contains_none
value_of_none kinds.Versions = kept_of_none
value_of_none kinds.Counter = counter_of_none
value_of_none kinds.OrSet = orset_of_none

-- the value of a put with the payload
value_of_payload : (kind : Kind) (put : Put) (payload : Payload) → kind_of payload ≡ kind → IsPut put → IsPayload payload → IsValueOf kind (record put { payload = payload } ∷ []) (brought_by put payload)
value_of_payload kinds.Max put (payloads.Max number) of_kind of_put is = greatest_of_one max_is_greater number
value_of_payload kinds.Or put payloads.On of_kind of_put is = ((λ on. omega arith), (λ some. refl))
value_of_payload kinds.Set put (payloads.Add word) of_kind of_put is = set_of_one spelled_total spelled_exact IsWord word is
value_of_payload kinds.Map put (payloads.Field its_field number) of_kind of_put is = (
  record { ascending = refl; are_entries = All-cons (IsEntry IsWord (λ n. n < 2 ^ 64)) (its_field, number) [] is (All-nil (IsEntry IsWord (λ n. n < 2 ^ 64))) },
  λ field. field_of_one (eq_by_cmp word_cmp field its_field) number,
)
value_of_payload kinds.Last put (payloads.Last word) of_kind of_put is = greatest_of_one stamp_is_greater (stamp_of put word)
value_of_payload kinds.Versions put (payloads.Version word) of_kind of_put is = kept_of_one (record { clock = put.seen; word = word }) (record { is_clock = of_put.seen_is; is_word = is })
value_of_payload kinds.Counter put (payloads.Amount plus amount) of_kind of_put is = counter_of_one (dot_of put) (amounts_of plus amount) (record { session_fits = of_put.session_fits; number_fits = of_put.number_fits }) (amounts_fit plus amount is)
value_of_payload kinds.OrSet put (payloads.Insert word) of_kind of_put is = orset_of_insert (record { word = word; dot = dot_of put }) (record { is_word = is; is_dot = record { session_fits = of_put.session_fits; number_fits = of_put.number_fits } }) of_put.number_some
value_of_payload kinds.OrSet put (payloads.Remove word) of_kind of_put is = orset_of_remove word put.seen is of_put.seen_is
value_of_payload _ put _ of_kind of_put is = absurd (cc)

-- the value of one put
pub value_of_one : (kind : Kind) (put : Put) → IsPutOf kind put → IsValueOf kind (put ∷ []) (value_of_put put)
value_of_one kind put is = value_of_payload kind put put.payload is.of_kind is.is_put is.is_put.payload_is

-- the value of two lists of puts is the join of their values
pub value_of_both : (kind : Kind) (xs ys : List Put) (a b : Value) → IsValueOf kind xs a → IsValueOf kind ys b → IsValueOf kind (xs ++ ys) (joined_values a b)
value_of_both kinds.Max xs ys (values.Max a) (values.Max b) va vb = found_of_both max_is_greater number_in xs ys a b va vb
value_of_both kinds.Max xs ys (values.Max a) _ va vb = absurd vb
value_of_both kinds.Or xs ys (values.Or a) (values.Or b) va vb = some_of_both xs ys a b va vb
value_of_both kinds.Or xs ys (values.Or a) _ va vb = absurd vb
value_of_both kinds.Set xs ys (values.Set a) (values.Set b) va vb =
    subst (λ all. IsSetOf word_cmp IsWord all (united a b)) (sym (filter_map-append word_in xs ys)) (set_of_both spelled_total spelled_exact IsWord (words xs) (words ys) a b va vb)
value_of_both kinds.Set xs ys (values.Set a) _ va vb = absurd vb
value_of_both kinds.Map xs ys (values.Map a) (values.Map b) va vb = (
  (fields_laws.closed a b va.0 vb.0 tt).0,
  λ field. subst₂ (IsGreatest ◌≤◌) (sym (filter_map-append (number_in_at field) xs ys)) (sym (find-joined_maps max spelled_total field a b vb.0.ascending))
      (greatest_of_both max_is_greater (numbers_at field xs) (numbers_at field ys) (find word_cmp field a) (find word_cmp field b) (va.1 field) (vb.1 field)),
)
value_of_both kinds.Map xs ys (values.Map a) _ va vb = absurd vb
value_of_both kinds.Last xs ys (values.Last a) (values.Last b) va vb = found_of_both stamp_is_greater stamped_in xs ys a b va vb
value_of_both kinds.Last xs ys (values.Last a) _ va vb = absurd vb
value_of_both kinds.Versions xs ys (values.Versions a) (values.Versions b) va vb =
    subst (λ all. AreKept all (joined_versions a b)) (sym (filter_map-append version_in xs ys)) (kept_of_both (versions xs) (versions ys) a b va vb)
value_of_both kinds.Versions xs ys (values.Versions a) _ va vb = absurd vb
value_of_both kinds.Counter xs ys (values.Counter a) (values.Counter b) va vb =
    subst (λ changes. IsCounterOf changes (joined_sums a b)) (λ i dot. sym (filter_map-append (change_in dot) xs ys) i) (counter_of_both (changes_at xs) (changes_at ys) a b va vb)
value_of_both kinds.Counter xs ys (values.Counter a) _ va vb = absurd vb
value_of_both kinds.OrSet xs ys (values.OrSet a) (values.OrSet b) va vb =
    subst₂ (λ all seen. IsOrSetOf all seen (joined_dot_sets a b)) (sym (filter_map-append insert_in xs ys)) (λ i word. sym (filter_map-append (seen_in word) xs ys) i) (orset_of_both (inserts xs) (inserts ys) (seen_by_removes xs) (seen_by_removes ys) a b va vb)
value_of_both kinds.OrSet xs ys (values.OrSet a) _ va vb = absurd vb
value_of_both _ xs ys _ _ va vb = absurd va

-- lists with the same members have the same value
pub value_by_members : (kind : Kind) (xs ys : List Put) (value : Value) → SameMembers xs ys → IsValueOf kind xs value → IsValueOf kind ys value
value_by_members kinds.Max xs ys (values.Max greatest) same is = greatest_by_members ◌≤◌ (numbers xs) (numbers ys) (plain_of (λ n. n) greatest) (same_gathered number_in xs ys same) is
value_by_members kinds.Or xs ys (values.Or on) same is = ((λ h. some_among xs ys (λ x. (same x).0) (is.0 h)), (λ some. is.1 (some_among ys xs (λ x. (same x).1) some)))
value_by_members kinds.Set xs ys (values.Set set) same is = set_of_by_members word_cmp IsWord (words xs) (words ys) set (same_gathered word_in xs ys same) is
value_by_members kinds.Map xs ys (values.Map fields) same is = (is.0, λ field. greatest_by_members ◌≤◌ (numbers_at field xs) (numbers_at field ys) (find word_cmp field fields) (same_gathered (number_in_at field) xs ys same) (is.1 field))
value_by_members kinds.Last xs ys (values.Last last) same is = greatest_by_members (λ a b. IsTrue (is_le (stamp_cmp a b))) (stamped xs) (stamped ys) (plain_of (λ word. word) last) (same_gathered stamped_in xs ys same) is
value_by_members kinds.Versions xs ys (values.Versions kept) same is = kept_by_members (versions xs) (versions ys) kept (same_gathered version_in xs ys same) is
value_by_members kinds.Counter xs ys (values.Counter sums) same is = (is.0, λ dot. amounts_by_members (changes_at xs dot) (changes_at ys dot) (find dot_cmp dot sums) (same_gathered (change_in dot) xs ys same) (is.1 dot))
value_by_members kinds.OrSet xs ys (values.OrSet set) same is = orset_by_members (inserts xs) (inserts ys) (seen_by_removes xs) (seen_by_removes ys) set (same_gathered insert_in xs ys same) (λ word. same_gathered (seen_in word) xs ys same) is
value_by_members _ xs ys _ same is = absurd is

-- a list of puts has one value
pub value_is_single : (kind : Kind) (puts : List Put) (a b : Value) → IsValueOf kind puts a → IsValueOf kind puts b → a ≡ b
value_is_single kinds.Max puts (values.Max a) (values.Max b) va vb = ap values.Max (found_is_single max_is_greater number_in puts a b va vb)
value_is_single kinds.Max puts (values.Max a) _ va vb = absurd vb
value_is_single kinds.Or puts (values.Or a) (values.Or b) va vb = ap values.Or (both_ways a b (λ on. vb.1 (va.0 on)) (λ on. va.1 (vb.0 on)))
value_is_single kinds.Or puts (values.Or a) _ va vb = absurd vb
value_is_single kinds.Set puts (values.Set a) (values.Set b) va vb = ap values.Set (set_of_is_single spelled_total spelled_exact IsWord (words puts) a b va vb)
value_is_single kinds.Set puts (values.Set a) _ va vb = absurd vb
value_is_single kinds.Map puts (values.Map a) (values.Map b) va vb =
    ap values.Map (same_from_keys spelled_total spelled_exact IsWord (max_laws (λ number. number < 2 ^ 64)) (λ _ _. tt) a b va.0 vb.0
    (λ field. greatest_is_single max_is_greater (numbers_at field puts) (find word_cmp field a) (find word_cmp field b) (va.1 field) (vb.1 field)))
value_is_single kinds.Map puts (values.Map a) _ va vb = absurd vb
value_is_single kinds.Last puts (values.Last a) (values.Last b) va vb = ap values.Last (found_is_single stamp_is_greater stamped_in puts a b va vb)
value_is_single kinds.Last puts (values.Last a) _ va vb = absurd vb
value_is_single kinds.Versions puts (values.Versions a) (values.Versions b) va vb = ap values.Versions (kept_is_single (versions puts) a b va vb)
value_is_single kinds.Versions puts (values.Versions a) _ va vb = absurd vb
value_is_single kinds.Counter puts (values.Counter a) (values.Counter b) va vb = ap values.Counter (counter_is_single (changes_at puts) a b va vb)
value_is_single kinds.Counter puts (values.Counter a) _ va vb = absurd vb
value_is_single kinds.OrSet puts (values.OrSet a) (values.OrSet b) va vb = ap values.OrSet (orset_is_single (inserts puts) (seen_by_removes puts) a b va vb)
value_is_single kinds.OrSet puts (values.OrSet a) _ va vb = absurd vb
value_is_single _ puts _ _ va vb = absurd va
