-- The counter and the set with removal of a list of puts: of none, of one, of two lists together; they depend on the members alone, and there is one.
use Rattle.std.specs.Prelude.{◌≡◌, ℕ, ◌<◌, ◌≤◌, ◌^◌, max, nat_le, not, Bool, true, false, cond, ◌||◌, List, [], ◌∷◌, ◌++◌, map, Option, Some, None, unwrap_or, Contains}
use Rattle.std.specs.List.{cons_option}
use Rattle.std.specs.Option.{option_map}
use Rattle.std.proofs.Common.{refl, sym, ap, subst, subst₂, ◌∙◌, inl, inr, arith}
use Rattle.std.proofs.lemmas.Bool.{false≢true, and_parts, and_from, or_cases, or_left, or_right, not-true, not_from_false, lt-leb, leb-false}
use Rattle.std.proofs.lemmas.List.{map-append}
use Rattle.std.proofs.lemmas.List.Elements.{All-nil, All-cons, Contains-append_left, Contains-append_right, Contains-append_cases}
use Rattle.std.specs.Cmp.{both_ways}
use Rattle.std.specs.FinMap.{find}
use Rattle.std.specs.Ordering.{eq_by_cmp}
use Rattle.lattice_laws.proofs.GreatestOfListsLemmas.{greatest_of_both, greatest_of_one, greatest_is_single, greatest_by_members, greatest_or_zero_of_both, greatest_or_zero_of_none, greatest_or_zero_of_one, greatest_or_zero_by_members, greatest_or_zero_is_single, max_is_greater}
use Rattle.lattice_laws.proofs.MembersLemmas.{contains_none, contains_map, contains_mapped, same_map}
use Rattle.lattice_laws.specs.Entries.{IsEntry}
use Rattle.lattice_laws.specs.EntriesLaws.{find-joined_maps, same_from_keys}
use Rattle.lattice_laws.specs.Greatest.{IsGreatest, IsGreatestOrZero}
use Rattle.lattice_laws.specs.Joins.{SameMembers}
use Rattle.lattice_laws.specs.Maybe.{joined_by}
use Rattle.lattice_laws.specs.Sets.{has}
use Rattle.lattice_laws.specs.SetsLaws.{same_sets}
use Rattle.lattice_laws.specs.SpellingLaws.{spelled_total, spelled_exact}
use Rattle.basic_lattices.specs.Word.{IsWord, word_cmp}
use Rattle.clock_lattice.proofs.ClockLemmas.{same_counts}
use Rattle.clock_lattice.proofs.NeedsLemmas.{empty_is_bottom}
use Rattle.clock_lattice.proofs.SparseLemmas.{same_values}
use Rattle.clock_lattice.specs.Clock.{IsClock, count_of}
use Rattle.clock_lattice.specs.ClockLaws.{count-joined}
use Rattle.clock_lattice.specs.Needs.{IsSomeClock}
use Rattle.clock_lattice.specs.NeedsLaws.{some_clock_laws}
use Rattle.dot_lattices.proofs.DotSetLemmas.{there_unseen}
use Rattle.dot_lattices.specs.Amounts.{AreAmounts, amounts_of, joined_amounts}
use Rattle.dot_lattices.specs.AmountsLaws.{amounts_laws}
use Rattle.dot_lattices.specs.Dot.{dot_cmp, IsDot, counts}
use Rattle.dot_lattices.specs.DotLaws.{dot_total, dot_exact}
use Rattle.dot_lattices.specs.DotSet.{PlainDotSet, AreRemovals, IsDotSet, seen_at, is_seen, joined_removals, joined_dot_sets, no_inserts, one_insert, one_remove, removal_of}
use Rattle.dot_lattices.specs.DotSetLaws.{dot_set_laws, seen-joined, seen_is_clock, has-joined, same_dot_sets}
use Rattle.dot_lattices.specs.DotSums.{joined_sums}
use Rattle.dot_lattices.specs.DotSumsLaws.{sums_laws}
use Rattle.dot_lattices.specs.Insert.{insert_cmp, IsInsert}
use Rattle.dot_lattices.specs.InsertLaws.{insert_total, insert_exact}
use Rattle.dot_lattices.specs.declared.amounts.Amounts.{Amounts}
use Rattle.dot_lattices.specs.declared.dot.Dot.{Dot}
use Rattle.dot_lattices.specs.declared.insert.Insert.{Insert}
use Rattle.composed_value.proofs.SetsOfListsLemmas.{set_of_none, set_of_one}
use Rattle.composed_value.specs.PlainValue.{AreGreatestOf, IsCounterOf, IsOrSetOf}

-- ---- the amounts at a dot

-- what is added of two that may be nothing is the greater
added_of_both : (a b : Option Amounts) → option_map (λ (c : Amounts). c.added) (joined_by joined_amounts a b) ≡ joined_by max (option_map (λ (c : Amounts). c.added) a) (option_map (λ (c : Amounts). c.added) b)
added_of_both None b = refl
added_of_both (Some a) None = refl
added_of_both (Some a) (Some b) = refl

taken_of_both : (a b : Option Amounts) → option_map (λ (c : Amounts). c.taken) (joined_by joined_amounts a b) ≡ joined_by max (option_map (λ (c : Amounts). c.taken) a) (option_map (λ (c : Amounts). c.taken) b)
taken_of_both None b = refl
taken_of_both (Some a) None = refl
taken_of_both (Some a) (Some b) = refl

pub amounts_of_none : AreGreatestOf [] None
amounts_of_none = record { added = contains_none; taken = contains_none }

pub amounts_of_one : (tied : Bool) (amounts : Amounts) → AreGreatestOf (cons_option (cond tied (Some amounts) None) []) (cond tied (Some amounts) None)
amounts_of_one true amounts = record { added = greatest_of_one max_is_greater amounts.added; taken = greatest_of_one max_is_greater amounts.taken }
amounts_of_one false amounts = amounts_of_none

pub amounts_of_both : (xs ys : List Amounts) (a b : Option Amounts) → AreGreatestOf xs a → AreGreatestOf ys b → AreGreatestOf (xs ++ ys) (joined_by joined_amounts a b)
amounts_of_both xs ys a b of_xs of_ys =
    let Added : Amounts → ℕ = λ c. c.added in
    let Taken : Amounts → ℕ = λ c. c.taken in
    record {
      added = subst₂ (IsGreatest ◌≤◌) (sym (map-append Added xs ys)) (sym (added_of_both a b)) (greatest_of_both max_is_greater (map Added xs) (map Added ys) (option_map Added a) (option_map Added b) of_xs.added of_ys.added);
      taken = subst₂ (IsGreatest ◌≤◌) (sym (map-append Taken xs ys)) (sym (taken_of_both a b)) (greatest_of_both max_is_greater (map Taken xs) (map Taken ys) (option_map Taken a) (option_map Taken b) of_xs.taken of_ys.taken);
    }

pub amounts_by_members : (xs ys : List Amounts) (found : Option Amounts) → SameMembers xs ys → AreGreatestOf xs found → AreGreatestOf ys found
amounts_by_members xs ys found same of_xs =
    let Added : Amounts → ℕ = λ c. c.added in
    let Taken : Amounts → ℕ = λ c. c.taken in
    record {
      added = greatest_by_members ◌≤◌ (map Added xs) (map Added ys) (option_map Added found) (same_map Added xs ys same) of_xs.added;
      taken = greatest_by_members ◌≤◌ (map Taken xs) (map Taken ys) (option_map Taken found) (same_map Taken xs ys same) of_xs.taken;
    }

-- both amounts tell what is found
parts_tell : (a b : Option Amounts) → option_map (λ (c : Amounts). c.added) a ≡ option_map (λ (c : Amounts). c.added) b → option_map (λ (c : Amounts). c.taken) a ≡ option_map (λ (c : Amounts). c.taken) b → a ≡ b
parts_tell None None added taken = refl
parts_tell None (Some b) added taken = absurd (cc)
parts_tell (Some a) None added taken = absurd (cc)
parts_tell (Some a) (Some b) added taken =
    let same_added : a.added ≡ b.added = ap (λ found. unwrap_or found a.added) added in
    let same_taken : a.taken ≡ b.taken = ap (λ found. unwrap_or found a.taken) taken in
    λ i. Some (record { added = same_added i; taken = same_taken i })

amounts_are_single : (xs : List Amounts) (a b : Option Amounts) → AreGreatestOf xs a → AreGreatestOf xs b → a ≡ b
amounts_are_single xs a b of_a of_b =
    let Added : Amounts → ℕ = λ c. c.added in
    let Taken : Amounts → ℕ = λ c. c.taken in
    parts_tell a b (greatest_is_single max_is_greater (map Added xs) (option_map Added a) (option_map Added b) of_a.added of_b.added) (greatest_is_single max_is_greater (map Taken xs) (option_map Taken a) (option_map Taken b) of_a.taken of_b.taken)

-- ---- counters

-- what one put adds or takes fits
pub amounts_fit : (plus : Bool) (amount : ℕ) → amount < 2 ^ 32 → AreAmounts (amounts_of plus amount)
amounts_fit true amount fits = record { added_fits = fits; taken_fits = omega arith }
amounts_fit false amount fits = record { added_fits = omega arith; taken_fits = fits }

pub counter_of_none : IsCounterOf (λ dot. []) []
counter_of_none = (record { ascending = refl; are_entries = All-nil (IsEntry IsDot AreAmounts) }, λ dot. amounts_of_none)

pub counter_of_one : (dot : Dot) (amounts : Amounts) → IsDot dot → AreAmounts amounts → IsCounterOf (λ q. cons_option (cond (eq_by_cmp dot_cmp q dot) (Some amounts) None) []) ((dot, amounts) ∷ [])
counter_of_one dot amounts is_dot are = (
  record { ascending = refl; are_entries = All-cons (IsEntry IsDot AreAmounts) (dot, amounts) [] (is_dot, are) (All-nil (IsEntry IsDot AreAmounts)) },
  λ q. amounts_of_one (eq_by_cmp dot_cmp q dot) amounts,
)

pub counter_of_both : (xs ys : Dot → List Amounts) (a b : List (Dot × Amounts)) → IsCounterOf xs a → IsCounterOf ys b → IsCounterOf (λ dot. xs dot ++ ys dot) (joined_sums a b)
counter_of_both xs ys a b of_xs of_ys = (
  (sums_laws.closed a b of_xs.0 of_ys.0 tt).0,
  λ dot. subst (AreGreatestOf (xs dot ++ ys dot)) (sym (find-joined_maps joined_amounts dot_total dot a b of_ys.0.ascending)) (amounts_of_both (xs dot) (ys dot) (find dot_cmp dot a) (find dot_cmp dot b) (of_xs.1 dot) (of_ys.1 dot)),
)

pub counter_is_single : (xs : Dot → List Amounts) (a b : List (Dot × Amounts)) → IsCounterOf xs a → IsCounterOf xs b → a ≡ b
counter_is_single xs a b of_a of_b =
    same_from_keys dot_total dot_exact IsDot amounts_laws (λ _ _. tt) a b of_a.0 of_b.0 (λ dot. amounts_are_single (xs dot) (find dot_cmp dot a) (find dot_cmp dot b) (of_a.1 dot) (of_b.1 dot))

-- ---- what the removes had seen

-- an insert that is there is of a put, and puts are numbered from 1
number_some : (set : PlainDotSet) → IsDotSet set → (q : Insert) → has insert_cmp q set.inserts ≡ true → 0 < q.dot.number
number_some set is q there = omega (arith, leb-false q.dot.number (count_of q.dot.session (seen_at q.word set.removals)) (there_unseen set is q there))

-- a clock of all that some clocks have counts a put where one of them does
counted_by_none : (seen : List (List (ℕ × ℕ))) (clock : List (ℕ × ℕ)) (dot : Dot) → IsGreatestOrZero (map (count_of dot.session) seen) (count_of dot.session clock) → counts clock dot ≡ false → (one : List (ℕ × ℕ)) → Contains seen one → counts one dot ≡ false
counted_by_none seen clock dot greatest none one has =
    let below : count_of dot.session one ≤ count_of dot.session clock = greatest.0 (count_of dot.session one) (contains_map (count_of dot.session) seen one has) in
    lt-leb dot.number (count_of dot.session one) (omega (arith, below, leb-false dot.number (count_of dot.session clock) none))

not_counted : (seen : List (List (ℕ × ℕ))) (clock : List (ℕ × ℕ)) (dot : Dot) → IsGreatestOrZero (map (count_of dot.session) seen) (count_of dot.session clock) → 0 < dot.number → ((one : List (ℕ × ℕ)) → Contains seen one → counts one dot ≡ false) → counts clock dot ≡ false
not_counted seen clock dot greatest some none =
    elim greatest.1 [
      | inl there ↦
          let from = contains_mapped (count_of dot.session) seen (count_of dot.session clock) there in
          ap (nat_le dot.number) (sym from.2) ∙ none from.0 from.1
      | inr zero ↦ lt-leb dot.number (count_of dot.session clock) (omega (arith, zero, some))
    ]

-- ---- sets with removal

pub orset_of_none : IsOrSetOf [] (λ word. []) no_inserts
orset_of_none = record {
  is_set = record { inserts = (set_of_none insert_total insert_exact IsInsert).0; removals = record { ascending = refl; are_entries = All-nil (IsEntry IsWord IsSomeClock) }; unseen = All-nil (λ insert. is_seen [] insert ≡ false) };
  inserts = λ q. (λ there. absurd (false≢true there), λ is. absurd (contains_none q is.0));
  removals = λ word session. greatest_or_zero_of_none;
}

pub orset_of_insert : (insert : Insert) → IsInsert insert → 0 < insert.dot.number → IsOrSetOf (insert ∷ []) (λ word. []) (one_insert insert.word insert.dot)
orset_of_insert insert is some =
    let of_one = set_of_one insert_total insert_exact IsInsert insert is in
    record {
      is_set = record {
        inserts = of_one.0;
        removals = record { ascending = refl; are_entries = All-nil (IsEntry IsWord IsSomeClock) };
        unseen = All-cons (λ insert. is_seen [] insert ≡ false) insert [] (lt-leb insert.dot.number 0 some) (All-nil (λ insert. is_seen [] insert ≡ false));
      };
      inserts = λ q. (λ there. ((of_one.1 q).0 there, λ one has. absurd (contains_none one has)), λ there. (of_one.1 q).1 there.0);
      removals = λ word session. greatest_or_zero_of_none;
    }

-- the removals of one remove
removals_of_one : (word : List ℕ) (seen : List (ℕ × ℕ)) → IsWord word → IsClock seen → AreRemovals (removal_of word seen)
removals_of_one word [] is_word is_clock = record { ascending = refl; are_entries = All-nil (IsEntry IsWord IsSomeClock) }
removals_of_one word (entry ∷ seen) is_word is_clock = record { ascending = refl; are_entries = All-cons (IsEntry IsWord IsSomeClock) (word, entry ∷ seen) [] (is_word, (is_clock, omega arith)) (All-nil (IsEntry IsWord IsSomeClock)) }

-- what they have of a word
seen_of_one : (tied : Bool) (seen : List (ℕ × ℕ)) (session : ℕ) → IsGreatestOrZero (map (count_of session) (cons_option (cond tied (Some seen) None) [])) (count_of session (unwrap_or (cond tied (Some seen) None) []))
seen_of_one true seen session = greatest_or_zero_of_one (count_of session seen)
seen_of_one false seen session = greatest_or_zero_of_none

seen_in_one : (q word : List ℕ) (seen : List (ℕ × ℕ)) → seen_at q (removal_of word seen) ≡ unwrap_or (cond (eq_by_cmp word_cmp q word) (Some seen) None) []
seen_in_one q word [] = elim (eq_by_cmp word_cmp q word) as (λ tied. ◌≡◌ {A = List (ℕ × ℕ)} [] (unwrap_or (cond tied (Some []) None) [])) [ true ↦ refl | false ↦ refl ]
seen_in_one q word (entry ∷ seen) = refl

pub orset_of_remove : (word : List ℕ) (seen : List (ℕ × ℕ)) → IsWord word → IsClock seen → IsOrSetOf [] (λ q. cons_option (cond (eq_by_cmp word_cmp q word) (Some seen) None) []) (one_remove word seen)
orset_of_remove word seen is_word is_clock = record {
  is_set = record { inserts = (set_of_none insert_total insert_exact IsInsert).0; removals = removals_of_one word seen is_word is_clock; unseen = All-nil (λ insert. is_seen (removal_of word seen) insert ≡ false) };
  inserts = λ q. (λ there. absurd (false≢true there), λ is. absurd (contains_none q is.0));
  removals = λ q session. subst (λ clock. IsGreatestOrZero (map (count_of session) (cons_option (cond (eq_by_cmp word_cmp q word) (Some seen) None) [])) (count_of session clock)) (sym (seen_in_one q word seen)) (seen_of_one (eq_by_cmp word_cmp q word) seen session);
}

pub orset_of_both : (xs ys : List Insert) (of_xs of_ys : List ℕ → List (List (ℕ × ℕ))) (a b : PlainDotSet) → IsOrSetOf xs of_xs a → IsOrSetOf ys of_ys b → IsOrSetOf (xs ++ ys) (λ word. of_xs word ++ of_ys word) (joined_dot_sets a b)
orset_of_both xs ys of_xs of_ys a b va vb =
    let joined = joined_removals a.removals b.removals in
    let seen : (word : List ℕ) (session : ℕ) → IsGreatestOrZero (map (count_of session) (of_xs word ++ of_ys word)) (count_of session (seen_at word joined)) =
    λ word session.
    let numbers = map-append (count_of session) (of_xs word) (of_ys word) in
    let count : count_of session (seen_at word joined) ≡ max (count_of session (seen_at word a.removals)) (count_of session (seen_at word b.removals)) =
    ap (count_of session) (seen-joined word a.removals b.removals va.is_set.removals vb.is_set.removals) ∙ count-joined session (seen_at word a.removals) (seen_at word b.removals) (seen_is_clock word a.removals va.is_set.removals) (seen_is_clock word b.removals vb.is_set.removals) in
    subst₂ IsGreatestOrZero (sym numbers) (sym count) (greatest_or_zero_of_both (map (count_of session) (of_xs word)) (map (count_of session) (of_ys word)) (count_of session (seen_at word a.removals)) (count_of session (seen_at word b.removals)) (va.removals word session) (vb.removals word session)) in
    record {
      is_set = (dot_set_laws.closed a b va.is_set vb.is_set tt).0;
      inserts = λ q.
          let in_a = has insert_cmp q a.inserts in
          let in_b = has insert_cmp q b.inserts in
          let in_join = has-joined a b va.is_set vb.is_set q in
          let all = of_xs q.word ++ of_ys q.word in (
            λ there.
                let parts = and_parts (not (is_seen joined q)) (in_a || in_b) (sym in_join ∙ there) in (
                  elim (or_cases in_a in_b parts.1) [
                    | inl first ↦ Contains-append_left xs ys q ((va.inserts q).0 first).0
                    | inr second ↦ Contains-append_right xs ys q ((vb.inserts q).0 second).0
                  ],
                  counted_by_none all (seen_at q.word joined) q.dot (seen q.word q.dot.session) (not-true (is_seen joined q) parts.0),
                ),
            λ is.
                let unseen : 0 < q.dot.number → is_seen joined q ≡ false = λ some. not_counted all (seen_at q.word joined) q.dot (seen q.word q.dot.session) some is.1 in
                elim (Contains-append_cases xs ys q is.0) [
                  | inl first ↦
                      let there = (va.inserts q).1 (first, λ one has. is.1 one (Contains-append_left (of_xs q.word) (of_ys q.word) one has)) in
                      in_join ∙ and_from (not (is_seen joined q)) (in_a || in_b) (not_from_false (is_seen joined q) (unseen (number_some a va.is_set q there))) (or_left in_a in_b there)
                  | inr second ↦
                      let there = (vb.inserts q).1 (second, λ one has. is.1 one (Contains-append_right (of_xs q.word) (of_ys q.word) one has)) in
                      in_join ∙ and_from (not (is_seen joined q)) (in_a || in_b) (not_from_false (is_seen joined q) (unseen (number_some b vb.is_set q there))) (or_right in_a in_b there)
                ],
          );
      removals = seen;
    }

pub orset_by_members : (xs ys : List Insert) (of_xs of_ys : List ℕ → List (List (ℕ × ℕ))) (set : PlainDotSet) → SameMembers xs ys → ((word : List ℕ) → SameMembers (of_xs word) (of_ys word)) → IsOrSetOf xs of_xs set → IsOrSetOf ys of_ys set
orset_by_members xs ys of_xs of_ys set same also is = record {
  is_set = is.is_set;
  inserts = λ q. (
    λ there. let told = (is.inserts q).0 there in ((same q).0 told.0, λ one has. told.1 one ((also q.word one).1 has)),
    λ told. (is.inserts q).1 ((same q).1 told.0, λ one has. told.1 one ((also q.word one).0 has)),
  );
  removals = λ word session. greatest_or_zero_by_members (map (count_of session) (of_xs word)) (map (count_of session) (of_ys word)) (count_of session (seen_at word set.removals)) (same_map (count_of session) (of_xs word) (of_ys word) (also word)) (is.removals word session);
}

pub orset_is_single : (xs : List Insert) (of_xs : List ℕ → List (List (ℕ × ℕ))) (a b : PlainDotSet) → IsOrSetOf xs of_xs a → IsOrSetOf xs of_xs b → a ≡ b
orset_is_single xs of_xs a b va vb =
    same_dot_sets a b
    (same_sets insert_total insert_exact IsInsert a.inserts b.inserts va.is_set.inserts vb.is_set.inserts (λ q. both_ways _ _ (λ in_a. (vb.inserts q).1 ((va.inserts q).0 in_a)) (λ in_b. (va.inserts q).1 ((vb.inserts q).0 in_b))))
    (same_values spelled_total spelled_exact IsWord some_clock_laws (λ _ _. tt) empty_is_bottom a.removals b.removals va.is_set.removals vb.is_set.removals (λ word.
    same_counts (seen_at word a.removals) (seen_at word b.removals) (seen_is_clock word a.removals va.is_set.removals) (seen_is_clock word b.removals vb.is_set.removals) (λ session.
    greatest_or_zero_is_single (map (count_of session) (of_xs word)) (count_of session (seen_at word a.removals)) (count_of session (seen_at word b.removals)) (va.removals word session) (vb.removals word session))))
