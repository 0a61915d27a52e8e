-- What loops over inserts keep, and what a join of sets has.
use Rattle.std.specs.Prelude.{◌≡◌, ◌↔◌, ℕ, zero, suc, nat_le, ◌+◌, ◌<◌, ◌≤◌, Bool, true, false, not, ◌&&◌, ◌||◌, IsTrue, List, [], ◌∷◌, ◌++◌, length, take, drop, slice_get, get_or, Some, None, All}
use Rattle.std.specs.List.{filter, list_all, list_any}
use Rattle.std.specs.Ordering.{is_eq, ordering_reverse, ordering_then, eq_by_cmp}
use Rattle.std.specs.declared.cmp.Ordering.{Ordering}
use Rattle.std.specs.declared.cmp.Ordering.TheVariants.{Less, Equal, Greater}
use Rattle.std.specs.FinMap.{find, is_sorted}
use Rattle.std.specs.FinMap.Entries.{below_all}
use Rattle.std.specs.Cmp.{alike_right, tied_back}
use Rattle.std.specs.Cmp.Derive.{both_true}
use Rattle.std.proofs.Common.{refl, sym, ap, subst, ◌∙◌, inl, inr, arith}
use Rattle.std.proofs.lemmas.Bool.{cases_Bool, false≢true, true≢false, le-leb, leb-true, and_parts, not-true, not_from_false}
use Rattle.std.proofs.lemmas.List.{append-nil, map-id, take_more, take-append-drop}
use Rattle.std.proofs.lemmas.List.Elements.{All-weaker, filter-append, filter_passes}
use Rattle.std.proofs.lemmas.List.Folds.{list_any-append, list_any_at, list_all_at, list_all_more}
use Rattle.std.proofs.lemmas.List.Sums.{AllPass-from_list_all, list_all-from_AllPass}
use Rattle.std.proofs.lemmas.Option.{same_Some, slice_get_within, get_or_from_slice_get}
use Rattle.lattice_laws.proofs.ListLemmas.{All-front, filter_all}
use Rattle.lattice_laws.proofs.AscendingLemmas.{Greater_from_Less, Less_from_Greater, below_through}
use Rattle.lattice_laws.specs.Ascending.{find_below, first_below, ascending_tail, below_first, below_others, below_cons}
use Rattle.lattice_laws.specs.Entries.{IsPushed, plain_entries}
use Rattle.lattice_laws.specs.Sets.{as_map, IsSet, has, united}
use Rattle.lattice_laws.specs.SpellingLaws.{spelled_total}
use Rattle.lattice_laws.specs.SetsLaws.{united_is_set, has-united, filter_is_set, has-filter, same_sets}
use Rattle.basic_lattices.specs.Word.{word_cmp}
use Rattle.clock_lattice.specs.Clock.{count_of}
use Rattle.dot_lattices.specs.Dot.{dot_cmp}
use Rattle.dot_lattices.specs.DotSet.{PlainDotSet, AreLesser, seen_at, is_seen, unseen_by, IsDotSet, joined_removals, joined_dot_sets}
use Rattle.dot_lattices.specs.DotSetLaws.{has-joined, is_seen-joined, kept_unseen, unseen_is_set, same_dot_sets}
use Rattle.dot_lattices.specs.Insert.{insert_cmp, IsInsert}
use Rattle.dot_lattices.specs.InsertLaws.{insert_total, insert_exact}
use Rattle.dot_lattices.specs.declared.insert.Insert.{Insert}

-- ---- loops over the places of a list

module _ {X : Type 0} (test : X → Bool) (xs : List X) (i : ℕ) (x : X) (here : Some x ≡ slice_get xs i) where
  within : i < length xs
  within = slice_get_within xs i x (sym here)

  is : get_or xs i x ≡ x
  is = get_or_from_slice_get xs i x x (sym here)

  -- one that passes is there
  pub any_here : test x ≡ true → true ≡ list_any test xs
  any_here passes = sym (list_any_at test xs i x within (ap test is ∙ passes))

  -- one that fails is there
  pub not_all : test x ≡ false → false ≡ list_all test xs
  not_all fails = sym (list_all_at test xs i x within (ap test is ∙ fails))

  -- all pass so far
  pub all_yet : list_all test (take i xs) ≡ true → test x ≡ true → list_all test (take (i + 1) xs) ≡ true
  all_yet all passes = list_all_more test xs i x within ∙ (λ j. all j && (ap test is ∙ passes) j)

  one_more : take (i + 1) xs ≡ take i xs ++ x ∷ []
  one_more = take_more xs i x within ∙ ap (λ x. take i xs ++ x ∷ []) is

  -- one that fails is left out
  pub left_out : test x ≡ false → filter test (take i xs) ≡ filter test (take (i + 1) xs)
  left_out fails =
      let none : filter test (x ∷ []) ≡ [] = rw fails refl in
      sym (ap (filter test) one_more ∙ filter-append test (take i xs) (x ∷ []) ∙ ap (λ last. filter test (take i xs) ++ last) none ∙ append-nil (filter test (take i xs)))

  -- one that passes comes last
  pub comes_last : test x ≡ true → filter test (take i xs) ++ x ∷ [] ≡ filter test (take (i + 1) xs)
  comes_last passes =
      let one : filter test (x ∷ []) ≡ x ∷ [] = rw passes refl in
      sym (ap (filter test) one_more ∙ filter-append test (take i xs) (x ∷ []) ∙ ap (λ last. filter test (take i xs) ++ last) one)

-- ---- a search by halves

-- no insert of these is of the word
abbrev pub none_of : List ℕ → List Insert → Type 0
none_of word inserts = list_any (λ insert. eq_by_cmp word_cmp word insert.word) inserts ≡ false

-- an insert below all is below each
below_at : (x : Insert) (ys : List Insert) (i : ℕ) (y : Insert) → IsTrue (below_all insert_cmp x (as_map ys)) → slice_get ys i ≡ Some y → insert_cmp x y ≡ Less
below_at x [] i y below here = absurd (cc)
below_at x (z ∷ ys) zero y below here = subst (λ y. insert_cmp x y ≡ Less) (cc) (below_first insert_cmp x (z, tt) (as_map ys) below)
below_at x (z ∷ ys) (suc i) y below here = below_at x ys i y (below_others insert_cmp x (z, tt) (as_map ys) below) here

-- of inserts in order, the one before is the lesser
in_order : (xs : List Insert) (i q : ℕ) (x y : Insert) → IsTrue (is_sorted insert_cmp (as_map xs)) → i < q → slice_get xs i ≡ Some x → slice_get xs q ≡ Some y → insert_cmp x y ≡ Less
in_order [] i q x y rises less here there = absurd (cc)
in_order (z ∷ xs) i zero x y rises less here there = absurd (omega (arith, less))
in_order (z ∷ xs) zero (suc q) x y rises less here there = below_at x xs q y (subst (λ x. IsTrue (below_all insert_cmp x (as_map xs))) (same_Some z x here) (first_below insert_cmp (z, tt) (as_map xs) rises)) there
in_order (z ∷ xs) (suc i) (suc q) x y rises less here there = in_order xs i q x y (ascending_tail insert_cmp (z, tt) (as_map xs) rises) (omega (arith, less)) here there

-- what is lesser than the word of an insert is lesser than those after it
lesser_by : (r : Ordering) (x y : Insert) (word : List ℕ) → word_cmp x.word y.word ≡ r → ordering_then r (dot_cmp x.dot y.dot) ≡ Less → word_cmp word x.word ≡ Less → word_cmp word y.word ≡ Less
lesser_by Less x y word is before less = spelled_total.trans word x.word y.word less is
lesser_by Equal x y word is before less = sym (alike_right spelled_total x.word y.word word is) ∙ less
lesser_by Greater x y word is before less = absurd (cc)

module _ (word : List ℕ) where
  -- an insert of a word on one side is not of the word
  not_less : (x : Insert) → word_cmp x.word word ≡ Less → eq_by_cmp word_cmp word x.word ≡ false
  not_less x less = ap is_eq (spelled_total.antisymm word x.word ∙ ap ordering_reverse less)

  not_greater : (x : Insert) → word_cmp x.word word ≡ Greater → eq_by_cmp word_cmp word x.word ≡ false
  not_greater x greater = ap is_eq (spelled_total.antisymm word x.word ∙ ap ordering_reverse greater)

  -- what comes before an insert of a lesser word is of a lesser one
  less_by : (r : Ordering) (x y : Insert) → word_cmp x.word y.word ≡ r → ordering_then r (dot_cmp x.dot y.dot) ≡ Less → word_cmp y.word word ≡ Less → word_cmp x.word word ≡ Less
  less_by Less x y is before less = spelled_total.trans x.word y.word word is less
  less_by Equal x y is before less = spelled_total.congr x.word y.word word is ∙ less
  less_by Greater x y is before less = absurd (cc)

  -- and what comes after one of a greater word is of a greater one
  greater_by : (r : Ordering) (x y : Insert) → word_cmp x.word y.word ≡ r → ordering_then r (dot_cmp x.dot y.dot) ≡ Less → word_cmp x.word word ≡ Greater → word_cmp y.word word ≡ Greater
  greater_by r x y is before greater =
      Greater_from_Less word_cmp spelled_total word y.word (lesser_by r x y word is before (Less_from_Greater word_cmp spelled_total x.word word greater))

  none_up_to : (xs : List Insert) (i : ℕ) (x : Insert) → IsTrue (is_sorted insert_cmp (as_map xs)) → slice_get xs i ≡ Some x → word_cmp x.word word ≡ Less → none_of word (take (suc i) xs)
  none_up_to [] i x rises here less = refl
  none_up_to (y ∷ ys) zero x rises here less =
      let is : x ≡ y = cc in
      let first = not_less y (ap (λ (x : Insert). word_cmp x.word word) (sym is) ∙ less) in
      λ j. first j || false
  none_up_to (y ∷ ys) (suc i) x rises here less =
      let before = below_at y ys i x (first_below insert_cmp (y, tt) (as_map ys) rises) here in
      let first = not_less y (less_by (word_cmp y.word x.word) y x refl before less) in
      let others = none_up_to ys i x (ascending_tail insert_cmp (y, tt) (as_map ys) rises) here less in
      λ j. first j || others j

  none_above : (x : Insert) (ys : List Insert) → IsTrue (below_all insert_cmp x (as_map ys)) → word_cmp x.word word ≡ Greater → none_of word ys
  none_above x [] below greater = refl
  none_above x (y ∷ ys) below greater =
      let first = not_greater y (greater_by (word_cmp x.word y.word) x y refl (below_first insert_cmp x (y, tt) (as_map ys) below) greater) in
      let others = none_above x ys (below_others insert_cmp x (y, tt) (as_map ys) below) greater in
      λ j. first j || others j

  -- no insert from one of a greater word on is of the word
  pub none_from : (xs : List Insert) (i : ℕ) (x : Insert) → IsTrue (is_sorted insert_cmp (as_map xs)) → slice_get xs i ≡ Some x → word_cmp x.word word ≡ Greater → none_of word (drop i xs)
  none_from [] i x rises here greater = absurd (cc)
  none_from (y ∷ ys) zero x rises here greater =
      let same : x ≡ y = cc in
      let is : word_cmp y.word word ≡ Greater = ap (λ (x : Insert). word_cmp x.word word) (sym same) ∙ greater in
      λ j. not_greater y is j || none_above y ys (first_below insert_cmp (y, tt) (as_map ys) rises) is j
  none_from (y ∷ ys) (suc i) x rises here greater = none_from ys i x (ascending_tail insert_cmp (y, tt) (as_map ys) rises) here greater

  -- nor up to one of a lesser word
  pub none_to : (xs : List Insert) (i : ℕ) (x : Insert) → IsTrue (is_sorted insert_cmp (as_map xs)) → slice_get xs i ≡ Some x → word_cmp x.word word ≡ Less → none_of word (take (i + 1) xs)
  none_to xs i x rises here less = let next : suc i ≡ i + 1 = omega arith in subst (λ n. none_of word (take n xs)) next (none_up_to xs i x rises here less)

  -- where the two sides meet, none is
  pub none_at_all : (xs : List Insert) (low high : ℕ) → high ≤ low → low ≤ high → none_of word (take low xs) → none_of word (drop high xs) → none_of word xs
  none_at_all xs low high met kept passed left =
      let test : Insert → Bool = λ insert. eq_by_cmp word_cmp word insert.word in
      let at : low ≡ high = omega (arith, met, kept) in
      sym (ap (list_any test) (take-append-drop high xs)) ∙ list_any-append test (take high xs) (drop high xs) ∙ (λ j. subst (λ n. none_of word (take n xs)) at passed j || left j)

-- ---- removals passed in order

-- plain entries of clocks are the entries
pub plain_same : (removals : List (List ℕ × List (ℕ × ℕ))) → plain_entries (λ clock. clock) removals ≡ removals
plain_same removals = map-id removals

module _ (word : List ℕ) where
  -- an entry of a lesser word is passed
  passed : (removal : List ℕ × List (ℕ × ℕ)) (removals : List (List ℕ × List (ℕ × ℕ))) → word_cmp removal.0 word ≡ Less → find word_cmp word (removal ∷ removals) ≡ find word_cmp word removals
  passed removal removals less =
      let is : word_cmp word removal.0 ≡ Greater = Greater_from_Less word_cmp spelled_total removal.0 word less in
      rw is refl

  -- what is left of lesser ones once one is passed
  lesser_left : (removal : List ℕ × List (ℕ × ℕ)) (removals : List (List ℕ × List (ℕ × ℕ))) (place : ℕ) → AreLesser word (suc place) (removal ∷ removals) → AreLesser word place removals
  lesser_left removal removals place lesser k other low here = lesser (suc k) other (omega (arith, low)) here

  -- After lesser words a word is found at the place of its own,
  pub found_there : (removals : List (List ℕ × List (ℕ × ℕ))) (place : ℕ) (removal : List ℕ × List (ℕ × ℕ)) → AreLesser word place removals → slice_get removals place ≡ Some removal → word_cmp removal.0 word ≡ Equal
      → Some removal.1 ≡ find word_cmp word removals
  found_there [] place removal lesser here ties = absurd (cc)
  found_there (first ∷ removals) zero removal lesser here ties =
      let same : first ≡ removal = same_Some first removal here in
      let is : word_cmp word first.0 ≡ Equal = tied_back spelled_total first.0 word (ap (λ (r : List ℕ × List (ℕ × ℕ)). word_cmp r.0 word) same ∙ ties) in
      let found : find word_cmp word (first ∷ removals) ≡ Some first.1 = rw is refl in
      sym (found ∙ ap (λ (r : List ℕ × List (ℕ × ℕ)). Some r.1) same)
  found_there (first ∷ removals) (suc place) removal lesser here ties =
      found_there removals place removal (lesser_left first removals place lesser) here ties ∙ sym (passed first removals (lesser 0 first (omega arith) refl))

  -- and nowhere where a greater word stands there,
  pub found_past : (removals : List (List ℕ × List (ℕ × ℕ))) (place : ℕ) (removal : List ℕ × List (ℕ × ℕ)) → IsTrue (is_sorted word_cmp removals) → AreLesser word place removals → slice_get removals place ≡ Some removal
      → word_cmp removal.0 word ≡ Greater → None ≡ find word_cmp word removals
  found_past [] place removal rises lesser here greater = refl
  found_past (first ∷ removals) zero removal rises lesser here greater =
      let same : first ≡ removal = same_Some first removal here in
      let is : word_cmp word first.0 ≡ Less = Less_from_Greater word_cmp spelled_total first.0 word (ap (λ (r : List ℕ × List (ℕ × ℕ)). word_cmp r.0 word) same ∙ greater) in
      let found : find word_cmp word (first ∷ removals) ≡ None = rw is (find_below word_cmp word removals (below_through word_cmp spelled_total word first.0 removals is (first_below word_cmp first removals rises))) in
      sym found
  found_past (first ∷ removals) (suc place) removal rises lesser here greater =
      found_past removals place removal (ascending_tail word_cmp first removals rises) (lesser_left first removals place lesser) here greater ∙ sym (passed first removals (lesser 0 first (omega arith) refl))

  -- or nothing does.
  pub found_nowhere : (removals : List (List ℕ × List (ℕ × ℕ))) (place : ℕ) → length removals ≤ place → AreLesser word place removals → None ≡ find word_cmp word removals
  found_nowhere [] place all lesser = refl
  found_nowhere (first ∷ removals) zero all lesser = absurd (omega (arith, all))
  found_nowhere (first ∷ removals) (suc place) all lesser =
      found_nowhere removals place (omega (arith, all)) (lesser_left first removals place lesser) ∙ sym (passed first removals (lesser 0 first (omega arith) refl))

-- the removals that are lesser than one insert are lesser than all after it
pub lesser_later : (inserts : List Insert) (removals : List (List ℕ × List (ℕ × ℕ))) (i q place : ℕ) (x y : Insert) → IsTrue (is_sorted insert_cmp (as_map inserts)) → i < q → slice_get inserts i ≡ Some x → slice_get inserts q ≡ Some y
    → AreLesser x.word place removals → AreLesser y.word place removals
lesser_later inserts removals i q place x y rises less here there lesser k removal low is =
    lesser_by (word_cmp x.word y.word) x y removal.0 refl (in_order inserts i q x y rises less here there) (lesser k removal low is)

-- ---- an item added after others

module _ {K : Type 0} (cmp : K → K → Ordering) where
  -- what is below all is below all of the first
  below_front : (key : K) (xs ys : List K) → IsTrue (below_all cmp key (as_map (xs ++ ys))) → IsTrue (below_all cmp key (as_map xs))
  below_front key [] ys h = refl
  below_front key (x ∷ xs) ys h =
      below_cons cmp key (x, tt) (as_map xs) (below_first cmp key (x, tt) (as_map (xs ++ ys)) h) (below_front key xs ys (below_others cmp key (x, tt) (as_map (xs ++ ys)) h))

  front_rises : (xs ys : List K) → IsTrue (is_sorted cmp (as_map (xs ++ ys))) → IsTrue (is_sorted cmp (as_map xs))
  front_rises [] ys h = refl
  front_rises (x ∷ xs) ys h =
      both_true (below_front x xs ys (first_below cmp (x, tt) (as_map (xs ++ ys)) h)) (front_rises xs ys (ascending_tail cmp (x, tt) (as_map (xs ++ ys)) h))

  -- the first members of a set are a set
  pub set_front : (is_member : K → Type 0) (xs ys : List K) → IsSet cmp is_member (xs ++ ys) → IsSet cmp is_member xs
  set_front is_member xs ys set = record { ascending = front_rises xs ys set.ascending; are_members = All-front is_member xs ys set.are_members }

-- an item that has its form after the others was added
pub was_pushed : {X : Type 0} (HasForm : List X → Type 0) (old : List X) (item : X) (new : List X) (answer : Bool) → IsPushed HasForm old item new answer → HasForm (old ++ item ∷ []) → new ≡ old ++ item ∷ []
was_pushed HasForm old item new true pushed form = pushed
was_pushed HasForm old item new false pushed form = absurd (pushed.1 form)

-- the next insert that had not been seen
pub next_unseen : (removals : List (List ℕ × List (ℕ × ℕ))) (inserts : List Insert) (i : ℕ) (insert item : Insert) (old new : List Insert) (answer : Bool) → IsSet insert_cmp IsInsert inserts → Some insert ≡ slice_get inserts i → is_seen removals insert ≡ false → old ≡ unseen_by removals (take i inserts) → item ≡ insert
    → IsPushed (IsSet insert_cmp IsInsert) old item new answer → new ≡ unseen_by removals (take (i + 1) inserts)
next_unseen removals inserts i insert item old new answer set here unseen so same pushed =
    let test : Insert → Bool = λ insert. not (is_seen removals insert) in
    let more : old ++ item ∷ [] ≡ unseen_by removals (take (i + 1) inserts) = (λ j. so j ++ same j ∷ []) ∙ comes_last test inserts i insert here (not_from_false (is_seen removals insert) unseen) in
    let front = set_front insert_cmp IsInsert (take (i + 1) inserts) (drop (i + 1) inserts) (subst (IsSet insert_cmp IsInsert) (sym (take-append-drop (i + 1) inserts)) set) in
    was_pushed (IsSet insert_cmp IsInsert) old item new answer pushed (subst (IsSet insert_cmp IsInsert) (sym more) (unseen_is_set removals (take (i + 1) inserts) front)) ∙ more

-- ---- a join in parts

-- what is there had not been seen
pub there_unseen : (set : PlainDotSet) → IsDotSet set → (q : Insert) → has insert_cmp q set.inserts ≡ true → is_seen set.removals q ≡ false
there_unseen set is q there =
    let test : Insert → Bool = λ insert. not (is_seen set.removals insert) in
    let kept : (test q && has insert_cmp q set.inserts) ≡ true = sym (has-filter insert_exact q test set.inserts) ∙ ap (has insert_cmp q) (kept_unseen set.removals set.inserts is.unseen) ∙ there in
    not-true (is_seen set.removals q) (and_parts (test q) (has insert_cmp q set.inserts) kept).0

-- what neither had seen of both is what each had not seen of the other's
apart : (s t x y : Bool) → (x ≡ true → s ≡ false) → (y ≡ true → t ≡ false) → (not (s || t) && (x || y)) ≡ ((not t && x) || (not s && y))
apart true t true y of_x of_y = absurd (false≢true (sym (of_x refl)))
apart true true false y of_x of_y = refl
apart true false false y of_x of_y = refl
apart false true x true of_x of_y = absurd (false≢true (sym (of_y refl)))
apart false true x false of_x of_y = refl
apart false false x y of_x of_y = refl

-- The inserts of a join are those of each set that the removes of the other had not seen.
pub joined_apart : (a b : PlainDotSet) → IsDotSet a → IsDotSet b → united insert_cmp (unseen_by b.removals a.inserts) (unseen_by a.removals b.inserts) ≡ (joined_dot_sets a b).inserts
joined_apart a b va vb =
    let of_a = unseen_is_set b.removals a.inserts va.inserts in
    let of_b = unseen_is_set a.removals b.inserts vb.inserts in
    same_sets insert_total insert_exact IsInsert _ _ (united_is_set insert_total insert_exact IsInsert _ _ of_a of_b) (unseen_is_set (joined_removals a.removals b.removals) (united insert_cmp a.inserts b.inserts) (united_is_set insert_total insert_exact IsInsert a.inserts b.inserts va.inserts vb.inserts)) (λ q.
    let in_a = has insert_cmp q a.inserts in
    let in_b = has insert_cmp q b.inserts in
    has-united insert_total insert_exact IsInsert (unseen_by b.removals a.inserts) (unseen_by a.removals b.inserts) q of_a of_b
    ∙ (λ j. has-filter insert_exact q (λ insert. not (is_seen b.removals insert)) a.inserts j || has-filter insert_exact q (λ insert. not (is_seen a.removals insert)) b.inserts j)
    ∙ sym (apart (is_seen a.removals q) (is_seen b.removals q) in_a in_b (there_unseen a va q) (there_unseen b vb q))
    ∙ ap (λ seen. not seen && (in_a || in_b)) (sym (is_seen-joined a.removals b.removals q va.removals vb.removals))
    ∙ sym (has-joined a b va vb q))

-- so a set is the join of two where its parts are made of theirs
pub joined_parts : (a b : PlainDotSet) {raw_a raw_b : PlainDotSet} → raw_a ≡ a → raw_b ≡ b → IsDotSet a → IsDotSet b → (set : PlainDotSet) {of_a of_b : List Insert} → set.removals ≡ joined_removals raw_a.removals raw_b.removals
    → of_a ≡ unseen_by raw_b.removals raw_a.inserts → of_b ≡ unseen_by raw_a.removals raw_b.inserts → set.inserts ≡ united insert_cmp of_a of_b → set ≡ joined_dot_sets a b
joined_parts a b is_a is_b va vb set removals from_a from_b inserts =
    same_dot_sets set (joined_dot_sets a b)
    (inserts ∙ (λ j. united insert_cmp ((from_a ∙ (λ k. unseen_by (is_b k).removals (is_a k).inserts)) j) ((from_b ∙ (λ k. unseen_by (is_a k).removals (is_b k).inserts)) j)) ∙ joined_apart a b va vb)
    (removals ∙ (λ j. joined_removals (is_a j).removals (is_b j).removals))

-- a number that a count does not reach is not 0
above_none : (n count : ℕ) → nat_le n count ≡ false → nat_le n 0 ≡ false
above_none n count above = elim (cases_Bool (nat_le n 0)) [
  | inl none ↦ let is = leb-true n 0 none in absurd (true≢false (sym (le-leb n count (omega (arith, is))) ∙ above))
  | inr some ↦ some
]

-- so where there are no removals all inserts of a set are kept
kept_by_none : (a : PlainDotSet) → IsDotSet a → unseen_by [] a.inserts ≡ a.inserts
kept_by_none a va =
    kept_unseen [] a.inserts (All-weaker (λ insert. is_seen a.removals insert ≡ false) (λ insert. is_seen [] insert ≡ false)
    (λ insert unseen. above_none insert.dot.number (count_of insert.dot.session (seen_at insert.word a.removals)) unseen) a.inserts va.unseen)

-- and a set is its join with one without removals where the inserts that its removes had not seen are added to it
pub joined_in_place : (a b : PlainDotSet) {raw_a raw_b : PlainDotSet} → raw_a ≡ a → raw_b ≡ b → IsDotSet a → IsDotSet b → raw_b.removals ≡ [] → (set : PlainDotSet) {of_b : List Insert} → set.removals ≡ raw_a.removals
    → of_b ≡ unseen_by raw_a.removals raw_b.inserts → set.inserts ≡ united insert_cmp raw_a.inserts of_b → set ≡ joined_dot_sets a b
joined_in_place a b is_a is_b va vb none set removals from_b inserts =
    let no_removals : b.removals ≡ [] = ap (λ (set : PlainDotSet). set.removals) (sym is_b) ∙ none in
    let kept : unseen_by b.removals a.inserts ≡ a.inserts = ap (λ removals. unseen_by removals a.inserts) no_removals ∙ kept_by_none a va in
    same_dot_sets set (joined_dot_sets a b)
    (inserts ∙ (λ j. united insert_cmp (is_a j).inserts ((from_b ∙ (λ k. unseen_by (is_a k).removals (is_b k).inserts)) j)) ∙ sym (ap (λ mine. united insert_cmp mine (unseen_by a.removals b.inserts)) kept) ∙ joined_apart a b va vb)
    (removals ∙ ap (λ (set : PlainDotSet). set.removals) is_a ∙ sym (ap (joined_removals a.removals) no_removals))

-- ---- a set below another

-- an insert is in the set, or its removes had seen it
abbrev pub is_known : PlainDotSet → Insert → Bool
is_known set insert = has insert_cmp insert set.inserts || is_seen set.removals insert

-- what is known adds nothing
absorbed : (s x y : Bool) → (y ≡ true → s ≡ false) → (x ≡ true → (y || s) ≡ true) → (not s && (x || y)) ≡ y
absorbed true x true of_y of_x = absurd (false≢true (sym (of_y refl)))
absorbed true x false of_y of_x = refl
absorbed false true true of_y of_x = refl
absorbed false false true of_y of_x = refl
absorbed false true false of_y of_x = absurd (false≢true (of_x refl))
absorbed false false false of_y of_x = refl

-- and what adds nothing is known
known_from : (s x y : Bool) → (not s && (x || y)) ≡ y → x ≡ true → (y || s) ≡ true
known_from s x true adds there = refl
known_from true x false adds there = refl
known_from false x false adds there = absurd (false≢true (sym adds ∙ ap (λ x. x || false) there))

-- what all pass passes each that is there
each_passes : (test : Insert → Bool) (inserts : List Insert) → list_all test inserts ≡ true → (q : Insert) → has insert_cmp q inserts ≡ true → test q ≡ true
each_passes test inserts all q there =
    let kept : (test q && has insert_cmp q inserts) ≡ true = sym (has-filter insert_exact q test inserts) ∙ ap (has insert_cmp q) (filter_all test inserts (AllPass-from_list_all test inserts all)) ∙ there in
    (and_parts (test q) (has insert_cmp q inserts) kept).0

-- and the other way round
all_pass : (test : Insert → Bool) (inserts : List Insert) → IsSet insert_cmp IsInsert inserts → ((q : Insert) → has insert_cmp q inserts ≡ true → test q ≡ true) → list_all test inserts ≡ true
all_pass test inserts set each =
    let all : filter test inserts ≡ inserts = same_sets insert_total insert_exact IsInsert _ _ (filter_is_set insert_cmp IsInsert test inserts set) set (λ q. has-filter insert_exact q test inserts ∙ implied (test q) (has insert_cmp q inserts) (each q)) in
    list_all-from_AllPass test inserts (subst (All (λ insert. test insert ≡ true)) all (filter_passes test inserts))
  where
    implied : (t x : Bool) → (x ≡ true → t ≡ true) → (t && x) ≡ x
    implied true x h = refl
    implied false true h = absurd (false≢true (h refl))
    implied false false h = refl

-- where the removals add nothing, a set adds nothing to another where each of its inserts is known there
pub adds_nothing : (a b : PlainDotSet) → IsDotSet a → IsDotSet b → joined_removals a.removals b.removals ≡ b.removals → IsTrue (list_all (is_known b) a.inserts) ↔ (joined_dot_sets a b ≡ b)
adds_nothing a b va vb removals =
    let joined = joined_dot_sets a b in
    let united_set = united_is_set insert_total insert_exact IsInsert a.inserts b.inserts va.inserts vb.inserts in
    let in_join : (q : Insert) → has insert_cmp q joined.inserts ≡ (not (is_seen b.removals q) && (has insert_cmp q a.inserts || has insert_cmp q b.inserts)) =
    λ q. has-joined a b va vb q ∙ ap (λ removals. not (is_seen removals q) && (has insert_cmp q a.inserts || has insert_cmp q b.inserts)) removals in (
      λ all. same_dot_sets joined b (same_sets insert_total insert_exact IsInsert _ _ (unseen_is_set (joined_removals a.removals b.removals) (united insert_cmp a.inserts b.inserts) united_set) vb.inserts (λ q.
          in_join q ∙ absorbed (is_seen b.removals q) (has insert_cmp q a.inserts) (has insert_cmp q b.inserts) (there_unseen b vb q) (each_passes (is_known b) a.inserts all q))) removals,
      λ same. all_pass (is_known b) a.inserts va.inserts (λ q there.
          known_from (is_seen b.removals q) (has insert_cmp q a.inserts) (has insert_cmp q b.inserts) (sym (in_join q) ∙ ap (λ (set : PlainDotSet). has insert_cmp q set.inserts) same) there),
    )
