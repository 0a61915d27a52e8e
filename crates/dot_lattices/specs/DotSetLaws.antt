-- Sets that observed removes take from are a lattice: a join keeps what one of the two keeps and the removes of neither had seen.
use Rattle.std.specs.Prelude.{◌≡◌, ℕ, nat_le, max, Bool, true, false, not, ◌&&◌, ◌||◌, List, All, ⊤}
use Rattle.std.specs.Cmp.{both_ways}
use Rattle.std.proofs.Common.{sym, ap, ◌∙◌, inl, inr, arith}
use Rattle.std.proofs.lemmas.Bool.{cases_lt, leb-true, le-leb, not-true, not_from_false, or_cases, or_left, or_right, or_parts}
use Rattle.std.proofs.lemmas.List.Elements.{All-weaker, filter_passes}
use Rattle.lattice_laws.proofs.ListLemmas.{filter_all}
use Rattle.lattice_laws.specs.Lattice.{LatticeLaws, Associative}
use Rattle.lattice_laws.specs.EntriesLaws.{found_is_value, map_laws, map_associative}
use Rattle.lattice_laws.specs.Sets.{IsSet, has, united}
use Rattle.lattice_laws.specs.SetsLaws.{set_laws, set_associative, united_is_set, has-united, filter_is_set, filter_after, has-filter}
use Rattle.lattice_laws.specs.SpellingLaws.{spelled_total, spelled_exact}
use Rattle.basic_lattices.specs.Word.{IsWord, word_cmp}
use Rattle.clock_lattice.proofs.NeedsLemmas.{empty_is_bottom}
use Rattle.clock_lattice.specs.Clock.{IsClock, count_of, joined_clocks}
use Rattle.clock_lattice.specs.ClockLaws.{count-joined}
use Rattle.clock_lattice.specs.Needs.{IsSomeClock}
use Rattle.clock_lattice.specs.NeedsLaws.{some_clock_laws, some_clock_associative}
use Rattle.clock_lattice.specs.SparseLaws.{found_any, value_at-joined}
use Rattle.dot_lattices.specs.Dot.{counts}
use Rattle.dot_lattices.specs.DotSet.{PlainDotSet, AreRemovals, seen_at, is_seen, unseen_by, IsDotSet, joined_removals, joined_dot_sets}
use Rattle.dot_lattices.specs.Insert.{insert_cmp, IsInsert}
use Rattle.dot_lattices.specs.InsertLaws.{insert_total, insert_exact}
use Rattle.dot_lattices.specs.declared.dot.Dot.{Dot}
use Rattle.dot_lattices.specs.declared.insert.Insert.{Insert}

-- ---- removals

pub removals_laws : LatticeLaws AreRemovals (λ _ _. ⊤) joined_removals
removals_laws = map_laws spelled_total spelled_exact IsWord some_clock_laws (λ _ _. tt)

pub removals_associative : Associative AreRemovals (λ _ _. ⊤) joined_removals
removals_associative = map_associative spelled_total spelled_exact IsWord some_clock_laws (λ _ _. tt) some_clock_associative

-- what the removes of a word had seen is a clock
pub seen_is_clock : (word : List ℕ) (removals : List (List ℕ × List (ℕ × ℕ))) → AreRemovals removals → IsClock (seen_at word removals)
seen_is_clock word removals are = found_any empty_is_bottom _ (found_is_value word_cmp IsWord IsSomeClock word removals are.are_entries)

-- and those of two sets the join of both
pub seen-joined : (word : List ℕ) (a b : List (List ℕ × List (ℕ × ℕ))) → AreRemovals a → AreRemovals b → seen_at word (joined_removals a b) ≡ joined_clocks (seen_at word a) (seen_at word b)
seen-joined = value_at-joined spelled_total spelled_exact IsWord some_clock_laws (λ _ _. tt) empty_is_bottom

-- ---- what had been seen

-- a number is at most the greater of two where it is at most one of them
le_max : (n x y : ℕ) → nat_le n (max x y) ≡ (nat_le n x || nat_le n y)
le_max n x y =
    both_ways _ _
    (λ h. elim (cases_lt x n) [
      | inl above ↦ or_right (nat_le n x) (nat_le n y) (le-leb n y (omega (arith, leb-true n (max x y) h, above)))
      | inr within ↦ or_left (nat_le n x) (nat_le n y) (le-leb n x within)
    ])
    (λ h. elim (or_cases (nat_le n x) (nat_le n y) h) [
      | inl first ↦ le-leb n (max x y) (omega (arith, leb-true n x first))
      | inr second ↦ le-leb n (max x y) (omega (arith, leb-true n y second))
    ])

-- a join of clocks counts the dots that one of them counts
pub counts-joined : (a b : List (ℕ × ℕ)) (dot : Dot) → IsClock a → IsClock b → counts (joined_clocks a b) dot ≡ (counts a dot || counts b dot)
counts-joined a b dot va vb = ap (nat_le dot.number) (count-joined dot.session a b va vb) ∙ le_max dot.number (count_of dot.session a) (count_of dot.session b)

-- The removes of two sets had seen an insert where those of one of them had.
pub is_seen-joined : (a b : List (List ℕ × List (ℕ × ℕ))) (insert : Insert) → AreRemovals a → AreRemovals b → is_seen (joined_removals a b) insert ≡ (is_seen a insert || is_seen b insert)
is_seen-joined a b insert va vb =
    ap (λ clock. counts clock insert.dot) (seen-joined insert.word a b va vb)
    ∙ counts-joined (seen_at insert.word a) (seen_at insert.word b) insert.dot (seen_is_clock insert.word a va) (seen_is_clock insert.word b vb)

-- so what both had not seen, the first had not
unseen_by_first : (a b : List (List ℕ × List (ℕ × ℕ))) → AreRemovals a → AreRemovals b → (insert : Insert) → not (is_seen (joined_removals a b) insert) ≡ true → not (is_seen a insert) ≡ true
unseen_by_first a b va vb insert h =
    not_from_false (is_seen a insert) (or_parts (is_seen a insert) (is_seen b insert) (sym (is_seen-joined a b insert va vb) ∙ not-true (is_seen (joined_removals a b) insert) h)).0

-- ---- the inserts that are kept

-- An insert is in a join where it is in one of the two sets and the removes of neither had seen it.
pub has-joined : (a b : PlainDotSet) → IsDotSet a → IsDotSet b → (insert : Insert) → has insert_cmp insert (joined_dot_sets a b).inserts ≡ (not (is_seen (joined_removals a.removals b.removals) insert) && (has insert_cmp insert a.inserts || has insert_cmp insert b.inserts))
has-joined a b va vb insert =
    let test : Insert → Bool = λ insert. not (is_seen (joined_removals a.removals b.removals) insert) in
    has-filter insert_exact insert test (united insert_cmp a.inserts b.inserts) ∙ ap (λ b. test insert && b) (has-united insert_total insert_exact IsInsert a.inserts b.inserts insert va.inserts vb.inserts)

-- where no insert had been seen, all are kept
pub kept_unseen : (removals : List (List ℕ × List (ℕ × ℕ))) (inserts : List Insert) → All (λ insert. is_seen removals insert ≡ false) inserts → unseen_by removals inserts ≡ inserts
kept_unseen removals inserts unseen = filter_all (λ insert. not (is_seen removals insert)) inserts (All-weaker (λ insert. is_seen removals insert ≡ false) (λ insert. not (is_seen removals insert) ≡ true) (λ insert h. not_from_false (is_seen removals insert) h) inserts unseen)

-- and those that are kept had not been seen
pub unseen_are : (removals : List (List ℕ × List (ℕ × ℕ))) (inserts : List Insert) → All (λ insert. is_seen removals insert ≡ false) (unseen_by removals inserts)
unseen_are removals inserts =
    All-weaker (λ insert. not (is_seen removals insert) ≡ true) (λ insert. is_seen removals insert ≡ false) (λ insert h. not-true (is_seen removals insert) h) (unseen_by removals inserts) (filter_passes (λ insert. not (is_seen removals insert)) inserts)

pub unseen_is_set : (removals : List (List ℕ × List (ℕ × ℕ))) (inserts : List Insert) → IsSet insert_cmp IsInsert inserts → IsSet insert_cmp IsInsert (unseen_by removals inserts)
unseen_is_set removals inserts is = filter_is_set insert_cmp IsInsert (λ insert. not (is_seen removals insert)) inserts is

-- two sets are one where both parts are
pub same_dot_sets : (a b : PlainDotSet) → a.inserts ≡ b.inserts → a.removals ≡ b.removals → a ≡ b
same_dot_sets a b inserts removals = λ i. record { inserts = inserts i; removals = removals i }

-- what two had not seen of inserts of which those that the first had seen were dropped before
dropped_before : (r s : List (List ℕ × List (ℕ × ℕ))) (x y : List Insert) → AreRemovals r → AreRemovals s → IsSet insert_cmp IsInsert x → IsSet insert_cmp IsInsert y → unseen_by (joined_removals r s) (united insert_cmp (unseen_by r x) y) ≡ unseen_by (joined_removals r s) (united insert_cmp x y)
dropped_before r s x y vr vs is_x is_y = filter_after insert_total insert_exact IsInsert (λ insert. not (is_seen (joined_removals r s) insert)) (λ insert. not (is_seen r insert)) (unseen_by_first r s vr vs) x y is_x is_y

-- ---- the laws

pub dot_set_laws : LatticeLaws IsDotSet (λ _ _. ⊤) joined_dot_sets
dot_set_laws =
    let sets = set_laws insert_total insert_exact IsInsert in
    record {
      fits_itself = λ a va. tt;
      fits_back = λ a b va vb h. tt;
      fits_on = λ a b c va vb vc h i. tt;
      closed = λ a b va vb h. (
        record {
          inserts = unseen_is_set (joined_removals a.removals b.removals) (united insert_cmp a.inserts b.inserts) (united_is_set insert_total insert_exact IsInsert a.inserts b.inserts va.inserts vb.inserts);
          removals = (removals_laws.closed a.removals b.removals va.removals vb.removals tt).0;
          unseen = unseen_are (joined_removals a.removals b.removals) (united insert_cmp a.inserts b.inserts);
        },
        tt,
        tt,
      );
      commutative = λ a b va vb h.
          let removals = removals_laws.commutative a.removals b.removals va.removals vb.removals tt in
          let inserts = sets.commutative a.inserts b.inserts va.inserts vb.inserts tt in
          same_dot_sets (joined_dot_sets a b) (joined_dot_sets b a) (λ i. unseen_by (removals i) (inserts i)) removals;
      idempotent = λ a va.
          let removals = removals_laws.idempotent a.removals va.removals in
          let inserts = sets.idempotent a.inserts va.inserts in
          same_dot_sets (joined_dot_sets a a) a ((λ i. unseen_by (removals i) (inserts i)) ∙ kept_unseen a.removals a.inserts va.unseen) removals;
    }

pub dot_set_associative : Associative IsDotSet (λ _ _. ⊤) joined_dot_sets
dot_set_associative a b c va vb vc h i =
    let sets = set_laws insert_total insert_exact IsInsert in
    let ab = joined_removals a.removals b.removals in
    let bc = joined_removals b.removals c.removals in
    let are_ab = (removals_laws.closed a.removals b.removals va.removals vb.removals tt).0 in
    let are_bc = (removals_laws.closed b.removals c.removals vb.removals vc.removals tt).0 in
    let removals : joined_removals ab c.removals ≡ joined_removals a.removals bc = removals_associative a.removals b.removals c.removals va.removals vb.removals vc.removals tt tt in
    let turned : joined_removals a.removals bc ≡ joined_removals bc a.removals = removals_laws.commutative a.removals bc va.removals are_bc tt in
    let x = united insert_cmp a.inserts b.inserts in
    let y = united insert_cmp b.inserts c.inserts in
    let is_x = united_is_set insert_total insert_exact IsInsert a.inserts b.inserts va.inserts vb.inserts in
    let is_y = united_is_set insert_total insert_exact IsInsert b.inserts c.inserts vb.inserts vc.inserts in
    let inserts : united insert_cmp x c.inserts ≡ united insert_cmp y a.inserts = set_associative insert_total insert_exact IsInsert a.inserts b.inserts c.inserts va.inserts vb.inserts vc.inserts tt tt ∙ sets.commutative a.inserts y va.inserts is_y tt in
    same_dot_sets (joined_dot_sets (joined_dot_sets a b) c) (joined_dot_sets a (joined_dot_sets b c))
    (dropped_before ab c.removals x c.inserts are_ab vc.removals is_x vc.inserts
    ∙ (λ i. unseen_by ((removals ∙ turned) i) (inserts i))
    ∙ sym (dropped_before bc a.removals y a.inserts are_bc va.removals is_y va.inserts)
    ∙ (λ i. unseen_by (sym turned i) (sets.commutative (unseen_by bc y) a.inserts (unseen_is_set bc y is_y) va.inserts tt i)))
    removals
