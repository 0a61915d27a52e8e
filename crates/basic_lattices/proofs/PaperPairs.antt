-- The join of pairs: which side wins, that it is one pair, and its two laws.
use Rattle.std.specs.Prelude.{◌≡◌, ◌≢◌, ◌↔◌, ◌<◌, ◌^◌, ℕ, Bool, true, false, List, [], ◌∷◌, length, ⊤}
use mathlib.Core.Bool.{beq}
use Rattle.std.proofs.Common.{refl, sym, ap, subst, ◌∙◌, inl, inr, arith}
use Rattle.std.specs.Cmp.{nat_cmp_total}
use Rattle.std.specs.FinMap.{nat_cmp-IsAntisymmetric}
use Rattle.lattice_laws.specs.Lattice.{LatticeLaws}
use Rattle.lattice_laws.specs.EntriesLaws.{map_laws}
use Rattle.lattice_laws.specs.GreatestLaws.{max_laws}
use Rattle.basic_lattices.specs.TextSet.{united}
use Rattle.basic_lattices.specs.TextSetLaws.{set_laws}
use Rattle.basic_lattices.specs.PaperPair.{PlainPair, IsClock, IsPair, joined_clocks, IsBelow, both_joined, IsPaperJoin, PartFromOrder, first_pair, second_pair, third_pair, one_part, other_part}

-- clocks keep the laws of maps
clock_laws : LatticeLaws IsClock (λ _ _. ⊤) joined_clocks
clock_laws = map_laws nat_cmp_total nat_cmp-IsAntisymmetric (λ session. session < 2 ^ 16) (max_laws (λ count. count < 2 ^ 64)) (λ _ _. tt)

-- two clocks that are each at most the other are one
same_clock : (a b : List (ℕ × ℕ)) → IsClock a → IsClock b → joined_clocks a b ≡ b → joined_clocks b a ≡ a → a ≡ b
same_clock a b ma mb ab ba = sym ba ∙ clock_laws.commutative b a mb ma tt ∙ ab

-- no two clocks are each below the other
not_both_below : (a b : List (ℕ × ℕ)) → IsClock a → IsClock b → IsBelow a b → IsBelow b a → ⊥
not_both_below a b ma mb below above = below.1 (same_clock a b ma mb below.0 above.0)

-- no clock is below itself
not_below_itself : (a : List (ℕ × ℕ)) → IsBelow a a → ⊥
not_below_itself a below = below.1 refl

-- both halves joined are the same whichever pair comes first
both_commutes : (a b : PlainPair) → IsPair a → IsPair b → both_joined a b ≡ both_joined b a
both_commutes a b is_a is_b =
    let clock : joined_clocks a.clock b.clock ≡ joined_clocks b.clock a.clock = clock_laws.commutative a.clock b.clock is_a.clock_is is_b.clock_is tt in
    let words : united a.words b.words ≡ united b.words a.words = set_laws.commutative a.words b.words is_a.words_are is_b.words_are tt in
    λ i. record { clock = clock i; words = words i }

-- both halves of a pair joined with themselves are the pair
both_itself : (a : PlainPair) → IsPair a → both_joined a a ≡ a
both_itself a is_a =
    let clock : joined_clocks a.clock a.clock ≡ a.clock = clock_laws.idempotent a.clock is_a.clock_is in
    let words : united a.words a.words ≡ a.words = set_laws.idempotent a.words is_a.words_are in
    λ i. record { clock = clock i; words = words i }

-- which of two comes first does not matter
pub paper_join_turned : (a b c : PlainPair) → IsPair a → IsPair b → IsPaperJoin a b c → IsPaperJoin b a c
paper_join_turned a b c is_a is_b (inl wins) = inr (inl wins)
paper_join_turned a b c is_a is_b (inr (inl wins)) = inl wins
paper_join_turned a b c is_a is_b (inr (inr both)) = inr (inr (both.1, both.0, both.2 ∙ both_commutes a b is_a is_b))

-- what the join is where neither clock is below the other
pub joined_by_halves : (a b c : PlainPair) → (IsBelow a.clock b.clock → ⊥) → (IsBelow b.clock a.clock → ⊥) → IsPaperJoin a b c → c ≡ both_joined a b
joined_by_halves a b c not_below not_above (inl wins) = absurd (not_below wins.0)
joined_by_halves a b c not_below not_above (inr (inl wins)) = absurd (not_above wins.0)
joined_by_halves a b c not_below not_above (inr (inr both)) = both.2

-- what the join is where the first clock is below the second, and not the other way round
joined_by_second : (a b c : PlainPair) → IsBelow a.clock b.clock → (IsBelow b.clock a.clock → ⊥) → IsPaperJoin a b c → c ≡ b
joined_by_second a b c below not_above (inl wins) = wins.1
joined_by_second a b c below not_above (inr (inl wins)) = absurd (not_above wins.0)
joined_by_second a b c below not_above (inr (inr both)) = absurd (both.0 below)

-- what the join is where the second clock is below the first, and not the other way round
joined_by_first : (a b c : PlainPair) → (IsBelow a.clock b.clock → ⊥) → IsBelow b.clock a.clock → IsPaperJoin a b c → c ≡ a
joined_by_first a b c not_below above (inl wins) = absurd (not_below wins.0)
joined_by_first a b c not_below above (inr (inl wins)) = wins.1
joined_by_first a b c not_below above (inr (inr both)) = absurd (both.1 above)

-- the pair with the greater clock wins, be it the second or the first
pub second_wins : (a b c : PlainPair) → IsClock a.clock → IsClock b.clock → IsPaperJoin a b c → IsBelow a.clock b.clock → c ≡ b
second_wins a b c ma mb is below = joined_by_second a b c below (not_both_below a.clock b.clock ma mb below) is

pub first_wins : (a b c : PlainPair) → IsClock a.clock → IsClock b.clock → IsPaperJoin a b c → IsBelow b.clock a.clock → c ≡ a
first_wins a b c ma mb is above = joined_by_first a b c (λ below. not_both_below a.clock b.clock ma mb below above) above is

-- the join is one pair
pub paper_join_single : (a b c d : PlainPair) → IsPair a → IsPair b → IsPaperJoin a b c → IsPaperJoin a b d → c ≡ d
paper_join_single a b c d is_a is_b (inl wins) other = wins.1 ∙ sym (second_wins a b d is_a.clock_is is_b.clock_is other wins.0)
paper_join_single a b c d is_a is_b (inr (inl wins)) other = wins.1 ∙ sym (first_wins a b d is_a.clock_is is_b.clock_is other wins.0)
paper_join_single a b c d is_a is_b (inr (inr both)) other = both.2 ∙ sym (joined_by_halves a b d both.0 both.1 other)

-- a pair joined with itself is the pair
pub paper_join_itself : (a c : PlainPair) → IsPair a → IsPaperJoin a a c ↔ (c ≡ a)
paper_join_itself a c is_a = (
  (λ is. joined_by_halves a a c (not_below_itself a.clock) (not_below_itself a.clock) is ∙ both_itself a is_a),
  (λ e. inr (inr (not_below_itself a.clock, not_below_itself a.clock, e ∙ sym (both_itself a is_a)))),
)

-- where each clock is at most the other just where the other is at most it, neither wins
pub neither_below : (a b c : PlainPair) → IsClock a.clock → IsClock b.clock → (joined_clocks a.clock b.clock ≡ b.clock → joined_clocks b.clock a.clock ≡ a.clock) → (joined_clocks b.clock a.clock ≡ a.clock → joined_clocks a.clock b.clock ≡ b.clock) → c ≡ both_joined a b → IsPaperJoin a b c
neither_below a b c ma mb back on e = inr (inr ((λ below. below.1 (same_clock a.clock b.clock ma mb below.0 (back below.0))), (λ above. above.1 (same_clock b.clock a.clock mb ma above.0 (on above.0))), e))

-- a clock of two sessions is none of one
longer : (e f g : ℕ × ℕ) → ◌≡◌ {A = List (ℕ × ℕ)} (e ∷ f ∷ []) (g ∷ []) → ⊥
longer e f g same = let count : ◌≡◌ {A = ℕ} 2 1 = ap length same in omega arith

-- two tests that answer alike
pub same_answer : (a b : Bool) → beq a b ≡ true → a ≡ b
same_answer true true e = refl
same_answer true false e = sym e
same_answer false true e = e
same_answer false false e = refl

-- the count of the first session of a clock
abbrev first_count : List (ℕ × ℕ) → ℕ
first_count [] = 0
first_count (entry ∷ entries) = entry.1

-- a clock that counts 1 for its first session is none that counts 2
lower : (a b : List (ℕ × ℕ)) → first_count a ≡ 1 → first_count b ≡ 2 → a ≢ b
lower a b one two same = let count : first_count a ≡ first_count b = ap first_count same in omega arith

-- the first and the second are joined by halves
first_by_second : (c : PlainPair) → IsPaperJoin first_pair second_pair c → c ≡ both_joined first_pair second_pair
first_by_second c is = joined_by_halves first_pair second_pair c (λ below. longer _ _ _ below.0) (λ above. longer _ _ _ above.0) is

-- the first is lost where it meets the third
first_by_third : (c : PlainPair) → IsPaperJoin first_pair third_pair c → c ≡ third_pair
first_by_third c is = joined_by_second first_pair third_pair c (refl, lower _ _ refl refl) (λ above. lower _ _ refl refl (sym above.0)) is

-- all three, where the third comes last
all_three : (c : PlainPair) → IsPaperJoin (both_joined first_pair second_pair) third_pair c → c ≡ one_part
all_three c is = joined_by_halves (both_joined first_pair second_pair) third_pair c (λ below. longer _ _ _ below.0) (λ above. lower _ _ refl refl (sym above.0)) is

-- the second and the third alone, where the first is lost before
last_two : (c : PlainPair) → IsPaperJoin third_pair second_pair c → c ≡ other_part
last_two c is = joined_by_halves third_pair second_pair c (λ below. longer _ _ _ below.0) (λ above. longer _ _ _ above.0) is

-- the one has a word more than the other
parts_differ : one_part ≢ other_part
parts_differ same = let count : ◌≡◌ {A = ℕ} 3 2 = ap (λ (pair : PlainPair). length pair.words) same in omega arith

-- the pairs that the three are joined to in two orders
pub parts : (first second third first_second first_third one other : PlainPair) → first ≡ first_pair → second ≡ second_pair → third ≡ third_pair → IsPaperJoin first second first_second → IsPaperJoin first_second third one → IsPaperJoin first third first_third → IsPaperJoin first_third second other → PartFromOrder one other
parts first second third first_second first_third one other is_first is_second is_third ab abc ac acb =
    let ab' : IsPaperJoin first_pair second_pair first_second = subst (λ x. IsPaperJoin x second_pair first_second) is_first (subst (λ x. IsPaperJoin first x first_second) is_second ab) in
    let ac' : IsPaperJoin first_pair third_pair first_third = subst (λ x. IsPaperJoin x third_pair first_third) is_first (subst (λ x. IsPaperJoin first x first_third) is_third ac) in
    let abc' : IsPaperJoin first_second third_pair one = subst (λ x. IsPaperJoin first_second x one) is_third abc in
    let acb' : IsPaperJoin first_third second_pair other = subst (λ x. IsPaperJoin first_third x other) is_second acb in
    let one_is : one ≡ one_part = all_three one (subst (λ x. IsPaperJoin x third_pair one) (first_by_second first_second ab') abc') in
    let other_is : other ≡ other_part = last_two other (subst (λ x. IsPaperJoin x second_pair other) (first_by_third first_third ac') acb') in
    record {
      one_is = one_is;
      other_is = other_is;
      one_way = (first_second, ab', abc');
      other_way = (first_third, ac', acb');
      apart = λ same. parts_differ (sym one_is ∙ same ∙ other_is);
    }
