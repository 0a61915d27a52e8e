-- The join of antichains keeps the laws: the maximal members of the maximal members of two sets and of a third are those of all three.
use Rattle.std.specs.Prelude.{◌≡◌, Bool, true, false, not, ◌||◌, List, [], ◌∷◌, All, ⊤}
use Rattle.std.specs.List.{list_any}
use Rattle.std.proofs.Common.{refl, sym, ap, ◌∙◌, inl, inr}
use Rattle.std.proofs.lemmas.Bool.{false≢true, not-true, and_from, or_parts, or_from, false_from_ne_true, not_from_false}
use Rattle.std.proofs.lemmas.Cmp.{tied_itself}
use Rattle.std.proofs.lemmas.List.Elements.{All-weaker, filter_agree, filter_passes}
use Rattle.std.specs.declared.cmp.Ordering.{Ordering}
use Rattle.std.specs.Ordering.{is_eq}
use Rattle.std.specs.Cmp.{IsTotalOrder, Equal-is, both_ways}
use Rattle.std.specs.FinMap.{IsAntisymmetric}
use Rattle.lattice_laws.specs.Lattice.{LatticeLaws, Associative}
use Rattle.lattice_laws.specs.Sets.{IsSet, has, united}
use Rattle.lattice_laws.proofs.ListLemmas.{filter_all}
use Rattle.lattice_laws.specs.SetsLaws.{set_laws, set_associative, united_is_set, filter_is_set, filter_after, has_cases, has-filter, has_before_filter, has_first, has_later, list_any-from_has, has-from_list_any, list_any_within, list_any-united}
use Rattle.version_antichain.specs.Antichain.{IsStrictOrder, maximal, IsAntichain, joined_antichains}

-- whether a value is below none of the members
abbrev pub is_maximal : {E : Type 0} → (E → E → Bool) → List E → E → Bool
is_maximal below members x = not (list_any (below x) members)

-- where no member is below another, all are maximal
pub kept_from_none_below : {E : Type 0} (below : E → E → Bool) (s : List E) → All (λ x. list_any (below x) s ≡ false) s → maximal below s ≡ s
kept_from_none_below below s none = filter_all (is_maximal below s) s (All-weaker (λ x. list_any (below x) s ≡ false) (λ x. is_maximal below s x ≡ true) (λ x h. not_from_false (list_any (below x) s) h) s none)

-- a member among y and others, at least as high as y, that none of the others is above
record IsTop {E : Type 0} (cmp : E → E → Ordering) (below : E → E → Bool) (y : E) (others : List E) (top : E) : Type 0 where
  is_there : has cmp top (y ∷ others) ≡ true
  above_what_y_is_above : (x : E) → below x y ≡ true → below x top ≡ true
  below_what_is_above_y : (x : E) → below top x ≡ true → below y x ≡ true
  none_above : list_any (below top) others ≡ false

module _ {E : Type 0} {cmp : E → E → Ordering} {below : E → E → Bool} (total : IsTotalOrder cmp) (exact : IsAntisymmetric cmp) (order : IsStrictOrder below) where
  -- walking up from a member, one comes to a top
  top_of : (y : E) (others : List E) → (top : E) × IsTop cmp below y others top
  top_of y [] = (
    y,
    record {
      is_there = has_first cmp y y [] (ap is_eq (tied_itself total y));
      above_what_y_is_above = λ x h. h;
      below_what_is_above_y = λ x h. h;
      none_above = refl;
    },
  )
  top_of y (other ∷ others) =
      elim (below y other) as (λ b. below y other ≡ b → (top : E) × IsTop cmp below y (other ∷ others) top) [
        | true ↦ λ higher.
            let found = top_of other others in
            let top = found.0 in
            let is = found.1 in (
              top,
              record {
                is_there = has_later cmp top y (other ∷ others) is.is_there;
                above_what_y_is_above = λ x h. is.above_what_y_is_above x (order.through x y other h higher);
                below_what_is_above_y = λ x h. order.through y other x higher (is.below_what_is_above_y x h);
                none_above = or_from (below top other) (list_any (below top) others) (false_from_ne_true (below top other) (λ h. false≢true (sym (order.not_itself top) ∙ is.above_what_y_is_above top h))) is.none_above;
              },
            )
        | false ↦ λ no_higher.
            let found = top_of y others in
            let top = found.0 in
            let is = found.1 in (
              top,
              record {
                is_there = elim (has_cases cmp top y others is.is_there) [
                  | inl ties ↦ has_first cmp top y (other ∷ others) ties
                  | inr later ↦ has_later cmp top y (other ∷ others) (has_later cmp top other others later)
                ];
                above_what_y_is_above = is.above_what_y_is_above;
                below_what_is_above_y = is.below_what_is_above_y;
                none_above = or_from (below top other) (list_any (below top) others) (false_from_ne_true (below top other) (λ h. false≢true (sym no_higher ∙ is.below_what_is_above_y other h))) is.none_above;
              },
            )
      ] refl

  -- a top above a member is a maximal member
  top_is_maximal : (s : List E) (y top : E) → has cmp y s ≡ true → IsTop cmp below y s top → has cmp top (maximal below s) ≡ true
  top_is_maximal s y top there is =
      let top_there : has cmp top s ≡ true = elim (has_cases cmp top y s is.is_there) [
        | inl ties ↦ ap (λ z. has cmp z s) (exact top y ((Equal-is (cmp top y)).0 ties)) ∙ there
        | inr later ↦ later
      ] in
      has-filter exact top (is_maximal below s) s ∙ and_from (is_maximal below s top) (has cmp top s) (not_from_false (list_any (below top) s) is.none_above) top_there

  -- what is below some member is below a maximal one
  pub below_some_maximal : (x : E) (s : List E) → list_any (below x) s ≡ true → list_any (below x) (maximal below s) ≡ true
  below_some_maximal x s some =
      let found = has-from_list_any total (below x) s some in
      let walked = top_of found.0 s in
      list_any-from_has exact (below x) (maximal below s) walked.0 (top_is_maximal s found.0 walked.0 found.1 walked.1) (walked.1.above_what_y_is_above x found.2)

  -- so what is below some maximal member is what is below some member
  pub below_maximal : (x : E) (s : List E) → list_any (below x) (maximal below s) ≡ list_any (below x) s
  below_maximal x s = both_ways _ _ (list_any_within total exact (below x) (maximal below s) s (has_before_filter exact (is_maximal below s) s)) (below_some_maximal x s)

module _ {E : Type 0} {cmp : E → E → Ordering} (total : IsTotalOrder cmp) (exact : IsAntisymmetric cmp) (is_member : E → Type 0) (below : E → E → Bool) (order : IsStrictOrder below) where
  -- the maximal members of a set are a set
  pub maximal_is_set : (s : List E) → IsSet cmp is_member s → IsSet cmp is_member (maximal below s)
  maximal_is_set s is = filter_is_set cmp is_member (is_maximal below s) s is

  -- what is below some member of two sets is so where only the maximal members of one are left
  below_united_maximal : (x : E) (s c : List E) → IsSet cmp is_member s → IsSet cmp is_member c → list_any (below x) (united cmp (maximal below s) c) ≡ list_any (below x) (united cmp s c)
  below_united_maximal x s c is_s is_c =
      list_any-united total exact is_member (below x) (maximal below s) c (maximal_is_set s is_s) is_c
      ∙ ap (λ b. b || list_any (below x) c) (below_maximal total exact order x s)
      ∙ sym (list_any-united total exact is_member (below x) s c is_s is_c)

  -- a maximal one of two sets is below none of the first
  maximal_in_first : (q : E) (s c : List E) → IsSet cmp is_member s → IsSet cmp is_member c → is_maximal below (united cmp s c) q ≡ true → is_maximal below s q ≡ true
  maximal_in_first q s c is_s is_c h =
      let none = sym (list_any-united total exact is_member (below q) s c is_s is_c) ∙ not-true (list_any (below q) (united cmp s c)) h in
      not_from_false (list_any (below q) s) (or_parts (list_any (below q) s) (list_any (below q) c) none).0

  -- The maximal members of the maximal members of one set and of another set are those of both sets.
  pub maximal_of_maximal : (s c : List E) → IsSet cmp is_member s → IsSet cmp is_member c → maximal below (united cmp (maximal below s) c) ≡ maximal below (united cmp s c)
  maximal_of_maximal s c is_s is_c =
      let mc = united cmp (maximal below s) c in
      let sc = united cmp s c in
      filter_agree (is_maximal below mc) (is_maximal below sc) (λ x. ap not (below_united_maximal x s c is_s is_c)) mc
      ∙ filter_after total exact is_member (is_maximal below sc) (is_maximal below s) (λ q. maximal_in_first q s c is_s is_c) s c is_s is_c

  -- the maximal members of a set are an antichain
  pub maximal_is_antichain : (s : List E) → IsSet cmp is_member s → IsAntichain cmp is_member below (maximal below s)
  maximal_is_antichain s is = record {
    is_set = maximal_is_set s is;
    none_below = All-weaker (λ x. is_maximal below s x ≡ true) (λ x. list_any (below x) (maximal below s) ≡ false) (λ x h. below_maximal total exact order x s ∙ not-true (list_any (below x) s) h) (maximal below s) (filter_passes (is_maximal below s) s);
  }

  -- an antichain is its own maximal members
  pub maximal_itself : (s : List E) → IsAntichain cmp is_member below s → maximal below s ≡ s
  maximal_itself s is = kept_from_none_below below s is.none_below

  pub antichain_laws : LatticeLaws (IsAntichain cmp is_member below) (λ _ _. ⊤) (joined_antichains cmp below)
  antichain_laws =
      let sets = set_laws total exact is_member in
      record {
        fits_itself = λ a va. tt;
        fits_back = λ a b va vb h. tt;
        fits_on = λ a b c va vb vc h i. tt;
        closed = λ a b va vb h. (maximal_is_antichain (united cmp a b) (united_is_set total exact is_member a b va.is_set vb.is_set), tt, tt);
        commutative = λ a b va vb h. ap (maximal below) (sets.commutative a b va.is_set vb.is_set tt);
        idempotent = λ a va. ap (maximal below) (sets.idempotent a va.is_set) ∙ maximal_itself a va;
      }

  pub antichain_associative : Associative (IsAntichain cmp is_member below) (λ _ _. ⊤) (joined_antichains cmp below)
  antichain_associative a b c va vb vc h i =
      let swapped = (set_laws total exact is_member).commutative in
      let ab = united cmp a b in
      let bc = united cmp b c in
      let is_ab = united_is_set total exact is_member a b va.is_set vb.is_set in
      let is_bc = united_is_set total exact is_member b c vb.is_set vc.is_set in
      maximal_of_maximal ab c is_ab vc.is_set
      ∙ ap (maximal below) (set_associative total exact is_member a b c va.is_set vb.is_set vc.is_set tt tt ∙ swapped a bc va.is_set is_bc tt)
      ∙ sym (maximal_of_maximal bc a is_bc va.is_set)
      ∙ ap (maximal below) (swapped (maximal below bc) a (maximal_is_set bc is_bc) va.is_set tt)
