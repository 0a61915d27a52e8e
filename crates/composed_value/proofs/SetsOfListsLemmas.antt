-- The set of the members of a list: of none, of one, of two lists together; it depends on the members alone, and there is one.
use Rattle.std.specs.Prelude.{◌≡◌, ◌↔◌, Bool, true, false, cond, IsTrue, is_some, List, [], ◌∷◌, ◌++◌, Some, None, Contains, ⊤}
use Rattle.std.proofs.Common.{refl, sym, ap, subst, ◌∙◌, inl, inr, arith}
use Rattle.std.proofs.lemmas.Bool.{false≢true, or_cases, or_left, or_right}
use Rattle.std.proofs.lemmas.Cmp.{tied_itself}
use Rattle.std.proofs.lemmas.List.Elements.{All-nil, All-cons, Contains-push, Contains-append_left, Contains-append_right}
use Rattle.std.specs.declared.cmp.Ordering.{Ordering}
use Rattle.std.specs.Ordering.{is_eq, eq_by_cmp}
use Rattle.std.specs.Cmp.{IsTotalOrder, Equal-is, both_ways}
use Rattle.std.specs.FinMap.{IsAntisymmetric}
use Rattle.lattice_laws.proofs.GreatestOfListsLemmas.{in_one, in_either}
use Rattle.lattice_laws.specs.Joins.{SameMembers}
use Rattle.lattice_laws.specs.Sets.{IsSet, has, united}
use Rattle.lattice_laws.specs.SetsLaws.{united_is_set, has-united, same_sets}

-- the set has exactly the members of the list
abbrev pub IsSetOf : {E : Type 0} → (E → E → Ordering) → (E → Type 0) → List E → List E → Type 0
IsSetOf {E} cmp is_member xs set = IsSet cmp is_member set × ((x : E) → IsTrue (has cmp x set) ↔ Contains xs x)

-- the one member is there where the test passes
passes_where_there : (passes : Bool) → IsTrue (is_some {T = Unit {0}} (cond passes (Some tt) None)) → IsTrue passes
passes_where_there true there = refl
passes_where_there false there = there

module _ {E : Type 0} {cmp : E → E → Ordering} (total : IsTotalOrder cmp) (exact : IsAntisymmetric cmp) (is_member : E → Type 0) where
  -- the set of no members
  pub set_of_none : IsSetOf cmp is_member [] []
  set_of_none = (record { ascending = refl; are_members = All-nil is_member }, λ x. ((λ there. absurd (false≢true there)), (λ has. absurd (omega arith))))

  -- the set of one
  pub set_of_one : (x : E) → is_member x → IsSetOf cmp is_member (x ∷ []) (x ∷ [])
  set_of_one x member = (
    record { ascending = refl; are_members = All-cons is_member x [] member (All-nil is_member) },
    λ q. (
      (λ there. subst (Contains (x ∷ [])) (sym (exact q x ((Equal-is (cmp q x)).0 (passes_where_there (eq_by_cmp cmp q x) there)))) (Contains-push [] x)),
      in_one (λ y. IsTrue (has cmp y (x ∷ []))) x q (ap (λ r. is_some (cond (is_eq r) (Some tt) None)) (tied_itself total x)),
    ),
  )

  -- the set of two lists is the union of theirs
  pub set_of_both : (xs ys a b : List E) → IsSetOf cmp is_member xs a → IsSetOf cmp is_member ys b → IsSetOf cmp is_member (xs ++ ys) (united cmp a b)
  set_of_both xs ys a b of_xs of_ys = (
    united_is_set total exact is_member a b of_xs.0 of_ys.0,
    λ q.
        let either = has-united total exact is_member a b q of_xs.0 of_ys.0 in (
          (λ there. elim (or_cases (has cmp q a) (has cmp q b) (sym either ∙ there)) [
            | inl in_a ↦ Contains-append_left xs ys q ((of_xs.1 q).0 in_a)
            | inr in_b ↦ Contains-append_right xs ys q ((of_ys.1 q).0 in_b)
          ]),
          in_either xs ys (IsTrue (has cmp q (united cmp a b))) q
              (λ in_xs. either ∙ or_left (has cmp q a) (has cmp q b) ((of_xs.1 q).1 in_xs))
              (λ in_ys. either ∙ or_right (has cmp q a) (has cmp q b) ((of_ys.1 q).1 in_ys)),
        ),
  )

  -- a list has one set
  pub set_of_is_single : (xs a b : List E) → IsSetOf cmp is_member xs a → IsSetOf cmp is_member xs b → a ≡ b
  set_of_is_single xs a b of_a of_b = same_sets total exact is_member a b of_a.0 of_b.0 (λ q. both_ways _ _ (λ in_a. (of_b.1 q).1 ((of_a.1 q).0 in_a)) (λ in_b. (of_a.1 q).1 ((of_b.1 q).0 in_b)))

-- lists with the same members have the same set
pub set_of_by_members : {E : Type 0} (cmp : E → E → Ordering) (is_member : E → Type 0) (xs ys a : List E) → SameMembers xs ys → IsSetOf cmp is_member xs a → IsSetOf cmp is_member ys a
set_of_by_members cmp is_member xs ys a same of_xs = (of_xs.0, λ q. ((λ there. (same q).0 ((of_xs.1 q).0 there)), (λ has. (of_xs.1 q).1 ((same q).1 has))))

-- each list has a set
pub some_set_of : {E : Type 0} {cmp : E → E → Ordering} → IsTotalOrder cmp → IsAntisymmetric cmp → (xs : List E) → (set : List E) × IsSetOf cmp (λ _. ⊤) xs set
some_set_of total exact [] = ([], set_of_none total exact (λ _. ⊤))
some_set_of {cmp = cmp} total exact (x ∷ xs) =
    let later = some_set_of total exact xs in
    (united cmp (x ∷ []) later.0, set_of_both total exact (λ _. ⊤) (x ∷ []) xs (x ∷ []) later.0 (set_of_one total exact (λ _. ⊤) x tt) later.1)
