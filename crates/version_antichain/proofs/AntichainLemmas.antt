-- Whether one antichain is at most another is tested member by member.
use Rattle.std.specs.Prelude.{◌≡◌, Bool, true, false, not, ◌&&◌, ◌||◌, ◌⊎◌, ◌↔◌, IsTrue, List, [], ◌∷◌, All}
use Rattle.std.specs.List.{list_any, list_all}
use Rattle.std.proofs.Common.{refl, sym, ap, ◌∙◌, inl, inr}
use Rattle.std.proofs.lemmas.Bool.{false≢true, not-true, and_parts, and_from, or_cases, or_left, or_right, cases_Bool, not_from_false}
use Rattle.std.proofs.lemmas.Cmp.{tied_itself}
use Rattle.std.proofs.lemmas.List.Elements.{All-head, All-tail}
use Rattle.std.specs.declared.cmp.Ordering.{Ordering}
use Rattle.std.specs.Ordering.{is_eq}
use Rattle.std.specs.Cmp.{IsTotalOrder, Equal-is}
use Rattle.std.specs.FinMap.{IsAntisymmetric}
use Rattle.lattice_laws.specs.Sets.{has, united}
use Rattle.lattice_laws.specs.SetsLaws.{united_is_set, has-united, same_sets, has-filter, has_cases, has_first, has_later, list_any-from_has, has-from_list_any, list_any-united}
use Rattle.version_antichain.specs.Antichain.{IsStrictOrder, maximal, IsAntichain, joined_antichains}
use Rattle.version_antichain.specs.AntichainLaws.{is_maximal, below_some_maximal, maximal_is_set}

-- a member of the first is in the second or below one of its members
abbrev pub is_within : {E : Type 0} → (E → E → Ordering) → (E → E → Bool) → List E → E → Bool
is_within cmp below others x = has cmp x others || list_any (below x) others

-- what is kept of two sets is the second, where each of the first is there or below one that is
kept_is_second : (some_a some_b in_a in_b : Bool) → (some_a ≡ true → some_b ≡ true) → (in_b ≡ true → some_b ≡ false) → (in_a ≡ true → (in_b ≡ true) ⊎ (some_b ≡ true)) → (not (some_a || some_b) && (in_a || in_b)) ≡ in_b
kept_is_second some_a some_b in_a true a_to_b none within = kept_is_second_in some_a some_b in_a a_to_b (none refl)
  where
    kept_is_second_in : (some_a some_b in_a : Bool) → (some_a ≡ true → some_b ≡ true) → some_b ≡ false → (not (some_a || some_b) && (in_a || true)) ≡ true
    kept_is_second_in true some_b in_a a_to_b e = absurd (false≢true (sym e ∙ a_to_b refl))
    kept_is_second_in false true in_a a_to_b e = absurd (false≢true (sym e))
    kept_is_second_in false false true a_to_b e = refl
    kept_is_second_in false false false a_to_b e = refl
kept_is_second true some_b in_a false a_to_b none within = refl
kept_is_second false true in_a false a_to_b none within = refl
kept_is_second false false false false a_to_b none within = refl
kept_is_second false false true false a_to_b none within = absurd (kept_is_second_out (within refl))
  where
    kept_is_second_out : (false ≡ true) ⊎ (false ≡ true) → ⊥
    kept_is_second_out (inl e) = false≢true e
    kept_is_second_out (inr e) = false≢true e

module _ {E : Type 0} {cmp : E → E → Ordering} (exact : IsAntisymmetric cmp) where
  -- a test that all members pass is one that each passes
  list_all-at : (test : E → Bool) (members : List E) (q : E) → list_all test members ≡ true → has cmp q members ≡ true → test q ≡ true
  list_all-at test [] q all there = absurd (false≢true there)
  list_all-at test (member ∷ members) q all there =
      let parts = and_parts (test member) (list_all test members) all in
      elim (has_cases cmp q member members there) [
        | inl ties ↦ ap test (exact q member ((Equal-is (cmp q member)).0 ties)) ∙ parts.0
        | inr later ↦ list_all-at test members q parts.1 later
      ]

module _ {E : Type 0} {cmp : E → E → Ordering} (total : IsTotalOrder cmp) where
  -- and the other way round
  list_all-from_has : (test : E → Bool) (members : List E) → ((q : E) → has cmp q members ≡ true → test q ≡ true) → list_all test members ≡ true
  list_all-from_has test [] each = refl
  list_all-from_has test (member ∷ members) each =
      and_from (test member) (list_all test members)
      (each member (has_first cmp member member members (ap is_eq (tied_itself total member))))
      (list_all-from_has test members (λ q there. each q (has_later cmp q member members there)))

module _ {E : Type 0} {cmp : E → E → Ordering} (exact : IsAntisymmetric cmp) (below : E → E → Bool) where
  -- no member of an antichain is below another
  none_at : (s : List E) → All (λ x. list_any (below x) s ≡ false) s → (q : E) → has cmp q s ≡ true → list_any (below q) s ≡ false
  none_at s none q there = not-true (list_any (below q) s) (list_all-at exact (λ x. not (list_any (below x) s)) s q (list_all-from_All s none) there)
    where
      list_all-from_All : (xs : List E) → All (λ x. list_any (below x) s ≡ false) xs → list_all (λ x. not (list_any (below x) s)) xs ≡ true
      list_all-from_All [] all = refl
      list_all-from_All (x ∷ xs) all = and_from _ _ (not_from_false (list_any (below x) s) (All-head (λ x. list_any (below x) s ≡ false) x xs all)) (list_all-from_All xs (All-tail (λ x. list_any (below x) s ≡ false) x xs all))

module _ {E : Type 0} {cmp : E → E → Ordering} (total : IsTotalOrder cmp) (exact : IsAntisymmetric cmp) (is_member : E → Type 0) (below : E → E → Bool) (order : IsStrictOrder below) where
  -- Whether one antichain is at most another is tested member by member: each stands in the other, or below one of its members.
  pub each_within : (a b : List E) → IsAntichain cmp is_member below a → IsAntichain cmp is_member below b → IsTrue (list_all (is_within cmp below b) a) ↔ (joined_antichains cmp below a b ≡ b)
  each_within a b va vb =
      let ab = united cmp a b in
      let is_ab = united_is_set total exact is_member a b va.is_set vb.is_set in
      let in_ab : (x : E) → has cmp x ab ≡ (has cmp x a || has cmp x b) = λ x. has-united total exact is_member a b x va.is_set vb.is_set in
      let some_ab : (x : E) → list_any (below x) ab ≡ (list_any (below x) a || list_any (below x) b) = λ x. list_any-united total exact is_member (below x) a b va.is_set vb.is_set in (
        (λ all. same_sets total exact is_member (maximal below ab) b (maximal_is_set total exact is_member below order ab is_ab) vb.is_set (λ q.
            has-filter exact q (is_maximal below ab) ab
            ∙ ap (λ t. not t && has cmp q ab) (some_ab q)
            ∙ ap (λ t. not (list_any (below q) a || list_any (below q) b) && t) (in_ab q)
            ∙ kept_is_second (list_any (below q) a) (list_any (below q) b) (has cmp q a) (has cmp q b)
            (λ some. below_within q a b all some)
            (λ there. none_at exact below b vb.none_below q there)
            (λ there. or_cases (has cmp q b) (list_any (below q) b) (list_all-at exact (is_within cmp below b) a q all there)))),
        (λ same. list_all-from_has total (is_within cmp below b) a (λ q there.
            elim (cases_Bool (list_any (below q) ab)) [
              | inl below_some ↦ or_right (has cmp q b) (list_any (below q) b) (ap (list_any (below q)) (sym same) ∙ below_some_maximal total exact order q ab below_some)
              | inr below_none ↦ or_left (has cmp q b) (list_any (below q) b) (ap (has cmp q) (sym same) ∙ has-filter exact q (is_maximal below ab) ab ∙ and_from (is_maximal below ab q) (has cmp q ab) (not_from_false (list_any (below q) ab) below_none) (in_ab q ∙ or_left (has cmp q a) (has cmp q b) there))
            ])),
      )
    where
      -- what is below some member of the first is below some member of the second
      below_within : (q : E) (a b : List E) → IsTrue (list_all (is_within cmp below b) a) → list_any (below q) a ≡ true → list_any (below q) b ≡ true
      below_within q a b all some =
          let found = has-from_list_any total (below q) a some in
          elim (or_cases (has cmp found.0 b) (list_any (below found.0) b) (list_all-at exact (is_within cmp below b) a found.0 all found.1)) [
            | inl there ↦ list_any-from_has exact (below q) b found.0 there found.2
            | inr higher ↦
                let above = has-from_list_any total (below found.0) b higher in
                list_any-from_has exact (below q) b above.0 above.1 (order.through q found.0 above.0 found.2 above.2)
          ]
