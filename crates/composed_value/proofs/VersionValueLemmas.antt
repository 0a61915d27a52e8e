-- The versions kept of a list: of none, of one, of two lists together; they depend on the members alone, and there is one set of them.
use Rattle.std.specs.Prelude.{◌≡◌, ◌↔◌, Bool, false, not, ◌||◌, IsTrue, List, [], ◌∷◌, ◌++◌, Contains, ⊤}
use Rattle.std.specs.List.{list_any}
use Rattle.std.proofs.Common.{sym, ap, ◌∙◌, arith}
use Rattle.std.proofs.lemmas.Bool.{false≢true, not-true, not_from_false, and_parts, and_from, false_from_ne_true}
use Rattle.std.proofs.lemmas.List.Elements.{All-nil, All-cons}
use Rattle.std.specs.Cmp.{both_ways}
use Rattle.lattice_laws.proofs.GreatestOfListsLemmas.{in_one}
use Rattle.lattice_laws.specs.Joins.{SameMembers}
use Rattle.lattice_laws.specs.Sets.{IsSet, has, united}
use Rattle.lattice_laws.specs.SetsLaws.{set_laws, same_sets, has-filter, list_any-from_has, has-from_list_any}
use Rattle.version_antichain.specs.Antichain.{maximal}
use Rattle.version_antichain.specs.AntichainLaws.{maximal_is_set, maximal_of_maximal}
use Rattle.version_antichain.specs.Version.{IsVersion, version_cmp, is_below}
use Rattle.version_antichain.specs.VersionLaws.{version_total, version_exact, below_order}
use Rattle.version_antichain.specs.Versions.{IsVersions, joined_versions}
use Rattle.version_antichain.specs.VersionsLaws.{versions_laws}
use Rattle.version_antichain.specs.declared.version.Version.{Version}
use Rattle.composed_value.specs.PlainValue.{IsMaximal}
use Rattle.composed_value.proofs.SetsOfListsLemmas.{IsSetOf, set_of_none, set_of_one, set_of_both, some_set_of}

-- exactly the maximal versions of a list
abbrev pub AreKept : List Version → List Version → Type 0
AreKept all kept = IsVersions kept × ((version : Version) → IsTrue (has version_cmp version kept) ↔ IsMaximal all version)

-- a set of versions, whatever they are
abbrev IsAnySet : List Version → Type 0
IsAnySet versions = IsSet version_cmp (λ _. ⊤) versions

-- as what is kept is
any_set : (kept : List Version) → IsVersions kept → IsAnySet kept
any_set kept is = record { ascending = is.is_set.ascending; are_members = λ k d in_range. tt }

-- none of the set of a list is above a maximal version
none_above : (all set : List Version) → IsSetOf version_cmp (λ _. ⊤) all set → (version : Version) → IsMaximal all version → list_any (is_below version) set ≡ false
none_above all set of_all version is = false_from_ne_true (list_any (is_below version) set) (λ some.
    let found = has-from_list_any version_total (is_below version) set some in
    false≢true (sym (is.1 found.0 ((of_all.1 found.0).0 found.1)) ∙ found.2))

-- the maximal members of the set of a list are its maximal versions
has-maximal : (all set : List Version) → IsSetOf version_cmp (λ _. ⊤) all set → (version : Version) → IsTrue (has version_cmp version (maximal is_below set)) ↔ IsMaximal all version
has-maximal all set of_all version =
    let test : Version → Bool = λ x. not (list_any (is_below x) set) in
    let kept = has-filter version_exact version test set in (
      (λ there.
          let parts = and_parts (test version) (has version_cmp version set) (sym kept ∙ there) in
          let none : list_any (is_below version) set ≡ false = not-true (list_any (is_below version) set) parts.0 in (
            (of_all.1 version).0 parts.1,
            λ other has. false_from_ne_true (is_below version other) (λ is. false≢true (sym none ∙ list_any-from_has version_exact (is_below version) set other ((of_all.1 other).1 has) is)),
          )),
      (λ is. kept ∙ and_from (test version) (has version_cmp version set) (not_from_false _ (none_above all set of_all version is)) ((of_all.1 version).1 is.0)),
    )

-- so they are what is kept
kept_is_maximal : (all set kept : List Version) → IsSetOf version_cmp (λ _. ⊤) all set → AreKept all kept → kept ≡ maximal is_below set
kept_is_maximal all set kept of_all are =
    same_sets version_total version_exact (λ _. ⊤) kept (maximal is_below set) (any_set kept are.0) (maximal_is_set version_total version_exact (λ _. ⊤) is_below below_order set of_all.0)
    (λ q. both_ways _ _ (λ there. (has-maximal all set of_all q).1 ((are.1 q).0 there)) (λ there. (are.1 q).1 ((has-maximal all set of_all q).0 there)))

-- the join of what is kept of two sets is what is kept of both
joined_maximal : (s t a b : List Version) → IsAnySet s → IsAnySet t → IsAnySet b → a ≡ maximal is_below s → b ≡ maximal is_below t → joined_versions a b ≡ maximal is_below (united version_cmp s t)
joined_maximal s t a b is_s is_t is_b a_is b_is =
    let swapped = (set_laws version_total version_exact (λ _. ⊤)).commutative in
    ap (λ x. joined_versions x b) a_is
    ∙ maximal_of_maximal version_total version_exact (λ _. ⊤) is_below below_order s b is_s is_b
    ∙ ap (maximal is_below) (swapped s b is_s is_b tt)
    ∙ ap (λ x. joined_versions x s) b_is
    ∙ maximal_of_maximal version_total version_exact (λ _. ⊤) is_below below_order t s is_t is_s
    ∙ ap (maximal is_below) (swapped t s is_t is_s tt)

-- of no versions none is kept
pub kept_of_none : AreKept [] []
kept_of_none = (
  record { is_set = (set_of_none version_total version_exact IsVersion).0; none_below = All-nil (λ x. list_any (is_below x) [] ≡ false) },
  λ version. ((λ there. absurd (false≢true there)), (λ is. let has = is.0 in absurd (omega arith))),
)

-- of one version none is below another
none_below_one : (version x other : Version) → Contains (version ∷ []) x → Contains (version ∷ []) other → is_below x other ≡ false
none_below_one version x other has has_other =
    let below_none = in_one (λ y. is_below version y ≡ false) version other (below_order.not_itself version) has_other in
    in_one (λ y. is_below y other ≡ false) version x below_none has

-- one version is kept
pub kept_of_one : (version : Version) → IsVersion version → AreKept (version ∷ []) (version ∷ [])
kept_of_one version is =
    let of_one = set_of_one version_total version_exact IsVersion version is in (
      record {
        is_set = of_one.0;
        none_below = All-cons (λ x. list_any (is_below x) (version ∷ []) ≡ false) version [] (ap (λ b. b || false) (below_order.not_itself version)) (All-nil (λ x. list_any (is_below x) (version ∷ []) ≡ false));
      },
      λ x. ((λ there. let has = (of_one.1 x).0 there in (has, λ other. none_below_one version x other has)), (λ is_maximal. (of_one.1 x).1 is_maximal.0)),
    )

-- what is kept of two lists is the join of what is kept of each
pub kept_of_both : (xs ys a b : List Version) → AreKept xs a → AreKept ys b → AreKept (xs ++ ys) (joined_versions a b)
kept_of_both xs ys a b of_xs of_ys =
    let s = some_set_of version_total version_exact xs in
    let t = some_set_of version_total version_exact ys in
    let joined = joined_maximal s.0 t.0 a b s.1.0 t.1.0 (any_set b of_ys.0) (kept_is_maximal xs s.0 a s.1 of_xs) (kept_is_maximal ys t.0 b t.1 of_ys) in
    let says = has-maximal (xs ++ ys) (united version_cmp s.0 t.0) (set_of_both version_total version_exact (λ _. ⊤) xs ys s.0 t.0 s.1 t.1) in (
      (versions_laws.closed a b of_xs.0 of_ys.0 tt).0,
      λ version. (
        (λ there. (says version).0 (ap (has version_cmp version) (sym joined) ∙ there)),
        (λ is. ap (has version_cmp version) joined ∙ (says version).1 is),
      ),
    )

-- lists with the same members have the same maximal versions
maximal_by_members : (xs ys : List Version) (version : Version) → SameMembers xs ys → IsMaximal xs version → IsMaximal ys version
maximal_by_members xs ys version same is = ((same version).0 is.0, λ other has. is.1 other ((same other).1 has))

-- and of them the same is kept
pub kept_by_members : (xs ys kept : List Version) → SameMembers xs ys → AreKept xs kept → AreKept ys kept
kept_by_members xs ys kept same of_xs =
    let back : SameMembers ys xs = λ x. ((same x).1, (same x).0) in
    (of_xs.0, λ version. ((λ there. maximal_by_members xs ys version same ((of_xs.1 version).0 there)), (λ is. (of_xs.1 version).1 (maximal_by_members ys xs version back is))))

-- of a list one set of versions is kept
pub kept_is_single : (xs a b : List Version) → AreKept xs a → AreKept xs b → a ≡ b
kept_is_single xs a b of_a of_b =
    same_sets version_total version_exact IsVersion a b of_a.0.is_set of_b.0.is_set
    (λ q. both_ways _ _ (λ in_a. (of_b.1 q).1 ((of_a.1 q).0 in_a)) (λ in_b. (of_a.1 q).1 ((of_b.1 q).0 in_b)))
