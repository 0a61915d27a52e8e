-- The entries of a vector of versions, and the versions that are seen of them.
use Rattle.std.specs.Prelude.{◌≡◌, Bool, true, false, cond, not, ◌&&◌, ◌||◌, IsTrue, List, [], ◌∷◌, map}
use Rattle.std.specs.List.{list_any, list_all, filter}
use Rattle.std.proofs.Common.{refl, sym, ap, ◌∙◌}
use Rattle.std.proofs.lemmas.List.Folds.{list_all-map}
use Rattle.std.specs.Ordering.{eq_by_cmp}
use Rattle.std.specs.declared.cmp.Ordering.{Ordering}
use Rattle.std.specs.FinMap.{is_sorted}
use Rattle.lattice_laws.specs.Entries.{plain_entries, joined_maps}
use Rattle.lattice_laws.specs.Sets.{as_map, keys_of, has, united}
use Rattle.lattice_laws.specs.SetsLaws.{keys_of-as_map, has-cons}
use Rattle.version_antichain.specs.Antichain.{IsStrictOrder, maximal, joined_antichains}
use Rattle.version_antichain.proofs.AntichainLemmas.{is_within}

-- the keys of entries
abbrev pub keys : {K M : Type 0} → List (K × M) → List K
keys entries = map (λ entry. entry.0) entries

-- the entries as a map to one point are the map of the set of their keys
as_map-keys : {K M : Type 0} (entries : List (K × M)) → as_map (keys entries) ≡ plain_entries {P = Unit {0}} (λ _. tt) entries
as_map-keys [] = refl
as_map-keys (entry ∷ entries) = ap (λ rest. (entry.0, tt) ∷ rest) (as_map-keys entries)

-- so entries with equal maps have equal keys
pub same_keys : {K M : Type 0} (a b : List (K × M)) → plain_entries {P = Unit {0}} (λ _. tt) a ≡ plain_entries {P = Unit {0}} (λ _. tt) b → keys a ≡ keys b
same_keys a b e = sym (keys_of-as_map (keys a)) ∙ ap keys_of (as_map-keys a ∙ e ∙ sym (as_map-keys b)) ∙ keys_of-as_map (keys b)

-- and the join of two maps has the union of their keys
united_keys : {K M : Type 0} (cmp : K → K → Ordering) (all a b : List (K × M)) → plain_entries {P = Unit {0}} (λ _. tt) all ≡ joined_maps {P = Unit {0}} cmp (λ _ _. tt) (plain_entries {P = Unit {0}} (λ _. tt) a) (plain_entries {P = Unit {0}} (λ _. tt) b) → keys all ≡ united cmp (keys a) (keys b)
united_keys cmp all a b e =
    sym (keys_of-as_map (keys all))
    ∙ ap keys_of (as_map-keys all ∙ e ∙ ap (λ m. joined_maps {P = Unit {0}} cmp (λ _ _. tt) m (plain_entries {P = Unit {0}} (λ _. tt) b)) (sym (as_map-keys a)) ∙ ap (joined_maps {P = Unit {0}} cmp (λ _ _. tt) (as_map (keys a))) (sym (as_map-keys b)))

-- a test of the keys is one of the entries
pub list_any-keys : {K M : Type 0} (test : K → Bool) (entries : List (K × M)) → list_any test (keys entries) ≡ list_any (λ entry. test entry.0) entries
list_any-keys test [] = refl
list_any-keys test (entry ∷ entries) = ap (λ rest. test entry.0 || rest) (list_any-keys test entries)

-- a member is there where some key ties with it
has-keys : {K M : Type 0} (cmp : K → K → Ordering) (q : K) (entries : List (K × M)) → has cmp q (keys entries) ≡ list_any (λ entry. eq_by_cmp cmp q entry.0) entries
has-keys cmp q [] = refl
has-keys cmp q (entry ∷ entries) = has-cons cmp q entry.0 (keys entries) ∙ ap (λ rest. eq_by_cmp cmp q entry.0 || rest) (has-keys cmp q entries)

-- tests that agree at each member are passed by all alike
list_all_agree : {X : Type 0} (p q : X → Bool) → ((x : X) → p x ≡ q x) → (xs : List X) → list_all p xs ≡ list_all q xs
list_all_agree p q agree [] = refl
list_all_agree p q agree (x ∷ xs) = ap (λ t. t && list_all p xs) (agree x) ∙ ap (λ rest. q x && rest) (list_all_agree p q agree xs)

-- whether each key stands among the others or below one of them
pub all_within_keys : {K M : Type 0} (cmp : K → K → Ordering) (below : K → K → Bool) (entries others : List (K × M)) → list_all (λ entry. list_any (λ other. eq_by_cmp cmp entry.0 other.0) others || list_any (λ other. below entry.0 other.0) others) entries ≡ list_all (is_within cmp below (keys others)) (keys entries)
all_within_keys cmp below entries others =
    list_all_agree _ (λ entry. is_within cmp below (keys others) entry.0) (λ entry.
    ap (λ t. t || list_any (λ other. below entry.0 other.0) others) (sym (has-keys cmp entry.0 others))
    ∙ ap (λ t. has cmp entry.0 (keys others) || t) (sym (list_any-keys (below entry.0) others))) entries
    ∙ sym (list_all-map (is_within cmp below (keys others)) (λ entry. entry.0) entries)

-- the entries that pass have the keys that pass
keys-filter : {K M : Type 0} (test : K × M → Bool) (key_test : K → Bool) → ((entry : K × M) → test entry ≡ key_test entry.0) → (entries : List (K × M)) → keys (filter test entries) ≡ filter key_test (keys entries)
keys-filter test key_test agree [] = refl
keys-filter test key_test agree (entry ∷ entries) =
    ap (λ t. keys (cond t (entry ∷ filter test entries) (filter test entries))) (agree entry) ∙ by_test (key_test entry.0) (keys-filter test key_test agree entries)
  where
    by_test : (t : Bool) → keys (filter test entries) ≡ filter key_test (keys entries) → keys (cond t (entry ∷ filter test entries) (filter test entries)) ≡ cond t (entry.0 ∷ filter key_test (keys entries)) (filter key_test (keys entries))
    by_test true later = ap (λ rest. entry.0 ∷ rest) later
    by_test false later = later

-- the maximal entries have the maximal keys
maximal-keys : {K M : Type 0} (below : K → K → Bool) (entries : List (K × M)) → keys (maximal (λ entry other. below entry.0 other.0) entries) ≡ maximal below (keys entries)
maximal-keys below entries = keys-filter (λ entry. not (list_any (λ other. below entry.0 other.0) entries)) (λ key. not (list_any (below key) (keys entries))) (λ entry. ap not (sym (list_any-keys (below entry.0) entries))) entries

-- an order of keys is one of entries
pub order_of_entries : {K M : Type 0} {below : K → K → Bool} → IsStrictOrder below → IsStrictOrder {E = K × M} (λ entry other. below entry.0 other.0)
order_of_entries order = record { not_itself = λ a. order.not_itself a.0; through = λ a b c. order.through a.0 b.0 c.0 }

-- a sorted set has sorted entries
pub sorted_slice : {K M : Type 0} (cmp : K → K → Ordering) (slice entries : List (K × M)) → slice ≡ entries → IsTrue (is_sorted cmp (as_map (keys entries))) → IsTrue (is_sorted cmp (plain_entries {P = Unit {0}} (λ _. tt) slice))
sorted_slice cmp slice entries e rises = ap (λ es. is_sorted cmp (plain_entries {P = Unit {0}} (λ _. tt) es)) e ∙ ap (is_sorted cmp) (sym (as_map-keys entries)) ∙ rises

-- what is left of the join of two maps has the keys of the join of two antichains
pub joined_keys : {K M : Type 0} (cmp : K → K → Ordering) (below : K → K → Bool) (all a b a_entries b_entries left : List (K × M)) → plain_entries {P = Unit {0}} (λ _. tt) all ≡ joined_maps {P = Unit {0}} cmp (λ _ _. tt) (plain_entries (λ _. tt) a) (plain_entries (λ _. tt) b) → a ≡ a_entries → b ≡ b_entries → left ≡ maximal (λ entry other. below entry.0 other.0) all → keys left ≡ joined_antichains cmp below (keys a_entries) (keys b_entries)
joined_keys cmp below all a b a_entries b_entries left joined a_is b_is left_is =
    ap keys left_is
    ∙ maximal-keys below all
    ∙ ap (maximal below) (united_keys cmp all a b joined ∙ ap (λ xs. united cmp (keys xs) (keys b)) a_is ∙ ap (λ xs. united cmp (keys a_entries) (keys xs)) b_is)
