-- Maps as lists of entries in the order of their keys, joined key by key.
use Rattle.std.specs.Prelude.{◌≡◌, Bool, true, false, IsTrue, List, [], ◌∷◌, ◌++◌, map, Option, Some, None, All}
use Rattle.std.specs.declared.cmp.Ordering.{Ordering}
use Rattle.std.specs.FinMap.{find, put, is_sorted}
use Rattle.lattice_laws.specs.Maybe.{joined_by}

-- the entries with their values seen as plain values
abbrev pub plain_entries : {K L P : Type 0} → (L → P) → List (K × L) → List (K × P)
plain_entries plain entries = map (λ entry. (entry.0, plain entry.1)) entries

-- two lists have the same entries
abbrev pub AreSame : {K L P : Type 0} → (L → P) → List (K × L) → List (K × L) → Type 0
AreSame plain entries others = plain_entries plain entries ≡ plain_entries plain others

-- an entry that there can be
abbrev pub IsEntry : {K P : Type 0} → (K → Type 0) → (P → Type 0) → K × P → Type 0
IsEntry is_key is_value entry = is_key entry.0 × is_value entry.1

-- entries whose keys strictly rise
pub record IsMap {K P : Type 0} (cmp : K → K → Ordering) (is_key : K → Type 0) (is_value : P → Type 0) (entries : List (K × P)) : Type 0 where
  pub ascending : IsTrue (is_sorted cmp entries)
  pub are_entries : All (IsEntry is_key is_value) entries

-- An item was added after a list, or the list was left as it was, since with the item it would not have its form.
abbrev pub IsPushed : {X : Type 0} → (List X → Type 0) → List X → X → List X → Bool → Type 0
IsPushed HasForm old item new true = new ≡ old ++ item ∷ []
IsPushed HasForm old item new false = (new ≡ old) × (HasForm (old ++ item ∷ []) → ⊥)

-- The entries are the join of two maps: at each key stands the join of what stood there in both, where nothing is a bottom.
pub record IsJoin {K P : Type 0} (cmp : K → K → Ordering) (joined : P → P → P) (a b c : List (K × P)) : Type 0 where
  pub ascending : IsTrue (is_sorted cmp c)
  pub at_each : (q : K) → find cmp q c ≡ joined_by joined (find cmp q a) (find cmp q b)

-- a value joined with what stands at a key, where anything does
abbrev pub with_old : {P : Type 0} → (P → P → P) → Option P → P → P
with_old joined None value = value
with_old joined (Some old) value = joined old value

-- a map with the value at the key raised by another
abbrev pub raised : {K P : Type 0} → (K → K → Ordering) → (P → P → P) → K → P → List (K × P) → List (K × P)
raised cmp joined key value entries = put cmp key (with_old joined (find cmp key entries) value) entries

-- the join of two maps, computed by raising the first by each entry of the second; `JoinsPerKey` says what it is
abbrev pub joined_maps : {K P : Type 0} → (K → K → Ordering) → (P → P → P) → List (K × P) → List (K × P) → List (K × P)
joined_maps cmp joined a [] = a
joined_maps cmp joined a (entry ∷ b) = joined_maps cmp joined (raised cmp joined entry.0 entry.1 a) b

-- the first map joined into the second would change nothing
abbrev pub AddsNothing : {K P : Type 0} → (K → K → Ordering) → (P → P → P) → List (K × P) → List (K × P) → Type 0
AddsNothing cmp joined a b = joined_maps cmp joined a b ≡ b

-- Maps are told by what stands at each key: a join of two has at each key the join of what stands there in both, and two with the same at each key are one.
pub record JoinsPerKey {K P : Type 0} (cmp : K → K → Ordering) (joined : P → P → P) (is_map : List (K × P) → Type 0) : Type 0 where
  pub is_join : (a b : List (K × P)) → is_map a → is_map b → IsJoin cmp joined a b (joined_maps cmp joined a b)
  pub same : (a b : List (K × P)) → is_map a → is_map b → ((q : K) → find cmp q a ≡ find cmp q b) → a ≡ b
