-- Sets as lists of their members in order, each once.
use Rattle.std.specs.Prelude.{Bool, IsTrue, is_some, List, map, All}
use Rattle.std.specs.declared.cmp.Ordering.{Ordering}
use Rattle.std.specs.FinMap.{find, put, is_sorted}
use Rattle.lattice_laws.specs.Entries.{joined_maps}

-- a set as a map to the one-point lattice
abbrev pub as_map : {K : Type 0} → List K → List (K × Unit {0})
as_map members = map (λ member. (member, tt)) members

abbrev pub keys_of : {K : Type 0} → List (K × Unit {0}) → List K
keys_of entries = map (λ entry. entry.0) entries

-- members in ascending order, each once
pub record IsSet {K : Type 0} (cmp : K → K → Ordering) (is_member : K → Type 0) (members : List K) : Type 0 where
  pub ascending : IsTrue (is_sorted cmp (as_map members))
  pub are_members : All is_member members

-- whether a member is in a set
abbrev pub has : {K : Type 0} → (K → K → Ordering) → K → List K → Bool
has cmp member members = is_some (find cmp member (as_map members))

-- a set with one more member
abbrev pub with_member : {K : Type 0} → (K → K → Ordering) → K → List K → List K
with_member cmp member members = keys_of (put cmp member tt (as_map members))

-- the union of two sets
abbrev pub united : {K : Type 0} → (K → K → Ordering) → List K → List K → List K
united cmp a b = keys_of (joined_maps cmp (λ _ _. tt) (as_map a) (as_map b))
