-- The values of cells, joined by kind.
use Rattle.std.specs.Prelude.{ℕ, ◌<◌, ◌^◌, max, false, ◌||◌, List, [], ⊤}
use Rattle.std.specs.Ordering.{ord_max}
use Rattle.lattice_laws.specs.Entries.{IsMap, joined_maps}
use Rattle.lattice_laws.specs.declared.maybe.Maybe.{Maybe}
use Rattle.lattice_laws.specs.declared.maybe.Maybe.TheVariants.{Bottom, Is}
use Rattle.basic_lattices.specs.Stamped.{stamp_cmp, IsStamped}
use Rattle.basic_lattices.specs.TextSet.{IsTextSet, united}
use Rattle.basic_lattices.specs.Word.{IsWord, word_cmp}
use Rattle.version_antichain.specs.Versions.{IsVersions, joined_versions}
use Rattle.dot_lattices.specs.DotSet.{IsDotSet, joined_dot_sets, no_inserts}
use Rattle.dot_lattices.specs.DotSums.{IsDotSums, joined_sums}
use Rattle.composed_value.specs.declared.kind.Kind.{Kind}
use Rattle.composed_value.specs.declared.kind.Kind.TheVariants as kinds
use Rattle.composed_value.specs.declared.value.Value.{Value}
use Rattle.composed_value.specs.declared.value.Value.TheVariants.{Max, Or, Set, Map, Last, Versions, Counter, OrSet}

-- nothing yet, or a value that there can be
abbrev pub IsBottomOr : {P : Type 0} → (P → Type 0) → Maybe P → Type 0
IsBottomOr is_value Bottom = ⊤
IsBottomOr is_value (Is value) = is_value value

-- the join of two of which either may be nothing yet
abbrev pub joined_found : {P : Type 0} → (P → P → P) → Maybe P → Maybe P → Maybe P
joined_found joined Bottom b = b
joined_found joined (Is a) Bottom = Is a
joined_found joined (Is a) (Is b) = Is (joined a b)

-- fields with their numbers, in order
abbrev pub IsFields : List (List ℕ × ℕ) → Type 0
IsFields fields = IsMap word_cmp IsWord (λ number. number < 2 ^ 64) fields

-- of each field the greater number
abbrev pub joined_fields : List (List ℕ × ℕ) → List (List ℕ × ℕ) → List (List ℕ × ℕ)
joined_fields a b = joined_maps word_cmp max a b

-- a value that there can be
abbrev pub IsValue : Value → Type 0
IsValue (Max greatest) = IsBottomOr (λ number. number < 2 ^ 64) greatest
IsValue (Or on) = ⊤
IsValue (Set words) = IsTextSet words
IsValue (Map fields) = IsFields fields
IsValue (Last last) = IsBottomOr IsStamped last
IsValue (Versions versions) = IsVersions versions
IsValue (Counter sums) = IsDotSums sums
IsValue (OrSet set) = IsDotSet set

-- the value of no put
abbrev pub empty_value : Kind → Value
empty_value kinds.Max = Max Bottom
empty_value kinds.Or = Or false
empty_value kinds.Set = Set []
empty_value kinds.Map = Map []
empty_value kinds.Last = Last Bottom
empty_value kinds.Versions = Versions []
empty_value kinds.Counter = Counter []
empty_value kinds.OrSet = OrSet no_inserts

-- The join of two values of one kind. Values of two kinds are never joined.
abbrev pub joined_values : Value → Value → Value
joined_values (Max a) (Max b) = Max (joined_found max a b)
joined_values (Or a) (Or b) = Or (a || b)
joined_values (Set a) (Set b) = Set (united a b)
joined_values (Map a) (Map b) = Map (joined_fields a b)
joined_values (Last a) (Last b) = Last (joined_found (ord_max stamp_cmp) a b)
joined_values (Versions a) (Versions b) = Versions (joined_versions a b)
joined_values (Counter a) (Counter b) = Counter (joined_sums a b)
joined_values (OrSet a) (OrSet b) = OrSet (joined_dot_sets a b)
joined_values a _ = a
