-- Where a key stands among entries in the order of their keys, or where it would go.
use Rattle.std.specs.Prelude.{◌≡◌, ℕ, ◌<◌, ◌≤◌, List, length, slice_index_or}
use Rattle.std.specs.declared.cmp.Ordering.{Ordering}
use Rattle.std.specs.declared.cmp.Ordering.TheVariants.{Less, Equal, Greater}

-- the key of the entry at place i is the key
pub record IsPlaceOf {K V : Type 0} (cmp : K → K → Ordering) (key : K) (entries : List (K × V)) (i : ℕ) : Type 0 where
  pub in_range : i < length entries
  pub ties : (d : K × V) → cmp key (slice_index_or entries i d).0 ≡ Equal

-- the keys before place i are below the key, and those from it on are above it
pub record IsGapFor {K V : Type 0} (cmp : K → K → Ordering) (key : K) (entries : List (K × V)) (i : ℕ) : Type 0 where
  pub in_range : i ≤ length entries
  pub below_before : (j : ℕ) (d : K × V) → j < i → cmp key (slice_index_or entries j d).0 ≡ Greater
  pub above_after : (j : ℕ) (d : K × V) → i ≤ j → j < length entries → cmp key (slice_index_or entries j d).0 ≡ Less
