-- Sparse maps: a key that is not there stands for a bottom, which is never kept. What stands at each key says all of such a map.
use Rattle.std.proofs.lemmas.Bool.{and_parts}
use Rattle.std.specs.Prelude.{◌≡◌, ◌≢◌, Bool, true, false, cond, IsTrue, List, [], ◌∷◌, Option, Some, None, unwrap_or}
use Rattle.std.specs.List.{list_all}
use Rattle.std.proofs.Common.{refl, sym, ap, ◌∙◌}
use Rattle.std.proofs.lemmas.Cmp.{tied_itself}
use Rattle.std.specs.declared.cmp.Ordering.{Ordering}
use Rattle.std.specs.Ordering.{is_eq, eq_by_cmp}
use Rattle.std.specs.Cmp.{IsTotalOrder, Equal-is}
use Rattle.std.specs.FinMap.{find, IsAntisymmetric}
use Rattle.lattice_laws.specs.Lattice.{LatticeLaws}
use Rattle.lattice_laws.specs.Maybe.{IsValue, joined_by}
use Rattle.lattice_laws.specs.Entries.{IsMap, joined_maps}
use Rattle.lattice_laws.specs.EntriesLaws.{find-joined_maps, found_is_value}

-- a bottom that is none of the values that are kept, and that joins with each of these and itself
pub record IsBottom {P : Type 0} (is_value is_any : P → Type 0) (joined : P → P → P) (bottom : P) : Type 0 where
  pub any_value : (x : P) → is_value x → is_any x
  pub any_bottom : is_any bottom
  pub not_kept : (x : P) → is_value x → x ≢ bottom
  pub joined_left : (x : P) → is_any x → joined bottom x ≡ x
  pub joined_right : (x : P) → is_any x → joined x bottom ≡ x

-- what stands at a key
abbrev pub value_at : {K P : Type 0} → (K → K → Ordering) → P → K → List (K × P) → P
value_at cmp bottom key entries = unwrap_or (find cmp key entries) bottom

-- what stands at each key of the first map is at most what stands there in the second
abbrev pub each_at_most : {K P : Type 0} → (K → K → Ordering) → P → (P → P → Bool) → List (K × P) → List (K × P) → Bool
each_at_most cmp bottom at_most entries others = list_all (λ entry. at_most entry.1 (value_at cmp bottom entry.0 others)) entries

module _ {K P : Type 0} {cmp : K → K → Ordering} (total : IsTotalOrder cmp) (exact : IsAntisymmetric cmp) (bottom : P) where
  -- the first key has the first value
  pub first_value : (e : K × P) (es : List (K × P)) → value_at cmp bottom e.0 (e ∷ es) ≡ e.1
  first_value e es = ap (λ r. unwrap_or (cond (is_eq r) (Some e.1) (find cmp e.0 es)) bottom) (tied_itself total e.0)

  module _ (at_most : P → P → Bool) (below_all : (x : P) → at_most bottom x ≡ true) where
    -- a test of each entry is one of each key
    pub at_each_key : (entries others : List (K × P)) → IsTrue (each_at_most cmp bottom at_most entries others) → (key : K) → at_most (value_at cmp bottom key entries) (value_at cmp bottom key others) ≡ true
    at_each_key [] others h key = below_all _
    at_each_key (e ∷ es) others h key = at_each_key_as (at_each_key es others (and_parts _ _ h).1 key) (eq_by_cmp cmp key e.0) refl
      where
        at_each_key_as : at_most (value_at cmp bottom key es) (value_at cmp bottom key others) ≡ true → (ties : Bool) → eq_by_cmp cmp key e.0 ≡ ties → at_most (unwrap_or (cond (eq_by_cmp cmp key e.0) (Some e.1) (find cmp key es)) bottom) (value_at cmp bottom key others) ≡ true
        at_each_key_as later true is =
            let same : key ≡ e.0 = exact key e.0 ((Equal-is _).0 is) in
            ap (λ t. at_most (unwrap_or (cond t (Some e.1) (find cmp key es)) bottom) (value_at cmp bottom key others)) is
            ∙ ap (λ k. at_most e.1 (value_at cmp bottom k others)) same
            ∙ (and_parts _ _ h).0
        at_each_key_as later false is =
            ap (λ t. at_most (unwrap_or (cond t (Some e.1) (find cmp key es)) bottom) (value_at cmp bottom key others)) is
            ∙ later

module _ {P : Type 0} {is_value is_any : P → Type 0} {joined : P → P → P} {bottom : P} (is_bottom : IsBottom is_value is_any joined bottom) where
  -- what stands at a key is a value or the bottom
  pub found_any : (found : Option P) → IsValue is_value found → is_any (unwrap_or found bottom)
  found_any None v = is_bottom.any_bottom
  found_any (Some x) v = is_bottom.any_value x v

  -- where nothing stands, the bottom joins
  joined_found : (a b : Option P) → IsValue is_value a → IsValue is_value b → unwrap_or (joined_by joined a b) bottom ≡ joined (unwrap_or a bottom) (unwrap_or b bottom)
  joined_found None b va vb = sym (is_bottom.joined_left (unwrap_or b bottom) (found_any b vb))
  joined_found (Some a) None va vb = sym (is_bottom.joined_right a (is_bottom.any_value a va))
  joined_found (Some a) (Some b) va vb = refl

module _ {K P : Type 0} {cmp : K → K → Ordering} {is_value is_any : P → Type 0} {fits : P → P → Type 0} {joined : P → P → P} {bottom : P} (total : IsTotalOrder cmp) (exact : IsAntisymmetric cmp) (is_key : K → Type 0) (laws : LatticeLaws is_value fits joined) (all_fit : (a b : P) → fits a b) (is_bottom : IsBottom is_value is_any joined bottom) where
  pub found : (key : K) (a : List (K × P)) → IsMap cmp is_key is_value a → IsValue is_value (find cmp key a)
  found key a ma = found_is_value cmp is_key is_value key a ma.are_entries

  -- at each key of a join stands the join of what stood there
  pub value_at-joined : (key : K) (a b : List (K × P)) → IsMap cmp is_key is_value a → IsMap cmp is_key is_value b → value_at cmp bottom key (joined_maps cmp joined a b) ≡ joined (value_at cmp bottom key a) (value_at cmp bottom key b)
  value_at-joined key a b ma mb =
      ap (λ x. unwrap_or x bottom) (find-joined_maps joined total key a b mb.ascending)
      ∙ joined_found is_bottom (find cmp key a) (find cmp key b) (found key a ma) (found key b mb)
