-- Sparse maps are told by what stands at each key.
use Rattle.std.specs.Cmp.Derive.{both_true}
use Rattle.std.specs.Prelude.{◌≡◌, ◌↔◌, Bool, true, false, cond, IsTrue, List, [], ◌∷◌, Option, Some, None, unwrap_or}
use Rattle.std.proofs.Common.{refl, sym, ap, ◌∙◌}
use Rattle.std.specs.declared.cmp.Ordering.{Ordering}
use Rattle.std.specs.Ordering.{eq_by_cmp}
use Rattle.std.specs.Cmp.{IsTotalOrder, Equal-is}
use Rattle.std.specs.FinMap.{find, is_sorted, IsAntisymmetric}
use Rattle.lattice_laws.specs.Lattice.{LatticeLaws}
use Rattle.lattice_laws.specs.Maybe.{IsValue}
use Rattle.lattice_laws.specs.Entries.{IsMap, joined_maps}
use Rattle.lattice_laws.specs.EntriesLaws.{same_from_keys}
use Rattle.lattice_laws.specs.Ascending.{first_below, ascending_tail, find_below, below_tied}
use Rattle.clock_lattice.specs.SparseLaws.{IsBottom, value_at, each_at_most, first_value, at_each_key, found_any, found, value_at-joined}

module _ {K P : Type 0} {cmp : K → K → Ordering} (total : IsTotalOrder cmp) (exact : IsAntisymmetric cmp) (bottom : P) where
  module _ (at_most : P → P → Bool) (below_all : (x : P) → at_most bottom x ≡ true) where
    -- a test of each key is one of each entry, where each key stands there once
    pub from_each_key : (entries others : List (K × P)) → IsTrue (is_sorted cmp entries) → ((key : K) → at_most (value_at cmp bottom key entries) (value_at cmp bottom key others) ≡ true) → IsTrue (each_at_most cmp bottom at_most entries others)
    from_each_key [] others rises each = refl
    from_each_key (e ∷ es) others rises each =
        both_true (ap (λ x. at_most x (value_at cmp bottom e.0 others)) (sym (first_value total exact bottom e es)) ∙ each e.0) (from_each_key es others (ascending_tail cmp e es rises) (λ key. later key (eq_by_cmp cmp key e.0) refl))
      where
        later : (key : K) (ties : Bool) → eq_by_cmp cmp key e.0 ≡ ties → at_most (value_at cmp bottom key es) (value_at cmp bottom key others) ≡ true
        later key true is =
            let none : find cmp key es ≡ None = find_below cmp key es (below_tied cmp total key e.0 es ((Equal-is _).0 is) (first_below cmp e es rises)) in
            ap (λ found. at_most (unwrap_or found bottom) (value_at cmp bottom key others)) none ∙ below_all _
        later key false is = ap (λ t. at_most (unwrap_or (cond t (Some e.1) (find cmp key es)) bottom) (value_at cmp bottom key others)) (sym is) ∙ each key

module _ {P : Type 0} {is_value is_any : P → Type 0} {joined : P → P → P} {bottom : P} (is_bottom : IsBottom is_value is_any joined bottom) where
  -- what stands at a key tells what is kept there
  same_found : (a b : Option P) → IsValue is_value a → IsValue is_value b → unwrap_or a bottom ≡ unwrap_or b bottom → a ≡ b
  same_found None None va vb e = refl
  same_found None (Some b) va vb e = absurd (is_bottom.not_kept b vb (sym e))
  same_found (Some a) None va vb e = absurd (is_bottom.not_kept a va e)
  same_found (Some a) (Some b) va vb e = ap Some e

module _ {K P : Type 0} {cmp : K → K → Ordering} {is_value is_any : P → Type 0} {fits : P → P → Type 0} {joined : P → P → P} {bottom : P} (total : IsTotalOrder cmp) (exact : IsAntisymmetric cmp) (is_key : K → Type 0) (laws : LatticeLaws is_value fits joined) (all_fit : (a b : P) → fits a b) (is_bottom : IsBottom is_value is_any joined bottom) where
  -- what stands at a key is a value that is kept, or the bottom
  pub value_at_is_any : (key : K) (a : List (K × P)) → IsMap cmp is_key is_value a → is_any (value_at cmp bottom key a)
  value_at_is_any key a ma = found_any is_bottom (find cmp key a) (found total exact is_key laws all_fit is_bottom key a ma)

  -- two sparse maps with the same values are one
  pub same_values : (a b : List (K × P)) → IsMap cmp is_key is_value a → IsMap cmp is_key is_value b → ((key : K) → value_at cmp bottom key a ≡ value_at cmp bottom key b) → a ≡ b
  same_values a b ma mb agree = same_from_keys total exact is_key laws all_fit a b ma mb (λ key. same_found is_bottom _ _ (found total exact is_key laws all_fit is_bottom key a ma) (found total exact is_key laws all_fit is_bottom key b mb) (agree key))

  -- Where a test of values is their order, the test of each entry is the order of the maps.
  pub each_changes_nothing :
      (at_most : P → P → Bool) → ((x : P) → at_most bottom x ≡ true) → ((x y : P) → is_any x → is_any y → (at_most x y ≡ true) ↔ (joined x y ≡ y)) → (closed : (a b : List (K × P)) → IsMap cmp is_key is_value a → IsMap cmp is_key is_value b → IsMap cmp is_key is_value (joined_maps cmp joined a b))
      → (a b : List (K × P)) → IsMap cmp is_key is_value a → IsMap cmp is_key is_value b → IsTrue (each_at_most cmp bottom at_most a b) ↔ (joined_maps cmp joined a b ≡ b)
  each_changes_nothing at_most below_all is_order closed a b ma mb =
      let any : (key : K) (c : List (K × P)) → IsMap cmp is_key is_value c → is_any (value_at cmp bottom key c) = value_at_is_any in (
        (λ h. same_values (joined_maps cmp joined a b) b (closed a b ma mb) mb (λ key.
            value_at-joined total exact is_key laws all_fit is_bottom key a b ma mb ∙ (is_order (value_at cmp bottom key a) (value_at cmp bottom key b) (any key a ma) (any key b mb)).0 (at_each_key total exact bottom at_most below_all a b h key))),
        (λ e. from_each_key total exact bottom at_most below_all a b ma.ascending (λ key.
            (is_order (value_at cmp bottom key a) (value_at cmp bottom key b) (any key a ma) (any key b mb)).1 (sym (value_at-joined total exact is_key laws all_fit is_bottom key a b ma mb) ∙ ap (value_at cmp bottom key) e))),
      )
