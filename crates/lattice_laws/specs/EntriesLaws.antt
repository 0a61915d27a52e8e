-- The join of maps keeps the laws, since at each key stands the join of what stood there.
use Rattle.std.specs.Prelude.{◌≡◌, ⊤, Bool, true, false, cond, IsTrue, List, [], ◌∷◌, Option, Some, None, All}
use Rattle.std.proofs.Common.{refl, sym, ap, ◌∙◌}
use Rattle.std.proofs.lemmas.List.Elements.{All-cons, All-head, All-tail}
use Rattle.std.specs.declared.cmp.Ordering.{Ordering}
use Rattle.std.specs.declared.cmp.Ordering.TheVariants.{Less, Equal, Greater}
use Rattle.std.specs.Ordering.{eq_by_cmp}
use Rattle.std.specs.Cmp.{IsTotalOrder, Equal-is}
use Rattle.std.specs.FinMap.{find, put, is_sorted, IsAntisymmetric}
use Rattle.std.specs.FinMap.Entries.{find-put, find_tied, same_entries, by_order}
use Rattle.lattice_laws.specs.Lattice.{LatticeLaws, Associative}
use Rattle.lattice_laws.specs.Maybe.{IsValue, joined_by}
use Rattle.lattice_laws.specs.MaybeLaws.{maybe_laws, maybe_associative}
use Rattle.lattice_laws.specs.Entries.{IsEntry, IsMap, IsJoin, JoinsPerKey, with_old, raised, joined_maps}
use Rattle.lattice_laws.specs.Ascending.{pass_from_true, first_below, ascending_tail, find_below, below_tied, joined_ascending}

-- the value joined with what stood there, as the join with a bottom has it
with_old-joined_by : {P : Type 0} (joined : P → P → P) (old : Option P) (value : P) → Some (with_old joined old value) ≡ joined_by joined old (Some value)
with_old-joined_by joined None value = refl
with_old-joined_by joined (Some old) value = refl

-- to join the bottom changes nothing
joined_by-None : {P : Type 0} (joined : P → P → P) (old : Option P) → joined_by joined old None ≡ old
joined_by-None joined None = refl
joined_by-None joined (Some old) = refl

module _ {K P : Type 0} {cmp : K → K → Ordering} (joined : P → P → P) (total : IsTotalOrder cmp) where
  -- a map raised at a key and then joined, seen at one key
  joined_at_key : (q : K) (a b : List (K × P)) (e : K × P) (ties : Bool) → eq_by_cmp cmp q e.0 ≡ ties → IsTrue (is_sorted cmp (e ∷ b)) → joined_by joined (find cmp q (raised cmp joined e.0 e.1 a)) (find cmp q b) ≡ joined_by joined (find cmp q a) (cond ties (Some e.1) (find cmp q b))
  joined_at_key q a b e true is rises =
      let tied : cmp q e.0 ≡ Equal = (Equal-is _).0 is in
      let none : find cmp q b ≡ None = find_below cmp q b (below_tied cmp total q e.0 b tied (first_below cmp e b rises)) in
      let same : find cmp e.0 a ≡ find cmp q a = find_tied cmp total q e.0 tied a in
      ap (λ x. joined_by joined (find cmp q (raised cmp joined e.0 e.1 a)) x) none
      ∙ joined_by-None joined (find cmp q (raised cmp joined e.0 e.1 a))
      ∙ find-put cmp total q e.0 (with_old joined (find cmp e.0 a) e.1) a
      ∙ ap (λ t. cond t (Some (with_old joined (find cmp e.0 a) e.1)) (find cmp q a)) is
      ∙ ap (λ old. Some (with_old joined old e.1)) same
      ∙ with_old-joined_by joined (find cmp q a) e.1
  joined_at_key q a b e false is rises =
      ap (λ x. joined_by joined x (find cmp q b))
      (find-put cmp total q e.0 (with_old joined (find cmp e.0 a) e.1) a
      ∙ ap (λ t. cond t (Some (with_old joined (find cmp e.0 a) e.1)) (find cmp q a)) is)

  -- at each key stands the join of what stood there in both
  pub find-joined_maps : (q : K) (a b : List (K × P)) → IsTrue (is_sorted cmp b) → find cmp q (joined_maps cmp joined a b) ≡ joined_by joined (find cmp q a) (find cmp q b)
  find-joined_maps q a [] rises = sym (joined_by-None joined (find cmp q a))
  find-joined_maps q a (e ∷ b) rises =
      find-joined_maps q (raised cmp joined e.0 e.1 a) b (ascending_tail cmp e b rises)
      ∙ joined_at_key q a b e (eq_by_cmp cmp q e.0) refl rises

  -- so the join of maps is what it is called
  pub joined_maps_is_join : (a b : List (K × P)) → IsTrue (is_sorted cmp a) → IsTrue (is_sorted cmp b) → IsJoin cmp joined a b (joined_maps cmp joined a b)
  joined_maps_is_join a b a_rises b_rises = record {
    ascending = joined_ascending cmp total joined a b a_rises;
    at_each = λ q. find-joined_maps q a b b_rises;
  }

module _ {K P : Type 0} (cmp : K → K → Ordering) (is_key : K → Type 0) (is_value : P → Type 0) where
  -- what is found in a map is a value
  pub found_is_value : (key : K) (es : List (K × P)) → All (IsEntry is_key is_value) es → IsValue is_value (find cmp key es)
  found_is_value key [] all = tt
  found_is_value key (e ∷ es) all =
      let here : is_value e.1 = (All-head (IsEntry is_key is_value) e es all).1 in
      let later = found_is_value key es (All-tail (IsEntry is_key is_value) e es all) in
      elim (eq_by_cmp cmp key e.0) as (λ t. IsValue is_value (cond t (Some e.1) (find cmp key es))) [ true ↦ here | false ↦ later ]

  -- entries with an entry put among them
  put_entries : (key : K) (value : P) (es : List (K × P)) → is_key key → is_value value → All (IsEntry is_key is_value) es → All (IsEntry is_key is_value) (put cmp key value es)
  put_entries key value [] k v all = All-cons (IsEntry is_key is_value) (key, value) [] (k, v) all
  put_entries key value (e ∷ es) k v all =
      let good : K × P → Type 0 = IsEntry is_key is_value in
      let here : good e = All-head good e es all in
      let others = All-tail good e es all in
      elim (cmp key e.0) as (λ r. All good (by_order r ((key, value) ∷ e ∷ es) ((e.0, value) ∷ es) (e ∷ put cmp key value es))) [
        | Less ↦ All-cons good (key, value) (e ∷ es) (k, v) all
        | Equal ↦ All-cons good (e.0, value) es (here.0, v) others
        | Greater ↦ All-cons good e (put cmp key value es) here (put_entries key value es k v others)
      ]

module _ {P : Type 0} {is_value : P → Type 0} {fits : P → P → Type 0} {joined : P → P → P} (laws : LatticeLaws is_value fits joined) (all_fit : (a b : P) → fits a b) where
  -- a value joined with what stood there is a value
  with_old_is_value : (old : Option P) (value : P) → IsValue is_value old → is_value value → is_value (with_old joined old value)
  with_old_is_value None value vo v = v
  with_old_is_value (Some old) value vo v = (laws.closed old value vo v (all_fit old value)).0

module _ {K P : Type 0} {cmp : K → K → Ordering} {is_value : P → Type 0} {fits : P → P → Type 0} {joined : P → P → P} (total : IsTotalOrder cmp) (exact : IsAntisymmetric cmp) (is_key : K → Type 0) (laws : LatticeLaws is_value fits joined) (all_fit : (a b : P) → fits a b) where
  -- the join of two maps has the entries of a map
  joined_entries : (a b : List (K × P)) → All (IsEntry is_key is_value) a → All (IsEntry is_key is_value) b → All (IsEntry is_key is_value) (joined_maps cmp joined a b)
  joined_entries a [] va vb = va
  joined_entries a (e ∷ b) va vb =
      let good : K × P → Type 0 = IsEntry is_key is_value in
      let here : good e = All-head good e b vb in
      let value = with_old_is_value laws all_fit (find cmp e.0 a) e.1 (found_is_value cmp is_key is_value e.0 a va) here.1 in
      joined_entries (raised cmp joined e.0 e.1 a) b (put_entries cmp is_key is_value e.0 (with_old joined (find cmp e.0 a) e.1) a here.0 value va) (All-tail good e b vb)

  -- the join of two maps is a map
  joined_is_map : (a b : List (K × P)) → IsMap cmp is_key is_value a → IsMap cmp is_key is_value b → IsMap cmp is_key is_value (joined_maps cmp joined a b)
  joined_is_map a b ma mb = record { ascending = joined_ascending cmp total joined a b ma.ascending; are_entries = joined_entries a b ma.are_entries mb.are_entries }

  -- maps that agree at each key are equal
  pub same_from_keys : (a b : List (K × P)) → IsMap cmp is_key is_value a → IsMap cmp is_key is_value b → ((q : K) → find cmp q a ≡ find cmp q b) → a ≡ b
  same_from_keys a b ma mb agree = same_entries cmp total exact a b (pass_from_true _ ma.ascending) (pass_from_true _ mb.ascending) agree

  -- so maps are told by what stands at each key
  pub maps_join_per_key : JoinsPerKey cmp joined (IsMap cmp is_key is_value)
  maps_join_per_key = record {
    is_join = λ a b ma mb. joined_maps_is_join joined total a b ma.ascending mb.ascending;
    same = same_from_keys;
  }

  -- maps keep the laws of their values
  pub map_laws : LatticeLaws (IsMap cmp is_key is_value) (λ _ _. ⊤) (joined_maps cmp joined)
  map_laws =
      let at_key = maybe_laws laws all_fit in
      let found : (q : K) (a : List (K × P)) → IsMap cmp is_key is_value a → IsValue is_value (find cmp q a) = λ q a ma. found_is_value cmp is_key is_value q a ma.are_entries in
      record {
        fits_itself = λ a ma. tt;
        fits_back = λ a b ma mb h. tt;
        fits_on = λ a b c ma mb mc h i. tt;
        closed = λ a b ma mb h. (joined_is_map a b ma mb, tt, tt);
        commutative = λ a b ma mb h. same_from_keys _ _ (joined_is_map a b ma mb) (joined_is_map b a mb ma) (λ q.
            find-joined_maps joined total q a b mb.ascending
            ∙ at_key.commutative (find cmp q a) (find cmp q b) (found q a ma) (found q b mb) tt
            ∙ sym (find-joined_maps joined total q b a ma.ascending));
        idempotent = λ a ma. same_from_keys _ _ (joined_is_map a a ma ma) ma (λ q.
            find-joined_maps joined total q a a ma.ascending ∙ at_key.idempotent (find cmp q a) (found q a ma));
      }

  -- and how joins of maps are grouped does not matter where it does not for their values
  pub map_associative : Associative is_value fits joined → Associative (IsMap cmp is_key is_value) (λ _ _. ⊤) (joined_maps cmp joined)
  map_associative associative a b c ma mb mc h i =
      let ab = joined_is_map a b ma mb in
      let bc = joined_is_map b c mb mc in
      same_from_keys _ _ (joined_is_map _ c ab mc) (joined_is_map a _ ma bc) (λ q.
      find-joined_maps joined total q _ c mc.ascending
      ∙ ap (λ x. joined_by joined x (find cmp q c)) (find-joined_maps joined total q a b mb.ascending)
      ∙ maybe_associative joined associative all_fit (find cmp q a) (find cmp q b) (find cmp q c) (found_is_value cmp is_key is_value q a ma.are_entries) (found_is_value cmp is_key is_value q b mb.are_entries) (found_is_value cmp is_key is_value q c mc.are_entries) tt tt
      ∙ ap (joined_by joined (find cmp q a)) (sym (find-joined_maps joined total q b c mc.ascending))
      ∙ sym (find-joined_maps joined total q a _ bc.ascending))
