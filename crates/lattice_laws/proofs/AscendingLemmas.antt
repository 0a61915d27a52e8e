-- More of entries whose keys strictly rise: what is below each and below all, what a raise does, and one more entry after the others.
use Rattle.std.specs.Prelude.{◌≡◌, ℕ, zero, suc, ◌+◌, ◌<◌, Bool, true, false, cond, ◌&&◌, IsTrue, List, [], ◌∷◌, ◌++◌, length, slice_get, slice_index_or, Some}
use Rattle.std.proofs.Common.{refl, sym, ap, ◌∙◌, arith}
use Rattle.std.proofs.lemmas.Option.{get_or_from_slice_get}
use Rattle.std.specs.declared.cmp.Ordering.{Ordering}
use Rattle.std.specs.declared.cmp.Ordering.TheVariants.{Less, Equal, Greater}
use Rattle.std.specs.Ordering.{is_lt, is_eq, ordering_reverse}
use Rattle.std.specs.Cmp.{IsTotalOrder}
use Rattle.std.specs.FinMap.{find, put, is_sorted}
use Rattle.std.specs.FinMap.Entries.{below_all, by_order}
use Rattle.lattice_laws.specs.Entries.{with_old, raised}
use Rattle.lattice_laws.specs.Ascending.{Less_from_is_lt, below_first, below_others, below_cons, first_below, ascending_tail, find_below}

-- where the second test implies the first, both say what the second does
and_implied : (a b : Bool) → (IsTrue b → IsTrue a) → (a && b) ≡ b
and_implied true b implied = refl
and_implied false true implied = implied refl
and_implied false false implied = refl

-- a test with tests beside it that pass says the same
and_true_twice : (a : Bool) → ((a && true) && true) ≡ a
and_true_twice true = refl
and_true_twice false = refl

-- what is below is above, seen from the other
pub Greater_from_Less : {K : Type 0} (cmp : K → K → Ordering) → IsTotalOrder cmp → (x y : K) → cmp x y ≡ Less → cmp y x ≡ Greater
Greater_from_Less cmp total x y h = total.antisymm y x ∙ ap ordering_reverse h

-- and the other way round
pub Less_from_Greater : {K : Type 0} (cmp : K → K → Ordering) → IsTotalOrder cmp → (x y : K) → cmp x y ≡ Greater → cmp y x ≡ Less
Less_from_Greater cmp total x y h = total.antisymm y x ∙ ap ordering_reverse h

module _ {K P : Type 0} (cmp : K → K → Ordering) where
  -- a key below all is below each
  pub below_at : (key : K) (es : List (K × P)) (i : ℕ) (d : K × P) → i < length es → IsTrue (below_all cmp key es) → cmp key (slice_index_or es i d).0 ≡ Less
  below_at key [] i d in_range h = absurd (omega arith)
  below_at key (e ∷ es) zero d in_range h = below_first cmp key e es h
  below_at key (e ∷ es) (suc i) d in_range h = below_at key es i d (omega arith) (below_others cmp key e es h)

  -- a key below each is below all
  pub below_all_from_each : (key : K) (es : List (K × P)) → ((i : ℕ) (d : K × P) → i < length es → cmp key (slice_index_or es i d).0 ≡ Less) → IsTrue (below_all cmp key es)
  below_all_from_each key [] each = refl
  below_all_from_each key (e ∷ es) each = below_cons cmp key e es (each 0 e (omega arith)) (below_all_from_each key es (λ i d in_range. each (suc i) d (omega arith)))

  -- a key above the first is raised in the rest
  pub raised_past : (joined : P → P → P) (key : K) (value : P) (e : K × P) (es : List (K × P)) → cmp key e.0 ≡ Greater → raised cmp joined key value (e ∷ es) ≡ e ∷ raised cmp joined key value es
  raised_past joined key value e es h =
      let new : Ordering → P = λ r. with_old joined (cond (is_eq r) (Some e.1) (find cmp key es)) value in
      ap (λ r. by_order r ((key, new r) ∷ e ∷ es) ((e.0, new r) ∷ es) (e ∷ put cmp key (new r) es)) h

  -- the first key is raised in its place
  pub raised_first : (joined : P → P → P) (key : K) (value : P) (e : K × P) (es : List (K × P)) → cmp key e.0 ≡ Equal → raised cmp joined key value (e ∷ es) ≡ (e.0, joined e.1 value) ∷ es
  raised_first joined key value e es h =
      let new : Ordering → P = λ r. with_old joined (cond (is_eq r) (Some e.1) (find cmp key es)) value in
      ap (λ r. by_order r ((key, new r) ∷ e ∷ es) ((e.0, new r) ∷ es) (e ∷ put cmp key (new r) es)) h

  -- a key below all comes before them
  pub raised_before : (joined : P → P → P) (key : K) (value : P) (es : List (K × P)) → IsTrue (below_all cmp key es) → raised cmp joined key value es ≡ (key, value) ∷ es
  raised_before joined key value [] h = refl
  raised_before joined key value (e ∷ es) h =
      ap (λ old. put cmp key (with_old joined old value) (e ∷ es)) (find_below cmp key (e ∷ es) h)
      ∙ ap (λ r. by_order r ((key, value) ∷ e ∷ es) ((e.0, value) ∷ es) (e ∷ put cmp key value es)) (below_first cmp key e es h)

  -- a key below all, and below the key of one more, is below all of them
  below_pushed : (key : K) (es : List (K × P)) (e : K × P) → IsTrue (below_all cmp key es) → cmp key e.0 ≡ Less → IsTrue (below_all cmp key (es ++ e ∷ []))
  below_pushed key [] e h g = below_cons cmp key e [] g refl
  below_pushed key (x ∷ es) e h g = below_cons cmp key x (es ++ e ∷ []) (below_first cmp key x es h) (below_pushed key es e (below_others cmp key x es h) g)

  module _ (total : IsTotalOrder cmp) where
    -- entries rise with one more after them just where its key is above the last one's
    pub is_sorted-pushed : (es : List (K × P)) (i : ℕ) (last e : K × P) → i + 1 ≡ length es → slice_get es i ≡ Some last → IsTrue (is_sorted cmp es) → is_sorted cmp (es ++ e ∷ []) ≡ is_lt (cmp last.0 e.0)
    is_sorted-pushed [] i last e ends here rises = absurd (omega arith)
    is_sorted-pushed (x ∷ []) zero last e ends here rises =
        let same : x ≡ last = cc in
        and_true_twice (is_lt (cmp x.0 e.0)) ∙ ap (λ y. is_lt (cmp y.0 e.0)) same
    is_sorted-pushed (x ∷ []) (suc i) last e ends here rises = absurd (omega arith)
    is_sorted-pushed (x ∷ y ∷ es) zero last e ends here rises = absurd (omega arith)
    is_sorted-pushed (x ∷ y ∷ es) (suc i) last e ends here rises =
        let others = is_sorted-pushed (y ∷ es) i last e (omega arith) here (ascending_tail cmp x (y ∷ es) rises) in
        and_implied (below_all cmp x.0 (y ∷ es ++ e ∷ [])) (is_sorted cmp (y ∷ es ++ e ∷ [])) (λ rise.
        let below_last : cmp x.0 last.0 ≡ Less = ap (λ z. cmp x.0 z.0) (sym (get_or_from_slice_get (y ∷ es) i last last here)) ∙ below_at x.0 (y ∷ es) i last (omega arith) (first_below cmp x (y ∷ es) rises) in
        let last_below : cmp last.0 e.0 ≡ Less = Less_from_is_lt _ (sym others ∙ rise) in
        below_pushed x.0 (y ∷ es) e (first_below cmp x (y ∷ es) rises) (total.trans x.0 last.0 e.0 below_last last_below))
        ∙ others

    -- what is below a key is below all that the key is below
    pub below_through : (x y : K) (es : List (K × P)) → cmp x y ≡ Less → IsTrue (below_all cmp y es) → IsTrue (below_all cmp x es)
    below_through x y [] g h = refl
    below_through x y (e ∷ es) g h = below_cons cmp x e es (total.trans x y e.0 g (below_first cmp y e es h)) (below_through x y es g (below_others cmp y e es h))
