-- Entries whose keys strictly rise: what is below them all, and what one of them raised by a value is.
use Rattle.std.specs.Cmp.Derive.{both_true}
use Rattle.std.proofs.lemmas.Bool.{and_parts}
use Rattle.std.specs.Prelude.{◌≡◌, Bool, true, false, T, IsTrue, List, [], ◌∷◌, None}
use Rattle.std.proofs.Common.{refl, sym, ap, subst, ◌∙◌}
use mathlib.Core.Bool.{false≢true}
use Rattle.std.specs.declared.cmp.Ordering.{Ordering}
use Rattle.std.specs.declared.cmp.Ordering.TheVariants.{Less, Equal, Greater}
use Rattle.std.specs.Ordering.{is_lt}
use Rattle.std.specs.Cmp.{IsTotalOrder}
use Rattle.std.specs.FinMap.{find, is_sorted}
use Rattle.std.specs.FinMap.Entries.{below_all, is_sorted-put}
use Rattle.lattice_laws.specs.Entries.{with_old, raised, joined_maps}

-- a test that passes is true
pub true_from_pass : (b : Bool) → T b → IsTrue b
true_from_pass true h = refl
true_from_pass false h = absurd h

-- and the other way round
pub pass_from_true : (b : Bool) → IsTrue b → T b
pass_from_true b h = subst T (sym h) tt

-- the one order that passes the test
pub Less_from_is_lt : (r : Ordering) → IsTrue (is_lt r) → r ≡ Less
Less_from_is_lt Less h = refl
Less_from_is_lt Equal h = absurd (false≢true h)
Less_from_is_lt Greater h = absurd (false≢true h)

module _ {K P : Type 0} (cmp : K → K → Ordering) where
  -- a key below all is below the first
  pub below_first : (key : K) (e : K × P) (es : List (K × P)) → IsTrue (below_all cmp key (e ∷ es)) → cmp key e.0 ≡ Less
  below_first key e es h = Less_from_is_lt _ (and_parts _ _ h).0

  -- and below the others
  pub below_others : (key : K) (e : K × P) (es : List (K × P)) → IsTrue (below_all cmp key (e ∷ es)) → IsTrue (below_all cmp key es)
  below_others key e es h = (and_parts _ _ h).1

  -- a key below the first and the others is below all
  pub below_cons : (key : K) (e : K × P) (es : List (K × P)) → cmp key e.0 ≡ Less → IsTrue (below_all cmp key es) → IsTrue (below_all cmp key (e ∷ es))
  below_cons key e es g h = both_true (ap is_lt g) h

  -- the first key is below the others
  pub first_below : (e : K × P) (es : List (K × P)) → IsTrue (is_sorted cmp (e ∷ es)) → IsTrue (below_all cmp e.0 es)
  first_below e es h = (and_parts _ _ h).0

  -- what follows the first rises too
  pub ascending_tail : (e : K × P) (es : List (K × P)) → IsTrue (is_sorted cmp (e ∷ es)) → IsTrue (is_sorted cmp es)
  ascending_tail e es h = (and_parts _ _ h).1

  -- a key below all is not found
  pub find_below : (key : K) (es : List (K × P)) → IsTrue (below_all cmp key es) → find cmp key es ≡ None
  find_below key [] h = refl
  find_below key (e ∷ es) h = rw (below_first key e es h) (find_below key es (below_others key e es h))

  module _ (total : IsTotalOrder cmp) where
    -- a key that ties with one that is below all is below all
    pub below_tied : (x y : K) (es : List (K × P)) → cmp x y ≡ Equal → IsTrue (below_all cmp y es) → IsTrue (below_all cmp x es)
    below_tied x y [] g h = refl
    below_tied x y (e ∷ es) g h = below_cons x e es (total.congr x y e.0 g ∙ below_first y e es h) (below_tied x y es g (below_others y e es h))

    -- a raised map still rises
    pub raised_ascending : (joined : P → P → P) (key : K) (value : P) (es : List (K × P)) → IsTrue (is_sorted cmp es) → IsTrue (is_sorted cmp (raised cmp joined key value es))
    raised_ascending joined key value es h = true_from_pass _ (is_sorted-put cmp total key (with_old joined (find cmp key es) value) es (pass_from_true _ h))

    -- and so does the join of two maps
    pub joined_ascending : (joined : P → P → P) (a b : List (K × P)) → IsTrue (is_sorted cmp a) → IsTrue (is_sorted cmp (joined_maps cmp joined a b))
    joined_ascending joined a [] h = h
    joined_ascending joined a (e ∷ b) h = joined_ascending joined (raised cmp joined e.0 e.1 a) b (raised_ascending joined e.0 e.1 a h)
