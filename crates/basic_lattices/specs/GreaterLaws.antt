-- The greater of two in a total order in which only equal values tie.
use Rattle.std.specs.Prelude.{◌≡◌, cond, ⊤, refl}
use Rattle.std.proofs.Common.{sym, ap, subst, ◌∙◌}
use Rattle.std.specs.Cmp.{IsTotalOrder}
use Rattle.std.specs.Ordering.{ord_max, is_lt, ordering_reverse}
use Rattle.std.specs.declared.cmp.Ordering.{Ordering}
use Rattle.std.specs.declared.cmp.Ordering.TheVariants.{Less, Equal, Greater}
use Rattle.std.proofs.lemmas.Cmp.{tied_itself}
use Rattle.lattice_laws.specs.Lattice.{LatticeLaws, Associative}

module _ {K : Type 0} (cmp : K → K → Ordering) (total : IsTotalOrder cmp) (exact : (a b : K) → cmp a b ≡ Equal → a ≡ b) where
  -- how two compare, with what the greater is then
  pub data Compared (a b : K) : Type 0 where
    below : cmp a b ≡ Less → ord_max cmp a b ≡ b → Compared a b
    same : a ≡ b → Compared a b
    above : cmp b a ≡ Less → ord_max cmp a b ≡ a → Compared a b

  pub turned : (a b : K) (r : Ordering) → cmp a b ≡ r → cmp b a ≡ ordering_reverse r
  turned a b r e = total.antisymm b a ∙ ap ordering_reverse e

  compared_as : (a b : K) (r : Ordering) → cmp a b ≡ r → Compared a b
  compared_as a b Less e = below e (ap (λ t. cond (is_lt t) a b) (turned a b Less e))
  compared_as a b Equal e = same (exact a b e)
  compared_as a b Greater e = above (turned a b Greater e) (ap (λ t. cond (is_lt t) a b) (turned a b Greater e))

  pub compared : (a b : K) → Compared a b
  compared a b = compared_as a b (cmp a b) refl

  -- the greater of a value and itself
  pub greater_itself : (a : K) → ord_max cmp a a ≡ a
  greater_itself a = ap (λ t. cond (is_lt t) a a) (tied_itself total a)

  -- what is below is left behind, whichever comes first
  greater_of_above : (a b : K) → cmp b a ≡ Less → ord_max cmp a b ≡ a
  greater_of_above a b e = ap (λ t. cond (is_lt t) a b) e

  greater_of_below : (a b : K) → cmp a b ≡ Less → ord_max cmp a b ≡ b
  greater_of_below a b e = ap (λ t. cond (is_lt t) a b) (turned a b Less e)

  commutes_as : (a b : K) → Compared a b → ord_max cmp a b ≡ ord_max cmp b a
  commutes_as a b (below lt is) = is ∙ sym (greater_of_above b a lt)
  commutes_as a b (same e) = ap (λ x. ord_max cmp x b) e ∙ ap (λ x. ord_max cmp b x) (sym e)
  commutes_as a b (above lt is) = is ∙ sym (greater_of_below b a lt)

  -- a value stands before the greater of it and another
  absorbed_as : (a c : K) → Compared a c → ord_max cmp a (ord_max cmp a c) ≡ ord_max cmp a c
  absorbed_as a c (below lt is) = ap (ord_max cmp a) is
  absorbed_as a c (same e) = ap (ord_max cmp a) (ap (ord_max cmp a) (sym e) ∙ greater_itself a) ∙ ap (ord_max cmp a) e
  absorbed_as a c (above lt is) = ap (ord_max cmp a) is ∙ greater_itself a ∙ sym is

  regrouped_as : (a b c : K) → Compared a b → Compared b c → ord_max cmp (ord_max cmp a b) c ≡ ord_max cmp a (ord_max cmp b c)
  regrouped_as a b c (same e) bc =
      ap (λ x. ord_max cmp x c) (ap (ord_max cmp a) (sym e) ∙ greater_itself a)
      ∙ sym (absorbed_as a c (compared a c))
      ∙ ap (λ x. ord_max cmp a (ord_max cmp x c)) e
  regrouped_as a b c (below lt is) (below lt' is') = ap (λ x. ord_max cmp x c) is ∙ is' ∙ sym (greater_of_below a c (total.trans a b c lt lt')) ∙ ap (ord_max cmp a) (sym is')
  regrouped_as a b c (below lt is) (same e) = ap (λ x. ord_max cmp x c) is ∙ ap (ord_max cmp b) (sym e) ∙ greater_itself b ∙ sym is ∙ ap (ord_max cmp a) (sym (greater_itself b) ∙ ap (ord_max cmp b) e)
  regrouped_as a b c (below lt is) (above lt' is') = ap (λ x. ord_max cmp x c) is ∙ is' ∙ sym is ∙ ap (ord_max cmp a) (sym is')
  regrouped_as a b c (above lt is) (below lt' is') = ap (λ x. ord_max cmp x c) is ∙ ap (ord_max cmp a) (sym is')
  regrouped_as a b c (above lt is) (same e) = ap (λ x. ord_max cmp x c) is ∙ ap (ord_max cmp a) (sym e ∙ sym (greater_itself b) ∙ ap (ord_max cmp b) e)
  regrouped_as a b c (above lt is) (above lt' is') = ap (λ x. ord_max cmp x c) is ∙ greater_of_above a c (total.trans c b a lt' lt) ∙ sym is ∙ ap (ord_max cmp a) (sym is')

  kept_as : (is_value : K → Type 0) (a b : K) → Compared a b → is_value a → is_value b → is_value (ord_max cmp a b)
  kept_as is_value a b (below lt is) va vb = subst is_value (sym is) vb
  kept_as is_value a b (same e) va vb = subst is_value (sym (ap (ord_max cmp a) (sym e) ∙ greater_itself a)) va
  kept_as is_value a b (above lt is) va vb = subst is_value (sym is) va

  -- the greater of two is a lattice, whatever the values are
  pub greater_laws : (is_value : K → Type 0) → LatticeLaws is_value (λ _ _. ⊤) (ord_max cmp)
  greater_laws is_value = record {
    fits_itself = λ a va. tt;
    fits_back = λ a b va vb h. tt;
    fits_on = λ a b c va vb vc h i. tt;
    closed = λ a b va vb h. (kept_as is_value a b (compared a b) va vb, tt, tt);
    commutative = λ a b va vb h. commutes_as a b (compared a b);
    idempotent = λ a va. greater_itself a;
  }

  pub greater_associative : (is_value : K → Type 0) → Associative is_value (λ _ _. ⊤) (ord_max cmp)
  greater_associative is_value a b c va vb vc h i = regrouped_as a b c (compared a b) (compared b c)
