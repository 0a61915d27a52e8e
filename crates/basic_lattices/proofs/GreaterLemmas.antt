-- Which of two their greater is.
use Rattle.std.specs.Prelude.{◌≡◌, true, false, IsTrue, ◌↔◌}
use Rattle.std.proofs.Common.{sym, ap, ◌∙◌}
use Rattle.std.specs.Cmp.{IsTotalOrder}
use Rattle.std.specs.Ordering.{ord_max, is_lt, is_le}
use Rattle.std.specs.declared.cmp.Ordering.{Ordering}
use Rattle.std.specs.declared.cmp.Ordering.TheVariants.{Less, Equal}
use Rattle.std.proofs.lemmas.Cmp.{tied_itself}
use Rattle.basic_lattices.specs.GreaterLaws.{Compared, below, same, above, turned, compared, greater_itself}

module _ {K : Type 0} (cmp : K → K → Ordering) (total : IsTotalOrder cmp) (exact : (a b : K) → cmp a b ≡ Equal → a ≡ b) where
  -- the first is the greater unless it is below the second
  pub greater_unless_below : (a b : K) → is_lt (cmp a b) ≡ false → ord_max cmp a b ≡ a
  greater_unless_below a b not_below = unless_as (compared cmp total exact a b)
    where
      unless_as : Compared cmp total exact a b → ord_max cmp a b ≡ a
      unless_as (below lt is) = absurd (let never : true ≡ false = sym (ap is_lt lt) ∙ not_below in cc)
      unless_as (same e) = ap (ord_max cmp a) (sym e) ∙ greater_itself cmp total exact a
      unless_as (above lt is) = is

  pub greater_if_below : (a b : K) → is_lt (cmp a b) ≡ true → ord_max cmp a b ≡ b
  greater_if_below a b is_below = if_as (compared cmp total exact a b)
    where
      if_as : Compared cmp total exact a b → ord_max cmp a b ≡ b
      if_as (below lt is) = is
      if_as (same e) = ap (λ x. ord_max cmp x b) e ∙ greater_itself cmp total exact b
      if_as (above lt is) = absurd (let never : true ≡ false = sym is_below ∙ ap is_lt (turned cmp total exact b a Less lt) in cc)

  -- the second is the greater exactly where the first is at most it
  pub greater_is_second : (a b : K) → IsTrue (is_le (cmp a b)) ↔ (ord_max cmp a b ≡ b)
  greater_is_second a b = second_as (compared cmp total exact a b)
    where
      second_as : Compared cmp total exact a b → IsTrue (is_le (cmp a b)) ↔ (ord_max cmp a b ≡ b)
      second_as (below lt is) = ((λ h. is), (λ h. ap is_le lt))
      second_as (same e) = ((λ h. ap (λ x. ord_max cmp x b) e ∙ greater_itself cmp total exact b), (λ h. ap is_le (ap (cmp a) (sym e) ∙ tied_itself total a)))
      second_as (above lt is) = ((λ h. absurd (let never : true ≡ false = sym h ∙ ap is_le (turned cmp total exact b a Less lt) in cc)), (λ h. ap is_le (ap (cmp a) (sym h ∙ is) ∙ tied_itself total a)))
