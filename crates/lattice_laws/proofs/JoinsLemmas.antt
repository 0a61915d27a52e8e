-- The join of a list is the least value above all its members, so it depends on them alone.
use Rattle.std.specs.Prelude.{◌≡◌, List, [], ◌∷◌, All, Contains}
use Rattle.std.proofs.Common.{ap, sym, ◌∙◌}
use Rattle.std.proofs.lemmas.List.Elements.{All-nil, All-cons, All-head, All-tail, All-weaker, All-contains, All-contains_itself}
use Rattle.lattice_laws.specs.Lattice.{LatticeLaws, Associative}
use Rattle.lattice_laws.specs.Joins.{joined_all, MayJoin, ByMembersAlone}

-- a value that may be merged with the first
record IsOfClass {P : Type 0} (is_value : P → Type 0) (fits : P → P → Type 0) (first x : P) : Type 0 where
  is_value_too : is_value x
  fits_first : fits first x

-- the value is above each of the values, and below whatever else is
record IsLeastAbove {P : Type 0} (is_value : P → Type 0) (fits : P → P → Type 0) (joined : P → P → P) (first : P) (values : List P) (top : P) : Type 0 where
  of_class : IsOfClass is_value fits first top
  above : All (λ x. joined x top ≡ top) values
  least : (bound : P) → IsOfClass is_value fits first bound → All (λ x. joined x bound ≡ bound) values → joined top bound ≡ bound

-- what holds of each value of a list holds of each value of a list with no other members
carried : {P : Type 0} (Q : P → Type 0) (xs ys : List P) → ((x : P) → Contains xs x → Contains ys x) → All Q ys → All Q xs
carried Q xs ys among all = All-weaker (Contains xs) Q (λ x has. All-contains Q ys x all (among x has)) xs (All-contains_itself xs)

-- the first of a list is a member
has_first : {P : Type 0} (first : P) (rest : List P) → Contains (first ∷ rest) first
has_first first rest = All-head (Contains (first ∷ rest)) first rest (All-contains_itself (first ∷ rest))

-- values of which any two may be merged are all of the class of each
members_of_class : {P : Type 0} (is_value : P → Type 0) (fits : P → P → Type 0) (values : List P) → MayJoin is_value fits values → (first : P) → Contains values first → All (IsOfClass is_value fits first) values
members_of_class is_value fits values may first has_it =
    All-weaker (Contains values) (IsOfClass is_value fits first)
    (λ x has. record { is_value_too = All-contains is_value values x may.are_values has; fits_first = may.all_fit first x has_it has })
    values (All-contains_itself values)

module _ {P : Type 0} {is_value : P → Type 0} {fits : P → P → Type 0} {joined : P → P → P} (laws : LatticeLaws is_value fits joined) (associative : Associative is_value fits joined) where
  -- two values of the class of a third may be merged
  fit_each_other : (first x y : P) → is_value first → IsOfClass is_value fits first x → IsOfClass is_value fits first y → fits x y
  fit_each_other first x y v of_x of_y = laws.fits_on x first y of_x.is_value_too v of_y.is_value_too (laws.fits_back first x v of_x.is_value_too of_x.fits_first) of_y.fits_first

  -- the join of two is above the first of them
  pub above_left : (a b : P) → is_value a → is_value b → fits a b → joined a (joined a b) ≡ joined a b
  above_left a b va vb h = sym (associative a a b va va vb (laws.fits_itself a va) h) ∙ ap (λ x. joined x b) (laws.idempotent a va)

  -- and above the second
  pub above_right : (a b : P) → is_value a → is_value b → fits a b → joined b (joined a b) ≡ joined a b
  above_right a b va vb h =
      let swapped = laws.commutative a b va vb h in
      ap (joined b) swapped ∙ above_left b a vb va (laws.fits_back a b va vb h) ∙ sym swapped

  -- what is below a value is below all that is above that value
  pub above_through : (a b c : P) → is_value a → is_value b → is_value c → fits a b → fits b c → joined a b ≡ b → joined b c ≡ c → joined a c ≡ c
  above_through a b c va vb vc ab bc a_below b_below =
      ap (joined a) (sym b_below) ∙ sym (associative a b c va vb vc ab bc) ∙ ap (λ x. joined x c) a_below ∙ b_below

  -- what is above two is above their join
  pub above_both : (a b c : P) → is_value a → is_value b → is_value c → fits a b → fits b c → joined a c ≡ c → joined b c ≡ c → joined (joined a b) c ≡ c
  above_both a b c va vb vc ab bc a_below b_below = associative a b c va vb vc ab bc ∙ ap (joined a) b_below ∙ a_below

  -- the join of two is of their class
  joined_of_class : (first next : P) → is_value first → IsOfClass is_value fits first next → IsOfClass is_value fits first (joined first next)
  joined_of_class first next v of_next =
      let closed = laws.closed first next v of_next.is_value_too of_next.fits_first in
      record { is_value_too = closed.0; fits_first = closed.1 }

  -- whose class is that of any value in it
  class_moved : (first next x : P) → is_value first → IsOfClass is_value fits first next → IsOfClass is_value fits first x → IsOfClass is_value fits next x
  class_moved first next x v of_next of_x = record { is_value_too = of_x.is_value_too; fits_first = fit_each_other first next x v of_next of_x }

  -- the join of a list is the least value above its members
  joined_all_least : (first : P) (rest : List P) → is_value first → All (IsOfClass is_value fits first) rest → IsLeastAbove is_value fits joined first (first ∷ rest) (joined_all joined first rest)
  joined_all_least first [] v of_rest = record {
    of_class = record { is_value_too = v; fits_first = laws.fits_itself first v };
    above = All-cons (λ x. joined x first ≡ first) first [] (laws.idempotent first v) (All-nil (λ x. joined x first ≡ first));
    least = λ bound of_bound all. All-head (λ x. joined x bound ≡ bound) first [] all;
  }
  joined_all_least first (next ∷ rest) v of_rest =
      let of_next = All-head (IsOfClass is_value fits first) next rest of_rest in
      let both = joined first next in
      let of_both = joined_of_class first next v of_next in
      let moved : (x : P) → IsOfClass is_value fits first x → IsOfClass is_value fits both x = λ x of_x. class_moved first both x v of_both of_x in
      let later = joined_all_least both rest of_both.is_value_too (All-weaker (IsOfClass is_value fits first) (IsOfClass is_value fits both) moved rest (All-tail (IsOfClass is_value fits first) next rest of_rest)) in
      let top = joined_all joined both rest in
      let is_below : P → Type 0 = λ x. joined x top ≡ top in
      let both_below : joined both top ≡ top = All-head is_below both rest later.above in
      let fits_next = laws.closed first next v of_next.is_value_too of_next.fits_first in
      let below : (x : P) → is_value x → fits x both → joined x both ≡ both → joined x top ≡ top = λ x vx fits_x x_below. above_through x both top vx of_both.is_value_too later.of_class.is_value_too fits_x later.of_class.fits_first x_below both_below in
      let first_below : joined first top ≡ top = below first v of_both.fits_first (above_left first next v of_next.is_value_too of_next.fits_first) in
      let next_below : joined next top ≡ top = below next of_next.is_value_too fits_next.2 (above_right first next v of_next.is_value_too of_next.fits_first) in
      record {
        of_class = record { is_value_too = later.of_class.is_value_too; fits_first = laws.fits_on first both top v of_both.is_value_too later.of_class.is_value_too of_both.fits_first later.of_class.fits_first };
        above = All-cons is_below first (next ∷ rest) first_below (All-cons is_below next rest next_below (All-tail is_below both rest later.above));
        least = λ bound of_bound all.
            let is_under : P → Type 0 = λ x. joined x bound ≡ bound in
            let others = All-tail is_under first (next ∷ rest) all in
            let under = above_both first next bound v of_next.is_value_too of_bound.is_value_too of_next.fits_first (fit_each_other first next bound v of_next of_bound) (All-head is_under first (next ∷ rest) all) (All-head is_under next rest others) in
            later.least bound (moved bound of_bound) (All-cons is_under both rest under (All-tail is_under next rest others));
      }

  -- what two values that are each above the other are: one
  same_above : (a b : P) → is_value a → is_value b → fits a b → joined a b ≡ b → joined b a ≡ a → a ≡ b
  same_above a b va vb h a_below b_below = sym b_below ∙ sym (laws.commutative a b va vb h) ∙ a_below

  -- a join of a list depends on its members alone
  pub joined_all_by_members : ByMembersAlone is_value fits joined
  joined_all_by_members first rest first' rest' may same =
      let values = first ∷ rest in
      let values' = first' ∷ rest' in
      let class_all = members_of_class is_value fits values may in
      let of_first = class_all first (has_first first rest) in
      let has_other : Contains values first' = (same first').1 (has_first first' rest') in
      let v = All-head is_value first rest may.are_values in
      let of_other : IsOfClass is_value fits first first' = All-contains (IsOfClass is_value fits first) values first' of_first has_other in
      let of_others = carried (IsOfClass is_value fits first') values' values (λ x. (same x).1) (class_all first' has_other) in
      let one = joined_all_least first rest v (All-tail (IsOfClass is_value fits first) first rest of_first) in
      let two = joined_all_least first' rest' of_other.is_value_too (All-tail (IsOfClass is_value fits first') first' rest' of_others) in
      let top = joined_all joined first rest in
      let top' = joined_all joined first' rest' in
      let of_self : IsOfClass is_value fits first first = record { is_value_too = v; fits_first = laws.fits_itself first v } in
      let back : IsOfClass is_value fits first' first = class_moved first first' first v of_other of_self in
      let of_top' : IsOfClass is_value fits first top' = class_moved first' first top' of_other.is_value_too back two.of_class in
      let of_top : IsOfClass is_value fits first' top = class_moved first first' top v of_other one.of_class in
      same_above top top' one.of_class.is_value_too two.of_class.is_value_too (fit_each_other first top top' v one.of_class of_top')
      (one.least top' of_top' (carried (λ x. joined x top' ≡ top') values values' (λ x. (same x).0) two.above))
      (two.least top of_top (carried (λ x. joined x top ≡ top) values' values (λ x. (same x).1) one.above))
