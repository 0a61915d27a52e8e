-- What a loop keeps that joins a list from the left.
use Rattle.std.proofs.Common.{◌≡◌, ℕ, ◌+◌, ◌<◌, List, [], ◌∷◌, ◌++◌, map, take, get_or, length, All, refl, sym, ap, subst, ◌∙◌}
use Rattle.std.proofs.lemmas.List.{take_more, map-append}
use Rattle.std.proofs.lemmas.List.Elements.{All-nil, All-cons, All-push}
use Rattle.lattice_laws.specs.Lattice.{LatticeLaws}
use Rattle.lattice_laws.specs.Joins.{joined_all}

-- all is the join of the first and those that are done, and may be merged with whatever the first may be
pub record JoinedSoFar {P : Type 0} (is_value : P → Type 0) (fits : P → P → Type 0) (joined : P → P → P) (first : P) (done : List P) (all : P) : Type 0 where
  pub is_join : all ≡ joined_all joined first done
  pub are_values : All is_value (first ∷ done)
  pub join_is_value : is_value all
  pub fits_first : fits first all

-- one more at the end is joined last
pub joined_all-push : {P : Type 0} (joined : P → P → P) (first : P) (done : List P) (next : P) → joined_all joined first (done ++ next ∷ []) ≡ joined (joined_all joined first done) next
joined_all-push joined first [] next = refl
joined_all-push joined first (x ∷ done) next = joined_all-push joined (joined first x) done next

-- the plain values of one more element
map_take_more : {L P : Type 0} (plain : L → P) (xs : List L) (i : ℕ) (d : L) → i < length xs → map plain (take (i + 1) xs) ≡ map plain (take i xs) ++ plain (get_or xs i d) ∷ []
map_take_more plain xs i d h = ap (map plain) (take_more xs i d h) ∙ map-append plain (take i xs) (get_or xs i d ∷ [])

module _ {P : Type 0} {is_value : P → Type 0} {fits : P → P → Type 0} {joined : P → P → P} (laws : LatticeLaws is_value fits joined) where
  -- before the first step
  pub joined_none : (first all : P) → is_value first → all ≡ first → JoinedSoFar is_value fits joined first [] all
  joined_none first all v same = record {
    is_join = same;
    are_values = All-cons is_value first [] v (All-nil is_value);
    join_is_value = subst is_value (sym same) v;
    fits_first = subst (fits first) (sym same) (laws.fits_itself first v);
  }

  -- what has been joined may be merged with the next
  pub next_fits : (first next all : P) (done : List P) → JoinedSoFar is_value fits joined first done all → is_value first → is_value next → fits first next → fits all next
  next_fits first next all done so_far v vn h = laws.fits_on all first next so_far.join_is_value v vn (laws.fits_back first all v so_far.join_is_value so_far.fits_first) h

  -- one more
  joined_more : (first next all more : P) (done : List P) → JoinedSoFar is_value fits joined first done all → is_value first → is_value next → fits first next → more ≡ joined all next → JoinedSoFar is_value fits joined first (done ++ next ∷ []) more
  joined_more first next all more done so_far v vn h same =
      let closed = laws.closed all next so_far.join_is_value vn (next_fits first next all done so_far v vn h) in
      record {
        is_join = same ∙ ap (λ x. joined x next) so_far.is_join ∙ sym (joined_all-push joined first done next);
        are_values = All-push is_value (first ∷ done) next so_far.are_values vn;
        join_is_value = subst is_value (sym same) closed.0;
        fits_first = subst (fits first) (sym same) (laws.fits_on first all (joined all next) v so_far.join_is_value closed.0 so_far.fits_first closed.1);
      }

  -- one more element, seen as its plain value
  pub joined_more_at : {L : Type 0} (plain : L → P) (first here : L) (rest : List L) (i : ℕ) (all more : P) → i < length rest → here ≡ get_or rest i here → JoinedSoFar is_value fits joined (plain first) (map plain (take i rest)) all → is_value (plain first) → is_value (plain here) → All (λ each. fits (plain first) (plain each)) rest → more ≡ joined all (plain here) → JoinedSoFar is_value fits joined (plain first) (map plain (take (i + 1) rest)) more
  joined_more_at plain first here rest i all more in_range is so_far v vn all_fit same =
      let done : map plain (take (i + 1) rest) ≡ map plain (take i rest) ++ plain here ∷ [] = map_take_more plain rest i here in_range ∙ ap (λ x. map plain (take i rest) ++ plain x ∷ []) (sym is) in
      let h : fits (plain first) (plain here) = subst (λ x. fits (plain first) (plain x)) (sym is) (all_fit i here in_range) in
      subst (λ each. JoinedSoFar is_value fits joined (plain first) each more) (sym done) (joined_more (plain first) (plain here) all more (map plain (take i rest)) so_far v vn h same)
