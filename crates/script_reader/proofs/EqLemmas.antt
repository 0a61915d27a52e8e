-- What `eq` of two iterators says: whether their lists are equal, item by item.
use Rattle.std.proofs.Common.{◌≡◌, Bool, true, false, ◌&&◌, List, [], ◌∷◌, Option, None, Some, MatchOption, sym, ap, ap₂, ◌∙◌, subst}
use Rattle.std.specs.Cmp.Lexicographic.{pointwise}
use Rattle.std.specs.Iterator.{AlwaysYields, YieldsThen, ComparesItemsByEq}
use Rattle.std.specs.List.{AllZip}
use Rattle.std.specs.Option.{IfSome}
use Rattle.std.proofs.lemmas.Iterator.{YieldsList}

module _ {S T A B C : Type 0} (steps : S → Option A → S → Type 0) (others : T → Option A → T → Type 0) (v : A → B) (w : A → C) (eq : A → A → Bool) (same : B → C → Bool)
    (agree : (x y : A) → eq x y ≡ same (v x) (w y)) (result : Bool) where
  -- what was met after the items that are equal: an end, two ends, or two that differ
  abbrev Last : Option A → Option A → Type 0
  Last o p = MatchOption o (MatchOption p (result ≡ true) (λ _. result ≡ false)) (λ x. (result ≡ false) × IfSome p (λ y. eq x y ≡ false))

  -- where that was met at once
  at_last : (o p : Option A) (xs : List B) (ys : List C) (s u : S) (t k : T) → AlwaysYields steps v s xs → AlwaysYields others w t ys → steps s o u → others t p k → Last o p → result ≡ pointwise same xs ys
  at_last None p (x ∷ xs) ys s u t k e f a b h = absurd (e.0 u a)
  at_last (Some x) p [] ys s u t k e f a b h = absurd (e x u a)
  at_last None None [] (y ∷ ys) s u t k e f a b h = absurd (f.0 k b)
  at_last None None [] [] s u t k e f a b h = h
  at_last None (Some y) [] [] s u t k e f a b h = absurd (f y k b)
  at_last None (Some y) [] (z ∷ ys) s u t k e f a b h = h
  at_last (Some x) None (z ∷ xs) [] s u t k e f a b h = h.0
  at_last (Some x) None (z ∷ xs) (y ∷ ys) s u t k e f a b h = absurd (f.0 k b)
  at_last (Some x) (Some y) (z ∷ xs) [] s u t k e f a b h = absurd (f y k b)
  at_last (Some x) (Some y) (z ∷ xs) (z' ∷ ys) s u t k e f a b h =
      h.0 ∙ ap (λ t. t && pointwise same xs ys) (sym h.1 ∙ agree x y ∙ ap₂ same (e.1 x u a).0 (f.1 y k b).0)

  -- where items that are equal stand before it
  along : (cs bs : List A) (o p : Option A) (xs : List B) (ys : List C) (s u : S) (t k : T) → AlwaysYields steps v s xs → AlwaysYields others w t ys
      → YieldsThen steps s cs o u → YieldsThen others t bs p k → AllZip (λ x y. eq x y ≡ true) cs bs → Last o p → result ≡ pointwise same xs ys
  along [] [] o p xs ys s u t k e f a b z h = at_last o p xs ys s u t k e f (subst (λ j. steps j o u) (sym a.1) a.2) (subst (λ j. others j p k) (sym b.1) b.2) h
  along [] (y ∷ bs) o p xs ys s u t k e f a b z h = absurd z
  along (x ∷ cs) [] o p xs ys s u t k e f a b z h = absurd z
  along (x ∷ cs) (y ∷ bs) o p [] ys s u t k e f a b z h = absurd (e x a.1.0 a.1.1)
  along (x ∷ cs) (y ∷ bs) o p (x' ∷ xs) [] s u t k e f a b z h = absurd (f y b.1.0 b.1.1)
  along (x ∷ cs) (y ∷ bs) o p (x' ∷ xs) (y' ∷ ys) s u t k e f a b z h =
      let m = e.1 x a.1.0 a.1.1 in
      let n = f.1 y b.1.0 b.1.1 in
      along cs bs o p xs ys a.1.0 u b.1.0 k m.1 n.1 (a.0, a.1.2, a.2) (b.0, b.1.2, b.2) z.1 h
      ∙ ap (λ t. t && pointwise same xs ys) (sym z.0 ∙ agree x y ∙ ap₂ same m.0 n.0)

-- v and w show the items of the two, and `same` compares what they show as `eq` compares the items
pub eq_from_yields_List : {S U T A B C : Type 0} {steps : S → Option A → S → Type 0} {others : T → Option A → T → Type 0} {v : A → B} {w : A → C} {s : S} {eq : A → A → Bool} {xs : List B} {ys : List C}
    (becomes : U → T → Type 0) (other : U) (same : B → C → Bool) (result : Bool) → ComparesItemsByEq steps becomes others s other eq result
    → YieldsList steps v s xs → ((it : T) → becomes other it → YieldsList others w it ys) → ((x y : A) → eq x y ≡ same (v x) (w y)) → result ≡ pointwise same xs ys
eq_from_yields_List {steps = steps} {others = others} {v = v} {w = w} {s = s} {eq = eq} {xs = xs} {ys = ys} becomes other same result d e f agree =
    along steps others v w eq same agree result d.1 d.2 d.3 d.4 xs ys s d.5 d.0 d.6 e.runs (f d.0 d.7).runs d.8 d.9 d.10 d.11
