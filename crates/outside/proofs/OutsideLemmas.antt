-- One call after another, at the ends of a program.
use Rattle.std.proofs.Common.{◌≡◌, ℕ, ◌+◌, ◌<◌, min, List, [], ◌++◌, take, drop, length, Option, Some, None, Ok, sym, ap, ◌∙◌, append_assoc, arith}
use Rattle.std.proofs.lemmas.List.{append-nil, take-append-drop, drop-drop, nil_from_length}
use Rattle.outside.specs.Outside.{Took, Takes, Grew}

-- nothing was written
pub Grew-none : (a : Option (List ℕ)) → Grew a a []
Grew-none None = tt
Grew-none (Some a) = sym (append-nil a)

-- what is written after a second call
pub Grew-more : (a b c : Option (List ℕ)) (xs ys : List ℕ) → Grew a b xs → Grew b c ys → Grew a c (xs ++ ys)
Grew-more (Some a) (Some b) (Some c) xs ys h i = i ∙ ap (λ zs. zs ++ ys) h ∙ append_assoc a xs ys
Grew-more (Some a) (Some b) None xs ys h i = tt
Grew-more (Some a) None (Some c) xs ys h i = absurd i
Grew-more (Some a) None None xs ys h i = tt
Grew-more None (Some b) c xs ys h i = absurd h
Grew-more None None (Some c) xs ys h i = absurd i
Grew-more None None None xs ys h i = tt

-- what was taken after a second call
pub Took-more : (a b c : Option (List ℕ)) (xs into : List ℕ) (n : ℕ) → Took a b xs → Takes b c (Ok n) into → Took a c (xs ++ take n into)
Took-more (Some a) (Some b) (Some c) xs into n h i = h ∙ ap (λ zs. xs ++ zs) i.0 ∙ sym (append_assoc xs (take n into) c)
Took-more (Some a) (Some b) None xs into n h i = absurd i
Took-more (Some a) None c xs into n h i = absurd h
Took-more None (Some b) c xs into n h i = absurd h
Took-more None None (Some c) xs into n h i = absurd i
Took-more None None None xs into n h i = tt

-- as many bytes as there is room for, taken from those that are left after `at`
pub Takes-front : (bytes left into : List ℕ) (at n room : ℕ) → drop at bytes ≡ left → n ≡ min room (length left) → 0 < room → take n into ≡ take n left → Takes (Some left) (Some (drop (at + n) bytes)) (Ok n) into
Takes-front bytes left into at n room later count some front = (
  sym (take-append-drop n left) ∙ ap (λ xs. xs ++ drop n left) (sym front) ∙ ap (λ xs. take n into ++ xs) (ap (drop n) (sym later) ∙ drop-drop n at bytes),
  ((λ none. nil_from_length left (omega arith)), (λ empty. let none : length left ≡ 0 = ap length empty in omega arith)),
)
