-- Boxes are made one after another, each with the numbers of its owner.
use Rattle.std.specs.Prelude.{◌≡◌, ℕ, ◌+◌, List, [], ◌∷◌, ◌++◌, length, map}
use Rattle.std.specs.List.{range_with_len}
use Rattle.std.proofs.Common.{◌∙◌, sym, ap, subst, arith, length-append}
use Rattle.std.proofs.lemmas.List.{length-map, map-append}
use Rattle.std.proofs.lemmas.List.FromFn.{map-range_with_len_more}
use Rattle.party_ends.specs.Numbers.{AreNumbered}

-- one more was made with those of the next owner
one_more : (numbers : ℕ → List ℕ) (boxes : List (List ℕ)) (its : List ℕ) → AreNumbered numbers boxes → its ≡ numbers (length boxes + 1) → AreNumbered numbers (boxes ++ its ∷ [])
one_more numbers boxes its so_far is =
    (λ j. so_far j ++ is j ∷ []) ∙ sym (map-range_with_len_more numbers 1 (length boxes) (length boxes + 1) (omega arith))
    ∙ ap (λ n. map numbers (range_with_len 1 n)) (sym (length-append boxes (its ∷ [])))

pub one_numbered : {P : Type 0} (tells : P → List ℕ) (numbers : ℕ → List ℕ) (boxes : List P) (box : P) → AreNumbered numbers (map tells boxes) → tells box ≡ numbers (length boxes + 1)
    → AreNumbered numbers (map tells (boxes ++ box ∷ []))
one_numbered tells numbers boxes box so_far is =
    subst (AreNumbered numbers) (sym (map-append tells boxes (box ∷ [])))
    (one_more numbers (map tells boxes) (tells box) so_far (is ∙ ap (λ n. numbers (n + 1)) (sym (length-map boxes tells))))
