-- What becomes of the parties, each by its own part.
use Rattle.std.specs.Prelude.{◌≡◌, ℕ, zero, suc, List, [], ◌∷◌, ◌++◌, drop, length, map, slice_get, take, Some, Result, Ok, Err, OnOk}
use Rattle.std.proofs.Common.{◌∙◌, ap, arith, refl, subst, sym}
use Rattle.std.proofs.Math.Seq.{take-append_seam}
use Rattle.std.proofs.lemmas.Option.{none-some, same_Some}
use Rattle.party_turns.proofs.ItemsLemmas.{mapped, of_mapped}
use Rattle.party_epochs.specs.Pieces.{Pairwise}

-- a slice of all items, put back, is all
pub put_back : {X : Type 0} (old now : List X) (n : ℕ) → n ≡ length old → length now ≡ length old → take n (now ++ drop (length now) old) ≡ now
put_back old now n many as_many = ap (λ n. take n (now ++ drop (length now) old)) (many ∙ sym as_many) ∙ take-append_seam now (drop (length now) old)

-- there are as many after as before
pub as_many_pieces : {X : Type 0} (becomes : X → X → Type 0) (before now : List X) → Pairwise becomes before now → length now ≡ length before
as_many_pieces becomes [] [] are = refl
as_many_pieces becomes [] (y ∷ ys) are = absurd are
as_many_pieces becomes (x ∷ xs) [] are = absurd are
as_many_pieces becomes (x ∷ xs) (y ∷ ys) are = let rest = as_many_pieces becomes xs ys are.1 in omega (arith, rest)

-- what the pieces became is still so where all were written back into the vector that they came from
pub written : {X A E : Type 0} (becomes : X → X → Type 0) (result : Result A E) (old shown now : List X) (n : ℕ) → shown ≡ old → n ≡ length old
    → OnOk result (Pairwise becomes shown now) → OnOk result (Pairwise becomes old (take n (now ++ drop (length now) old)))
written becomes (Err error) old shown now n same many are = tt
written becomes (Ok value) old shown now n same many are =
    let all = subst (λ before. Pairwise becomes before now) same are in
    subst (Pairwise becomes old) (sym (put_back old now n many (as_many_pieces becomes old now all))) all

-- each piece became what stands at its place
pub each_became : {X : Type 0} (becomes : X → X → Type 0) (before now : List X) → Pairwise becomes before now
    → (place : ℕ) (was is : X) → slice_get before place ≡ Some was → slice_get now place ≡ Some is → becomes was is
each_became becomes [] now are place was is there also = absurd (none-some was there)
each_became becomes (x ∷ xs) [] are place was is there also = absurd are
each_became becomes (x ∷ xs) (y ∷ ys) are zero was is there also =
    subst (λ is. becomes was is) (same_Some y is also) (subst (λ was. becomes was y) (same_Some x was there) are.0)
each_became becomes (x ∷ xs) (y ∷ ys) are (suc place) was is there also = each_became becomes xs ys are.1 place was is there also

-- and so of what is read of each
pub each_kept : {X Y : Type 0} (becomes : X → X → Type 0) (kept : Y → Y → Type 0) (of : X → Y) → ((x y : X) → becomes x y → kept (of x) (of y))
    → (before now : List X) → Pairwise becomes before now → (place : ℕ) (was is : Y) → slice_get (map of before) place ≡ Some was → slice_get (map of now) place ≡ Some is → kept was is
each_kept becomes kept of tells before now are place was is there also =
    let from = of_mapped of before place was there in
    let to = of_mapped of now place is also in
    subst (λ was. kept was is) from.2 (subst (λ is. kept (of from.0) is) to.2 (tells from.0 to.0 (each_became becomes before now are place from.0 to.0 from.1 to.1)))

-- and so of what came of each
pub each_told : {X Y Z : Type 0} (becomes : X → X → Type 0) (told : Z → Y → Y → Type 0) (of : X → Y) (came : X → Z) → ((x y : X) → becomes x y → told (came y) (of x) (of y))
    → (before now : List X) → Pairwise becomes before now → (place : ℕ) (its : Z) (was is : Y) → slice_get (map came now) place ≡ Some its
    → slice_get (map of before) place ≡ Some was → slice_get (map of now) place ≡ Some is → told its was is
each_told becomes told of came tells before now are place its was is came_so there also =
    let from = of_mapped of before place was there in
    let to = of_mapped of now place is also in
    let same = same_Some (came to.0) its (sym (mapped came now place to.0 to.1) ∙ came_so) in
    subst (λ its. told its was is) same
    (subst (λ was. told (came to.0) was is) from.2
    (subst (told (came to.0) (of from.0)) to.2 (tells from.0 to.0 (each_became becomes before now are place from.0 to.0 from.1 to.1))))
