-- Pieces that were run by halves.
use Rattle.std.specs.Prelude.{◌≡◌, List, [], ◌∷◌, ◌++◌, Result, Ok, Err, OnOk}
use Rattle.std.proofs.Common.{subst}
use Rattle.party_epochs.specs.Pieces.{Pairwise}

module _ {X : Type 0} (becomes : X → X → Type 0) where
  -- what halves become is what all become
  pub pairwise_append : (front front_now back back_now : List X) → Pairwise becomes front front_now → Pairwise becomes back back_now → Pairwise becomes (front ++ back) (front_now ++ back_now)
  pairwise_append [] [] back back_now first then = then
  pairwise_append [] (x ∷ xs) back back_now first then = absurd first
  pairwise_append (x ∷ xs) [] back back_now first then = absurd first
  pairwise_append (x ∷ xs) (y ∷ ys) back back_now first then = (first.0, pairwise_append xs ys back back_now first.1 then)

  -- where both halves had memory
  pub both_halves : {A B E : Type 0} (one : Result A E) (other : Result B E) (value : A) (front front_now back back_now : List X) → one ≡ Ok value
      → OnOk one (Pairwise becomes front front_now) → OnOk other (Pairwise becomes back back_now) → OnOk other (Pairwise becomes (front ++ back) (front_now ++ back_now))
  both_halves one (Err error) value front front_now back back_now is first then = tt
  both_halves one (Ok x) value front front_now back back_now is first then = pairwise_append front front_now back back_now (subst (λ result. OnOk result (Pairwise becomes front front_now)) is first) then
