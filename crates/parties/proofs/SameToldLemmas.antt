-- What is told of the items of a list by their places.
use Rattle.std.specs.Prelude.{◌≡◌, ℕ, List, map, option_map, slice_get}
use Rattle.std.proofs.Common.{◌∙◌, ap, sym}
use Rattle.std.proofs.lemmas.Option.{slice_get-map}

-- where the same item stands at a place, the same is told of it
pub same_told : {X V : Type 0} (told : X → V) (before now : List X) (place : ℕ) → slice_get now place ≡ slice_get before place
    → slice_get (map told now) place ≡ slice_get (map told before) place
same_told told before now place same = slice_get-map told now place ∙ ap (option_map told) same ∙ sym (slice_get-map told before place)
