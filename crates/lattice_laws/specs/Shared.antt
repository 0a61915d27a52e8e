-- Lists that copies share.
use Rattle.std.specs.Prelude.{◌≡◌, List, [], ◌∷◌, ◌++◌, Option, Some, None}
use Rattle.std.specs.Arc.{arc_value}
use Rattle.std.specs.declared.sync.Arc.{Arc}
use Rattle.std.specs.declared.vec.Vec.{Vec}

-- the items, none where nothing was made
abbrev pub shared_items : {T A : Type 0} → List (Option (Arc (Vec T A) A)) → List T
shared_items (Some items ∷ _) = (arc_value items).items
shared_items _ = []

-- An item was added after a list, or is given back and the list is as before.
abbrev pub IsAddedOr : {T : Type 0} → List T → T → List T → Option T → Type 0
IsAddedOr old item new None = new ≡ old ++ item ∷ []
IsAddedOr old item new (Some back) = (new ≡ old) × (back ≡ item)
