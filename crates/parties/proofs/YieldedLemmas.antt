-- The items of a vector that a loop takes, in order.
use Rattle.std.specs.Prelude.{◌≡◌, List, length, slice_get, Option, Some, None}
use Rattle.std.specs.Iterator.{Yields}
use Rattle.std.specs.Vec.Iter.{into_iter_items, into_iter_len, into_iter_steps}
use Rattle.std.specs.declared.vec.IntoIter.{IntoIter}
use Rattle.std.proofs.Common.{◌∙◌, ap, sym}
use Rattle.std.proofs.lemmas.List.{map-id}
use Rattle.std.proofs.lemmas.Iterator.Adapters.{YieldsList-from_vec}
use Rattle.std.proofs.lemmas.Iterator.Consumers.{YieldsList-end, YieldsList-turn}
use Rattle.std.proofs.lemmas.Option.{slice_get-get_or}

module _ {X Z : Type 0} (items : List X) (start : IntoIter X Z) (rest : into_iter_items start ≡ items) (long : into_iter_len start ≡ length items)
    (taken : List X) (now next : IntoIter X Z) (so_far : Yields (into_iter_steps {X = X} {Z = Z}) start taken now) (answer : Option X) (step : into_iter_steps now answer next) where
  -- the next one stands after those that were taken,
  pub next_there : (x : X) → answer ≡ Some x → slice_get items (length taken) ≡ Some x
  next_there x is =
      let turn = YieldsList-turn (YieldsList-from_vec {s = start} items rest long) taken now so_far answer next x is step in
      slice_get-get_or items (length taken) x turn.0 ∙ ap Some (sym turn.1)

  -- and where there is none, all were taken
  pub all_taken : answer ≡ None → items ≡ taken
  all_taken none = sym (YieldsList-end (YieldsList-from_vec {s = start} items rest long) taken now so_far answer next none step).0 ∙ map-id taken
