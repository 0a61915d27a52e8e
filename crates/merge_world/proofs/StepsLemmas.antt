-- Events that happen one after another: how many messages there are then, and what the world is.
use Rattle.std.specs.Prelude.{◌≡◌, ℕ, ◌+◌, ◌<◌, ◌≤◌, true, false, if◌then◌else◌, List, [], ◌∷◌, length, take, slice_index_or}
use Rattle.std.proofs.Common.{sym, ap, ◌∙◌, arith}
use Rattle.std.proofs.lemmas.List.{length_push, take_more}
use Rattle.std.proofs.lemmas.List.Sums.{fold-append}
use Rattle.merge_world.specs.Effects.{tells}
use Rattle.merge_world.specs.World.{PlainWorld, after, can_be, map_of, ran, stepped}
use Rattle.merge_world.specs.declared.event.Event.{Event}
use Rattle.merge_world.specs.declared.event.Event.TheVariants as events
use Rattle.merge_world.specs.declared.world.Message.{Message}
use Rattle.merge_world.proofs.AtLemmas.{changed_long}

-- an event that can be sends one message at most
after_few : (world : PlainWorld) (event : Event) → length (after world event).pool ≤ length world.pool + 1
after_few world (events.Put worker key put) = omega arith
after_few world (events.Get worker key) = omega arith
after_few world (events.Send worker mate keys) =
    let sent : Message = record { worker = worker; mate = mate; entries = tells keys (map_of world worker); delivered = false } in
    omega (arith, length_push world.pool sent)
after_few world (events.Deliver worker message) = omega (arith, changed_long (message + 1) (λ (m : Message). record m { delivered = true }) world.pool)

-- so does each event
pub stepped_few : (world : PlainWorld) (event : Event) → length (stepped world event).pool ≤ length world.pool + 1
stepped_few world event =
    elim (can_be world event) as (λ t. length (let next : PlainWorld = if t then after world event else world in next).pool ≤ length world.pool + 1) [
      | true ↦ after_few world event
      | false ↦ omega arith
    ]

-- one event more
pub ran_more : (world : PlainWorld) (all : List Event) (i : ℕ) (event : Event) → i < length all → event ≡ slice_index_or all i event → ran world (take (i + 1) all) ≡ stepped (ran world (take i all)) event
ran_more world all i event low here =
    ap (ran world) (take_more all i event low) ∙ fold-append stepped world (take i all) (slice_index_or all i event ∷ []) ∙ ap (stepped (ran world (take i all))) (sym here)
