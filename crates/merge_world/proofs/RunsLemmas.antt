-- After all events each cell is sound for the puts that were taken, and once the world is settled all replicas of each key are equal.
use Rattle.std.specs.Prelude.{◌≡◌, ◌≢◌, ℕ, Bool, true, false, if◌then◌else◌, List, [], ◌∷◌, ◌++◌, slice_get, Some, All}
use Rattle.std.proofs.Common.{refl, sym, ap, subst, ◌∙◌, inl, inr, append_assoc, append-nil, arith}
use Rattle.std.proofs.lemmas.Bool.{cases_eq, cases_lt}
use Rattle.std.proofs.lemmas.Option.{same_Some}
use Rattle.std.proofs.lemmas.List.Elements.{All-head, All-tail}
use Rattle.clock_lattice.specs.Clock.{count_of}
use Rattle.composed_value.specs.declared.kind.Kind.{Kind}
use Rattle.composed_value.specs.declared.put.Put.{Put}
use Rattle.placement.specs.Asked.{replicas_of}
use Rattle.placement.specs.Config.{home_of}
use Rattle.composed_value.specs.Keyed.{kind_at, puts_on}
use Rattle.merge_world.specs.World.{PlainWorld, AreEqual, AreSound, IsEvent, IsSettled, after, can_be, cells_of, opening, put_of, puts_taken, ran, stepped}
use Rattle.merge_world.specs.declared.event.Event.{Event}
use Rattle.merge_world.specs.declared.event.Event.TheVariants as events
use Rattle.merge_world.specs.declared.private_map.KeyCells.{KeyCells}
use Rattle.merge_world.proofs.CellsLemmas.{kept_same}
use Rattle.merge_world.proofs.KeptLemmas.{HoldsPuts, deliver_keeps, made_on, opening_holds, send_keeps}
use Rattle.merge_world.proofs.PutLemmas.{put_keeps}

-- what an event that can be changes keeps what holds
after_keeps : (puts : List (ℕ × Put)) (world : PlainWorld) (event : Event) → IsEvent event → HoldsPuts puts world → can_be world event ≡ true → HoldsPuts (puts ++ put_of world event) (after world event)
after_keeps puts world (events.Put worker key put) is holds can =
    subst (λ t. HoldsPuts (puts ++ (let taken : List (ℕ × Put) = if t then (key, put) ∷ [] else [] in taken)) (after world (events.Put worker key put))) (sym can) (put_keeps puts world holds worker key put can is)
after_keeps puts world (events.Get worker key) is holds can = subst (λ made. HoldsPuts made world) (sym (append-nil puts)) holds
after_keeps puts world (events.Send worker mate keys) is holds can = subst (λ made. HoldsPuts made (after world (events.Send worker mate keys))) (sym (append-nil puts)) (send_keeps puts world holds worker mate keys)
after_keeps puts world (events.Deliver worker message) is holds can =
    subst (λ made. HoldsPuts made (after world (events.Deliver worker message))) (sym (append-nil puts)) (deliver_keeps puts world holds worker message (slice_get world.pool message) refl can)

-- an event that cannot be brings no put
none_put : (world : PlainWorld) (event : Event) → can_be world event ≡ false → put_of world event ≡ []
none_put world (events.Put worker key put) cannot = ap (λ (t : Bool). let taken : List (ℕ × Put) = if t then (key, put) ∷ [] else [] in taken) cannot
none_put world event cannot = refl

-- and each event keeps what holds
step_keeps : (puts : List (ℕ × Put)) (world : PlainWorld) (event : Event) → IsEvent event → HoldsPuts puts world → HoldsPuts (puts ++ put_of world event) (stepped world event)
step_keeps puts world event is holds = by_test (can_be world event) refl
  where
    by_test : (t : Bool) → can_be world event ≡ t → HoldsPuts (puts ++ put_of world event) (let next : PlainWorld = if can_be world event then after world event else world in next)
    by_test true can = subst (λ t. HoldsPuts (puts ++ put_of world event) (let next : PlainWorld = if t then after world event else world in next)) (sym can) (after_keeps puts world event is holds can)
    by_test false cannot = subst (λ t. HoldsPuts (puts ++ put_of world event) (let next : PlainWorld = if t then after world event else world in next)) (sym cannot) (subst (λ made. HoldsPuts made world) (sym (ap (λ more. puts ++ more) (none_put world event cannot) ∙ append-nil puts)) holds)

-- so do all
run_keeps : (puts : List (ℕ × Put)) (world : PlainWorld) (all : List Event) → All IsEvent all → HoldsPuts puts world → HoldsPuts (puts ++ puts_taken world all) (ran world all)
run_keeps puts world [] are holds = subst (λ made. HoldsPuts made world) (sym (append-nil puts)) holds
run_keeps puts world (event ∷ others) are holds =
    subst (λ made. HoldsPuts made (ran (stepped world event) others)) (append_assoc puts (put_of world event) (puts_taken (stepped world event) others))
    (run_keeps (puts ++ put_of world event) (stepped world event) others (All-tail IsEvent event others are) (step_keeps puts world event (All-head IsEvent event others are) holds))

-- what holds after all events
ran_holds : (placement : List (List ℕ)) (kinds : List Kind) (all : List Event) → All IsEvent all → HoldsPuts (puts_taken (opening placement kinds) all) (ran (opening placement kinds) all)
ran_holds placement kinds all are = run_keeps [] (opening placement kinds) all are (opening_holds placement kinds)

-- After all events each cell is sound for the puts that were taken.
pub runs_are_sound : (placement : List (List ℕ)) (kinds : List Kind) (all : List Event) → All IsEvent all → AreSound (puts_taken (opening placement kinds) all) (ran (opening placement kinds) all)
runs_are_sound placement kinds all are =
    let holds = ran_holds placement kinds all are in
    λ worker key cells is. let kept = holds.cells worker key cells is in (kept.own.is_sound, kept.whole.is_sound)

-- where the world is settled, each whole cell counts all puts of each session
settled_counts : (puts : List (ℕ × Put)) (world : PlainWorld) → HoldsPuts puts world → IsSettled world → (worker key : ℕ) (cells : KeyCells) → cells_of world worker key ≡ Some cells
    → (session : ℕ) → count_of session cells.whole.clock ≡ made_on session key puts
settled_counts puts world holds settled worker key cells is session =
    let kept = holds.cells worker key cells is in
    let most = kept.whole.is_sound.shown.counts session in
    elim (cases_lt 0 (made_on session key puts)) [
      | inl some ↦
          let home_worker : ℕ = home_of (replicas_of world.placement key) session in
          let home = holds.homes key session (omega (arith, some)) in
          elim (cases_eq worker home_worker) [
            | inl same ↦
                let own_counts : count_of session cells.own.clock ≡ made_on session key puts = ap (λ (c : KeyCells). count_of session c.own.clock) (same_Some cells home.cells (sym is ∙ subst (λ w. cells_of world w key ≡ Some home.cells) (sym same) home.at)) ∙ home.counts in
                omega (arith, own_counts, kept.within session, most)
            | inr apart ↦
                let counts_some : home.cells.own.clock ≢ [] = λ none. let counts_none : count_of session home.cells.own.clock ≡ 0 = ap (count_of session) none in omega (arith, counts_none, home.counts, some) in
                let told = settled home_worker worker key home.cells cells home.at is counts_some apart in
                let heard = holds.heard told.0 told.1 told.2.heard key home.cells.own told.2.told cells (subst (λ w. cells_of world w key ≡ Some cells) (sym told.2.to_worker) is) session in
                omega (arith, heard, home.counts, most)
          ]
      | inr none ↦ omega (arith, none, most)
    ]

-- Once what each worker took itself was heard by all that hold the key, all replicas of each key are equal.
pub settled_are_equal : (placement : List (List ℕ)) (kinds : List Kind) (all : List Event) → All IsEvent all → IsSettled (ran (opening placement kinds) all) → AreEqual (ran (opening placement kinds) all)
settled_are_equal placement kinds all are settled =
    let puts : List (ℕ × Put) = puts_taken (opening placement kinds) all in
    let world : PlainWorld = ran (opening placement kinds) all in
    let holds = ran_holds placement kinds all are in
    λ worker other key cells of_other is is_other.
    kept_same (kind_at world.kinds key) (puts_on key puts) of_other.whole cells.whole (holds.cells other key of_other is_other).whole (holds.cells worker key cells is).whole
    (λ session. settled_counts puts world holds settled other key of_other is_other session ∙ sym (settled_counts puts world holds settled worker key cells is session))
