-- What holds of the world after each event. It holds before any event, and gossip keeps it.
use Rattle.std.specs.Prelude.{◌≡◌, ◌==◌, ℕ, zero, suc, ◌+◌, ◌-◌, ◌≤◌, ◌⊎◌, true, false, IsTrue, if◌then◌else◌, List, [], ◌∷◌, ◌++◌, length, map, option_map, slice_get, slice_index_or, zip, Option, Some, None, Contains}
use Rattle.std.specs.List.{list_any, range_with_len}
use Rattle.std.proofs.Common.{refl, sym, ap, subst, ◌∙◌, inl, inr, arith}
use Rattle.std.proofs.lemmas.Bool.{eqb-true, false≢true}
use Rattle.std.proofs.lemmas.Option.{none-some, same_Some, slice_get_within, get_or_from_slice_get}
use Rattle.std.proofs.lemmas.List.Elements.{Contains-push_cases}
use Rattle.lattice_laws.proofs.MembersLemmas.{contains_none}
use Rattle.clock_lattice.specs.Clock.{count_of}
use Rattle.composed_value.specs.Cell.{PlainCell}
use Rattle.composed_value.specs.PlainValue.{puts_of_session}
use Rattle.composed_value.specs.Sound.{AreAccepted}
use Rattle.composed_value.specs.declared.kind.Kind.{Kind}
use Rattle.composed_value.specs.declared.kind.Kind.TheVariants.{Max}
use Rattle.composed_value.specs.declared.put.Put.{Put}
use Rattle.placement.specs.Asked.{replicas_of}
use Rattle.placement.specs.Config.{home_of}
use Rattle.merge_world.specs.Effects.{cells_at, changed_at, empty_cells, hears, opening_map, tells, told_of}
use Rattle.composed_value.specs.Keyed.{kind_at, puts_on}
use Rattle.merge_world.specs.World.{PlainWorld, cells_of, entries_of, is_for, map_of, opening, workers_of}
use Rattle.merge_world.specs.declared.private_map.KeyCells.{KeyCells}
use Rattle.merge_world.specs.declared.world.Message.{Message}
use Rattle.merge_world.proofs.AcceptedLemmas.{none_accepted}
use Rattle.merge_world.proofs.CellsLemmas.{IsKept, CountsWithin}
use Rattle.merge_world.proofs.KeyCellsLemmas.{AreKept, AreLater, CountsEntries, empty_kept, heard_on, hears_at, hears_nowhere, kept_heard}
use Rattle.merge_world.proofs.PlacesLemmas.{changed_cases, changed_contains, changed_from, changed_here, gathered_from}

-- how many puts of a session on a key there are
abbrev pub made_on : ℕ → ℕ → List (ℕ × Put) → ℕ
made_on session key puts = length (puts_of_session session (puts_on key puts))

-- a cell of a key is sound for the puts on the key
abbrev pub IsKeptAt : List (ℕ × Put) → List Kind → ℕ → PlainCell → Type 0
IsKeptAt puts kinds key cell = IsKept (kind_at kinds key) (puts_on key puts) cell

-- the home of a session on a key holds the key, and its own cell counts all puts of the session
pub record IsAtHome (puts : List (ℕ × Put)) (world : PlainWorld) (key session : ℕ) : Type 0 where
  pub cells : KeyCells
  pub at : cells_of world (home_of (replicas_of world.placement key) session) key ≡ Some cells
  pub counts : count_of session cells.own.clock ≡ made_on session key puts

-- What holds after each event: the puts that were taken are accepted puts, each worker's cells and each that was told are sound for them,
-- the home of each session that put counts all its puts, and the whole cell of whoever heard a message counts what it told.
pub record HoldsPuts (puts : List (ℕ × Put)) (world : PlainWorld) : Type 0 where
  pub accepted : (key : ℕ) → AreAccepted (kind_at world.kinds key) (puts_on key puts)
  pub cells : (worker key : ℕ) (cells : KeyCells) → cells_of world worker key ≡ Some cells → AreKept (kind_at world.kinds key) (puts_on key puts) cells
  pub homes : (key session : ℕ) → 1 ≤ made_on session key puts → IsAtHome puts world key session
  pub told : (message : Message) → Contains world.pool message → (key : ℕ) (cell : PlainCell) → Contains message.entries (key, cell) → IsKeptAt puts world.kinds key cell
  pub heard : (message : Message) → Contains world.pool message → IsTrue message.delivered → (key : ℕ) (cell : PlainCell) → Contains message.entries (key, cell)
      → (cells : KeyCells) → cells_of world message.mate key ≡ Some cells → CountsWithin cell cells.whole

-- a worker's cells of a key before any put are empty
opening_at : (placement : List (List ℕ)) (kinds : List Kind) (worker key : ℕ) (cells : KeyCells) → cells_at (opening_map placement kinds worker) key ≡ Some cells → empty_cells (kind_at kinds key) ≡ cells
opening_at placement kinds worker zero cells is = absurd (none-some cells is)
opening_at placement kinds worker (suc i) cells is =
    let place : suc i - 1 ≡ i = omega arith in
    ap (λ k. empty_cells (slice_index_or kinds k Max)) place ∙ in_zip placement kinds i is
  where
    -- the same of the replicas and kinds of all keys, from the first on
    in_zip : (placement : List (List ℕ)) (kinds : List Kind) (i : ℕ)
        → slice_index_or (map (λ (key : List ℕ × Kind). let held : Option KeyCells = if list_any (λ replica. replica == worker) key.0 then Some (empty_cells key.1) else None in held) (zip placement kinds)) i None ≡ Some cells
        → empty_cells (slice_index_or kinds i Max) ≡ cells
    in_zip [] kinds i is = absurd (none-some cells is)
    in_zip (replicas ∷ placement) [] i is = absurd (none-some cells is)
    in_zip (replicas ∷ placement) (kind ∷ kinds) zero is =
        elim (list_any (λ replica. replica == worker) replicas) as (λ t. let held : Option KeyCells = if t then Some (empty_cells kind) else None in held ≡ Some cells → empty_cells kind ≡ cells) [
          | true ↦ λ same. same_Some (empty_cells kind) cells same
          | false ↦ λ none. absurd (none-some cells none)
        ] is
    in_zip (replicas ∷ placement) (kind ∷ kinds) (suc i) is = in_zip placement kinds i is

-- an empty map has no cells
no_cells : (key : ℕ) (cells : KeyCells) → cells_at [] key ≡ Some cells → ⊥
no_cells zero cells is = none-some cells is
no_cells (suc i) cells is = none-some cells is

-- a worker's map is empty or one of those that were made
made_map : {X : Type 0} (claim : X → Type 0) (none : X) (make : ℕ → X) → claim none → ((n : ℕ) → claim (make n)) → (numbers : List ℕ) (i : ℕ) → claim (slice_index_or (map make numbers) i none)
made_map claim none make of_none of_made [] i = of_none
made_map claim none make of_none of_made (n ∷ numbers) zero = of_made n
made_map claim none make of_none of_made (n ∷ numbers) (suc i) = made_map claim none make of_none of_made numbers i

-- before any event
pub opening_holds : (placement : List (List ℕ)) (kinds : List Kind) → HoldsPuts [] (opening placement kinds)
opening_holds placement kinds = record {
  accepted = λ key. none_accepted (kind_at kinds key);
  cells = λ worker key cells is. subst (AreKept (kind_at kinds key) []) (of_worker worker key cells is) (empty_kept (kind_at kinds key));
  homes = λ key session some. absurd (omega (arith, some));
  told = λ message has_it. absurd (contains_none message has_it);
  heard = λ message has_it. absurd (contains_none message has_it);
}
  where
    of_worker : (worker key : ℕ) (cells : KeyCells) → cells_of (opening placement kinds) worker key ≡ Some cells → empty_cells (kind_at kinds key) ≡ cells
    of_worker zero key cells is = absurd (no_cells key cells is)
    of_worker (suc i) key cells is =
        made_map (λ at. cells_at at key ≡ Some cells → empty_cells (kind_at kinds key) ≡ cells) [] (opening_map placement kinds) (λ none. absurd (no_cells key cells none)) (λ worker. opening_at placement kinds worker key cells) (range_with_len 1 (workers_of placement)) i is

module _ (puts : List (ℕ × Put)) (world : PlainWorld) (holds : HoldsPuts puts world) where
  -- a worker tells
  pub send_keeps : (worker mate : ℕ) (keys : List ℕ) → HoldsPuts puts (record world { pool = world.pool ++ record { worker = worker; mate = mate; entries = tells keys (map_of world worker); delivered = false } ∷ [] })
  send_keeps worker mate keys = record {
    accepted = holds.accepted;
    cells = holds.cells;
    homes = λ key session some. let home = holds.homes key session some in record { cells = home.cells; at = home.at; counts = home.counts };
    told = λ message has_it key cell told.
        elim (Contains-push_cases world.pool new message has_it) [
          | inl before ↦ holds.told message before key cell told
          | inr last ↦
              let of_key = gathered_from (told_of (map_of world worker)) keys (key, cell) (subst (λ (m : Message). Contains m.entries (key, cell)) (sym last) told) in
              let found = changed_from (λ (cells : KeyCells). (of_key.0, cells.own)) (cells_of world worker of_key.0) (key, cell) of_key.1 in
              subst (λ (e : ℕ × PlainCell). IsKeptAt puts world.kinds e.0 e.1) found.2 (holds.cells worker of_key.0 found.0 found.1).own
        ];
    heard = λ message has_it delivered.
        elim (Contains-push_cases world.pool new message has_it) [
          | inl before ↦ holds.heard message before delivered
          | inr last ↦ absurd (false≢true (ap (λ (m : Message). m.delivered) last ∙ delivered))
        ];
  }
    where
      new : Message
      new = record { worker = worker; mate = mate; entries = tells keys (map_of world worker); delivered = false }

  module _ (worker i : ℕ) (message : Message) (at : slice_get world.pool i ≡ Some message) (for_it : message.mate ≡ worker) where
    -- the world after the worker heard a message
    abbrev heard_world : PlainWorld
    heard_world = record world { maps = changed_at worker (hears message.entries) world.maps; pool = changed_at (i + 1) (λ m. record m { delivered = true }) world.pool }

    -- what the worker has of a key then
    heard_here : (key : ℕ) → cells_of heard_world worker key ≡ option_map (heard_on key message.entries) (cells_of world worker key)
    heard_here key =
        ap (λ map. cells_at map key) (changed_here (hears message.entries) [] (hears_nowhere message.entries) worker world.maps) ∙ hears_at key message.entries (map_of world worker)

    -- each worker has of a key what it had, or that after it heard
    heard_anywhere : (other key : ℕ) → (cells_of heard_world other key ≡ cells_of world other key) ⊎ (cells_of heard_world other key ≡ option_map (heard_on key message.entries) (cells_of world other key))
    heard_anywhere other key =
        elim (changed_cases (hears message.entries) [] (hears_nowhere message.entries) worker other world.maps) [
          | inl same ↦ inl (ap (λ map. cells_at map key) same)
          | inr here ↦ inr (ap (λ map. cells_at map key) here.1 ∙ hears_at key message.entries (map_of world other))
        ]

    -- the message was sent
    is_there : Contains world.pool message
    is_there = (i, slice_get_within world.pool i message at, get_or_from_slice_get world.pool i message message at)

    -- sound cells stay so and count what was told
    heard_kept : (other key : ℕ) (cells : KeyCells) → cells_of world other key ≡ Some cells
        → AreLater (kind_at world.kinds key) (puts_on key puts) cells (heard_on key message.entries cells) × CountsEntries key message.entries (heard_on key message.entries cells).whole
    heard_kept other key cells is =
        kept_heard (kind_at world.kinds key) (puts_on key puts) key message.entries cells
        (holds.told message is_there key) (holds.cells other key cells is)

    -- what there is was there before
    heard_from : (other key : ℕ) (now : KeyCells) → cells_of heard_world other key ≡ Some now → (cells : KeyCells) × (cells_of world other key ≡ Some cells) × AreLater (kind_at world.kinds key) (puts_on key puts) cells now
    heard_from other key now is =
        elim (heard_anywhere other key) [
          | inl same ↦ let before = sym same ∙ is in (now, before, record { kept = holds.cells other key now before; same_own = refl; grown = λ session. omega arith })
          | inr here ↦
              let found = changed_from (heard_on key message.entries) (cells_of world other key) now (sym here ∙ is) in
              (found.0, found.1, subst (AreLater (kind_at world.kinds key) (puts_on key puts) found.0) found.2 (heard_kept other key found.0 found.1).0)
        ]

    -- and what was there stays there, with the same own cell
    still_there : (other key : ℕ) (cells : KeyCells) → cells_of world other key ≡ Some cells → (now : KeyCells) × (cells_of heard_world other key ≡ Some now) × (now.own ≡ cells.own)
    still_there other key cells is =
        elim (heard_anywhere other key) [
          | inl same ↦ (cells, same ∙ is, refl)
          | inr here ↦ (heard_on key message.entries cells, here ∙ ap (option_map (heard_on key message.entries)) is, (heard_kept other key cells is).0.same_own)
        ]

    -- a message is one of those before, or the one that was heard now
    heard_message : (m : Message) → Contains heard_world.pool m → Contains world.pool m ⊎ (record message { delivered = true } ≡ m)
    heard_message m has_it =
        let place : i + 1 ≡ suc i = omega arith in
        elim (changed_contains (λ m. record m { delivered = true }) i world.pool m (subst (λ k. Contains (changed_at k (λ m. record m { delivered = true }) world.pool) m) place has_it)) [
          | inl before ↦ inl before
          | inr now ↦ inr (ap (λ (m : Message). record m { delivered = true }) (same_Some message now.0 (sym at ∙ now.1)) ∙ now.2)
        ]

    -- so what holds still does
    deliver_holds : HoldsPuts puts heard_world
    deliver_holds = record {
      accepted = holds.accepted;
      cells = λ other key now is. (heard_from other key now is).2.kept;
      homes = λ key session some.
          let home = holds.homes key session some in
          let now = still_there (home_of (replicas_of world.placement key) session) key home.cells home.at in
          record { cells = now.0; at = now.1; counts = ap (λ (cell : PlainCell). count_of session cell.clock) now.2 ∙ home.counts };
      told = λ m has_it key cell told.
          elim (heard_message m has_it) [
            | inl before ↦ holds.told m before key cell told
            | inr same ↦ holds.told message is_there key cell (subst (λ (m : Message). Contains m.entries (key, cell)) (sym same) told)
          ];
      heard = λ m has_it delivered key cell told now is.
          elim (heard_message m has_it) [
            | inl before ↦ let from = heard_from m.mate key now is in λ session. omega (arith, holds.heard m before delivered key cell told from.0 from.1 session, from.2.grown session)
            | inr same ↦
                let to_worker : m.mate ≡ worker = ap (λ (m : Message). m.mate) (sym same) ∙ for_it in
                let found = changed_from (heard_on key message.entries) (cells_of world worker key) now (sym (heard_here key) ∙ subst (λ w. cells_of heard_world w key ≡ Some now) to_worker is) in
                subst (λ (cells : KeyCells). CountsWithin cell cells.whole) found.2 ((heard_kept worker key found.0 found.1).1 cell (subst (λ (m : Message). Contains m.entries (key, cell)) (sym same) told))
          ];
    }

  -- a worker hears a message that is for it
  pub deliver_keeps : (worker i : ℕ) (found : Option Message) → slice_get world.pool i ≡ found → is_for worker found ≡ true
      → HoldsPuts puts (record world { maps = changed_at worker (hears (entries_of found)) world.maps; pool = changed_at (i + 1) (λ m. record m { delivered = true }) world.pool })
  deliver_keeps worker i None at for_it = absurd (false≢true for_it)
  deliver_keeps worker i (Some message) at for_it = deliver_holds worker i message at (eqb-true message.mate worker for_it)
