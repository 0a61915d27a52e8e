-- What holds of the world still holds after a session's next put was taken.
use Rattle.std.specs.Prelude.{◌≡◌, ◌≢◌, ◌==◌, ℕ, ◌+◌, ◌≤◌, ◌&&◌, ◌⊎◌, leb, true, List, [], ◌∷◌, ◌++◌, length, option_map, Option, Some, None}
use Rattle.std.proofs.Common.{refl, sym, ap, subst, ◌∙◌, inl, inr, arith}
use Rattle.std.proofs.lemmas.Bool.{and_parts, cases_eq, cases_lt, eqb-true, false≢true}
use Rattle.std.proofs.lemmas.List.{length_push}
use Rattle.std.proofs.lemmas.Option.{same_Some}
use Rattle.clock_lattice.specs.Clock.{count_of}
use Rattle.composed_value.specs.Cell.{PlainCell}
use Rattle.composed_value.specs.Kind.{kind_of, kind_of_value}
use Rattle.composed_value.specs.PlainValue.{IsPutOf, puts_of_session}
use Rattle.composed_value.specs.Put.{IsPut}
use Rattle.composed_value.specs.Sound.{AreAccepted}
use Rattle.composed_value.specs.declared.put.Put.{Put}
use Rattle.placement.specs.Asked.{replicas_of}
use Rattle.placement.specs.Config.{home_of}
use Rattle.merge_world.specs.Effects.{cells_at, changed_at, is_kind, takes, with_put}
use Rattle.composed_value.specs.Keyed.{kind_at, puts_on}
use Rattle.merge_world.specs.World.{PlainWorld, can_be, cells_of, is_next, map_of}
use Rattle.merge_world.specs.declared.event.Event.TheVariants as events
use Rattle.merge_world.specs.declared.private_map.KeyCells.{KeyCells}
use Rattle.merge_world.proofs.AcceptedLemmas.{accepted_push, put_here, put_of_it, put_of_other, put_there}
use Rattle.merge_world.proofs.CellsLemmas.{IsKept, CountsWithin, kept_kind, kept_push, kind_tells, one_counts}
use Rattle.merge_world.proofs.KeptLemmas.{HoldsPuts, IsAtHome, IsKeptAt, made_on}
use Rattle.merge_world.proofs.KeyCellsLemmas.{AreKept, AreTaken, kept_take}
use Rattle.merge_world.proofs.PlacesLemmas.{changed_cases, changed_here, changed_none}

-- the put is the next one of its session at its home, which holds the key and counts all before it
record IsNextPut (puts : List (ℕ × Put)) (world : PlainWorld) (worker key : ℕ) (put : Put) : Type 0 where
  at_home : home_of (replicas_of world.placement key) put.session ≡ worker
  cells : KeyCells
  at : cells_of world worker key ≡ Some cells
  is_put : IsPutOf (kind_at world.kinds key) put
  counts : count_of put.session cells.own.clock ≡ made_on put.session key puts
  next : put.number ≡ made_on put.session key puts + 1

-- what the test of the next put tells
next_tells : (put : Put) (found : Option KeyCells) → is_next put found ≡ true → (cells : KeyCells) × (found ≡ Some cells) × (kind_of put.payload ≡ kind_of_value cells.own.value) × (put.number ≡ count_of put.session cells.own.clock + 1)
next_tells put None is = absurd (false≢true is)
next_tells put (Some cells) is =
    let both = and_parts (is_kind (kind_of put.payload) (kind_of_value cells.own.value)) (put.number == count_of put.session cells.own.clock + 1) is in
    (cells, refl, kind_tells (kind_of put.payload) (kind_of_value cells.own.value) both.0, eqb-true put.number (count_of put.session cells.own.clock + 1) both.1)

-- the home's own cell counts all puts of the session, also where there are none
all_at_home : (puts : List (ℕ × Put)) (world : PlainWorld) (holds : HoldsPuts puts world) (key session : ℕ) (cells : KeyCells) → cells_of world (home_of (replicas_of world.placement key) session) key ≡ Some cells → count_of session cells.own.clock ≡ made_on session key puts
all_at_home puts world holds key session cells is =
    elim (cases_lt 0 (made_on session key puts)) [
      | inl some ↦
          let home = holds.homes key session (omega (arith, some)) in
          ap (λ (cells : KeyCells). count_of session cells.own.clock) (same_Some cells home.cells (sym is ∙ home.at)) ∙ home.counts
      | inr none ↦ omega (arith, none, (holds.cells (home_of (replicas_of world.placement key) session) key cells is).own.is_sound.shown.counts session)
    ]

-- a put that can come to a worker is such
next_put : (puts : List (ℕ × Put)) (world : PlainWorld) (holds : HoldsPuts puts world) (worker key : ℕ) (put : Put) → can_be world (events.Put worker key put) ≡ true → (1 ≤ put.number → IsPut put) → IsNextPut puts world worker key put
next_put puts world holds worker key put can is_put =
    let both = and_parts (leb 1 put.session && (home_of (replicas_of world.placement key) put.session == worker)) (is_next put (cells_of world worker key)) can in
    let at_home = eqb-true (home_of (replicas_of world.placement key) put.session) worker (and_parts (leb 1 put.session) (home_of (replicas_of world.placement key) put.session == worker) both.0).1 in
    let told = next_tells put (cells_of world worker key) both.1 in
    let all = all_at_home puts world holds key put.session told.0 (subst (λ w. cells_of world w key ≡ Some told.0) (sym at_home) told.1) in
    record {
      at_home = at_home;
      cells = told.0;
      at = told.1;
      is_put = record {
        is_put = is_put (omega (arith, told.3));
        of_kind = told.2 ∙ kept_kind (kind_at world.kinds key) (puts_on key puts) told.0.own (holds.cells worker key told.0 told.1).own;
      };
      counts = all;
      next = omega (arith, told.3, all);
    }

-- what holds of the puts on each key with one more put: on its key, and on any other
at_each_key : (claim : List Put → Type 0) (its_key key : ℕ) (put : Put) (puts : List (ℕ × Put)) → (its_key ≡ key → claim (puts_on key puts ++ put ∷ [])) → claim (puts_on key puts) → claim (puts_on key (puts ++ (its_key, put) ∷ []))
at_each_key claim its_key key put puts here there =
    elim (cases_eq its_key key) [
      | inl same ↦ subst claim (sym (put_here its_key key put puts same)) (here same)
      | inr apart ↦ subst claim (sym (put_there its_key key put puts apart)) there
    ]

-- a put counts for its session on its key, and for no other
made_cases : (session key its_key : ℕ) (put : Put) (puts : List (ℕ × Put))
    → ((its_key ≡ key) × (session ≡ put.session)) ⊎ (((key ≡ its_key) → session ≢ put.session) × (made_on session key (puts ++ (its_key, put) ∷ []) ≡ made_on session key puts))
made_cases session key its_key put puts =
    elim (cases_eq its_key key) [
      | inl same ↦ elim (cases_eq session put.session) [
        | inl of_it ↦ inl (same, of_it)
        | inr of_other ↦ inr (λ same. of_other, ap (λ made. length (puts_of_session session made)) (put_here its_key key put puts same) ∙ ap length (put_of_other session put (puts_on key puts) of_other))
      ]
      | inr apart ↦ inr (λ same. absurd (apart (sym same)), ap (λ made. length (puts_of_session session made)) (put_there its_key key put puts apart))
    ]

-- there is one more of its session on its key
made_more : (key : ℕ) (put : Put) (puts : List (ℕ × Put)) → made_on put.session key (puts ++ (key, put) ∷ []) ≡ made_on put.session key puts + 1
made_more key put puts =
    ap (λ made. length (puts_of_session put.session made)) (put_here key key put puts refl)
    ∙ ap length (put_of_it put.session put (puts_on key puts) refl)
    ∙ length_push (puts_of_session put.session (puts_on key puts)) put

module _ (puts : List (ℕ × Put)) (world : PlainWorld) (holds : HoldsPuts puts world) (worker key : ℕ) (put : Put) (is_next : IsNextPut puts world worker key put) where
  -- the puts, the world, and what the home has of the key, with the put
  abbrev more : List (ℕ × Put)
  more = puts ++ (key, put) ∷ []

  abbrev put_world : PlainWorld
  put_world = record world { maps = changed_at worker (takes key put) world.maps }

  abbrev now : KeyCells
  now = with_put put is_next.cells

  -- the puts on its key are accepted puts with it, and the home's cells take it
  accepted_now : AreAccepted (kind_at world.kinds key) (puts_on key puts ++ put ∷ [])
  accepted_now = accepted_push (kind_at world.kinds key) (puts_on key puts) put (holds.accepted key) is_next.is_put is_next.next

  taken_now : AreTaken (kind_at world.kinds key) (puts_on key puts) put is_next.cells now
  taken_now = kept_take (kind_at world.kinds key) (puts_on key puts) put is_next.cells accepted_now is_next.is_put is_next.next is_next.counts (holds.cells worker key is_next.cells is_next.at)

  -- the home has it then
  now_here : cells_of put_world worker key ≡ Some now
  now_here =
      ap (λ map. cells_at map key) (changed_here (takes key put) [] (changed_none (option_map (with_put put)) key) worker world.maps)
      ∙ changed_here (option_map (with_put put)) None refl key (map_of world worker)
      ∙ ap (option_map (with_put put)) is_next.at

  -- and each worker has of a key what it had, or this
  put_anywhere : (other of_key : ℕ) → (cells_of put_world other of_key ≡ cells_of world other of_key) ⊎ ((of_key ≡ key) × (cells_of world other of_key ≡ Some is_next.cells) × (cells_of put_world other of_key ≡ Some now))
  put_anywhere other of_key =
      elim (changed_cases (takes key put) [] (changed_none (option_map (with_put put)) key) worker other world.maps) [
        | inl same ↦ inl (ap (λ map. cells_at map of_key) same)
        | inr here ↦ elim (changed_cases (option_map (with_put put)) None refl key of_key (map_of world other)) [
          | inl same ↦ inl (ap (λ map. cells_at map of_key) here.1 ∙ same)
          | inr there ↦ inr (
            there.0,
            subst (λ (p : ℕ × ℕ). cells_of world p.0 p.1 ≡ Some is_next.cells) (λ i. (sym here.0 i, sym there.0 i)) is_next.at,
            subst (λ (p : ℕ × ℕ). cells_of put_world p.0 p.1 ≡ Some now) (λ i. (sym here.0 i, sym there.0 i)) now_here,
          )
        ]
      ]

  -- sound cells stay so
  still_kept : (of_key : ℕ) (cell : PlainCell) → IsKeptAt puts world.kinds of_key cell → IsKeptAt more world.kinds of_key cell
  still_kept of_key cell kept =
      at_each_key (λ made. IsKept (kind_at world.kinds of_key) made cell) key of_key put puts
      (λ same. kept_push (kind_at world.kinds of_key) (puts_on of_key puts) put cell (subst (λ k. put.number ≡ made_on put.session k puts + 1) same is_next.next) kept)
      kept

  -- the home's cells are sound with the put
  kept_now : AreKept (kind_at world.kinds key) (puts_on key more) now
  kept_now = subst (λ made. AreKept (kind_at world.kinds key) made now) (sym (put_here key key put puts refl)) taken_now.kept

  -- so all cells are sound with the put
  put_cells : (other of_key : ℕ) (cells : KeyCells) → cells_of put_world other of_key ≡ Some cells → AreKept (kind_at world.kinds of_key) (puts_on of_key more) cells
  put_cells other of_key cells is =
      elim (put_anywhere other of_key) [
        | inl same ↦
            let before = holds.cells other of_key cells (sym same ∙ is) in
            record { own = still_kept of_key cells.own before.own; whole = still_kept of_key cells.whole before.whole; within = before.within }
        | inr here ↦
            subst (λ k. AreKept (kind_at world.kinds k) (puts_on k more) cells) (sym here.0) (subst (AreKept (kind_at world.kinds key) (puts_on key more)) (same_Some now cells (sym here.2 ∙ is)) kept_now)
      ]

  -- the home's own cell counts the put, and of each other session what it did
  own_counts_put : count_of put.session now.own.clock ≡ made_on put.session key more
  own_counts_put =
      elim (one_counts (kind_at world.kinds key) put is_next.is_put put.session) [
        | inl of_it ↦ omega (arith, of_it.1, taken_now.own_counts put.session, is_next.counts, is_next.next, made_more key put puts)
        | inr of_other ↦ absurd (of_other.0 refl)
      ]

  own_counts_other : (session : ℕ) → session ≢ put.session → count_of session now.own.clock ≡ count_of session is_next.cells.own.clock
  own_counts_other session apart =
      elim (one_counts (kind_at world.kinds key) put is_next.is_put session) [
        | inl of_it ↦ absurd (apart of_it.0)
        | inr of_other ↦ omega (arith, of_other.1, taken_now.own_counts session)
      ]

  -- so the home of each session counts all its puts
  put_homes : (of_key session : ℕ) → 1 ≤ made_on session of_key more → IsAtHome more put_world of_key session
  put_homes of_key session some =
      elim (made_cases session of_key key put puts) [
        | inl it ↦
            subst (λ (p : ℕ × ℕ). IsAtHome more put_world p.0 p.1) (λ i. (it.0 i, sym it.1 i)) (record {
              cells = now;
              at = subst (λ w. cells_of put_world w key ≡ Some now) (sym is_next.at_home) now_here;
              counts = own_counts_put;
            })
        | inr others ↦
            let home = holds.homes of_key session (omega (arith, some, others.1)) in
            elim (put_anywhere (home_of (replicas_of world.placement of_key) session) of_key) [
              | inl same ↦ record { cells = home.cells; at = same ∙ home.at; counts = home.counts ∙ sym others.1 }
              | inr here ↦ record {
                cells = now;
                at = here.2;
                counts = own_counts_other session (others.0 here.0) ∙ ap (λ (cells : KeyCells). count_of session cells.own.clock) (same_Some is_next.cells home.cells (sym here.1 ∙ home.at)) ∙ home.counts ∙ sym others.1;
              }
            ]
      ]

  -- a session's next put at its home
  put_holds : HoldsPuts more put_world
  put_holds = record {
    accepted = λ of_key.
        at_each_key (AreAccepted (kind_at world.kinds of_key)) key of_key put puts
        (λ same. subst (λ k. AreAccepted (kind_at world.kinds k) (puts_on k puts ++ put ∷ [])) same accepted_now) (holds.accepted of_key);
    cells = put_cells;
    homes = put_homes;
    told = λ message has_it of_key cell told. still_kept of_key cell (holds.told message has_it of_key cell told);
    heard = λ message has_it delivered of_key cell told cells is.
        elim (put_anywhere message.mate of_key) [
          | inl same ↦ holds.heard message has_it delivered of_key cell told cells (sym same ∙ is)
          | inr here ↦
              subst (λ (cells : KeyCells). CountsWithin cell cells.whole) (same_Some now cells (sym here.2 ∙ is)) (λ session.
              omega (arith, holds.heard message has_it delivered of_key cell told is_next.cells here.1 session, taken_now.grown session))
        ];
  }

-- a put that can come to a worker
pub put_keeps : (puts : List (ℕ × Put)) (world : PlainWorld) (holds : HoldsPuts puts world) (worker key : ℕ) (put : Put) → can_be world (events.Put worker key put) ≡ true → (1 ≤ put.number → IsPut put) → HoldsPuts (puts ++ (key, put) ∷ []) (record world { maps = changed_at worker (takes key put) world.maps })
put_keeps puts world holds worker key put can is_put = put_holds puts world holds worker key put (next_put puts world holds worker key put can is_put)
