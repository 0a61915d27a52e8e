-- Cells that are sound for the accepted puts on their key: what is merged in keeps them so, and so does a put that they do not count yet.
use Rattle.std.specs.Prelude.{◌≡◌, ◌≢◌, ℕ, ◌+◌, ◌<◌, ◌≤◌, ◌==◌, max, Bool, true, false, cond, if◌then◌else◌, ◌⊎◌, List, [], ◌∷◌, ◌++◌, length, map}
use Rattle.std.proofs.Common.{refl, sym, ap, subst, ◌∙◌, inl, inr, append-nil, arith}
use Rattle.std.proofs.lemmas.Bool.{lt-leb, cases_eq, false≢true}
use Rattle.std.proofs.lemmas.Bool.Decides.{eqb_tells}
use Rattle.std.proofs.lemmas.List.{length_push}
use Rattle.std.proofs.lemmas.List.Elements.{Contains-push, filter-append}
use Rattle.lattice_laws.specs.Greatest.{IsGreatestOrZero}
use Rattle.lattice_laws.proofs.GreatestOfListsLemmas.{greatest_or_zero_of_none, greatest_or_zero_of_one, greatest_or_zero_is_single}
use Rattle.clock_lattice.specs.Clock.{count_of}
use Rattle.clock_lattice.specs.ClockLaws.{count-joined}
use Rattle.clock_lattice.proofs.ClockLemmas.{same_counts}
use Rattle.clock_lattice.specs.Needs.{clock_at}
use Rattle.clock_lattice.proofs.NeedsLemmas.{same_clocks, clock_at_is_clock}
use Rattle.composed_value.specs.Cell.{PlainCell, IsCell, AreOfOneKind, empty_cell, joined_cells, one_put_cell}
use Rattle.composed_value.specs.CellLaws.{cell_laws, same_parts}
use Rattle.composed_value.specs.Kind.{kind_of_value}
use Rattle.composed_value.specs.PlainValue.{IsPutOf, IsValueOf, puts_of_session}
use Rattle.composed_value.specs.Sound.{counted, is_counted, IsSoundCell, AreAccepted}
use Rattle.composed_value.proofs.CellOfLemmas.{cell_of_none, cell_of_one, empty_is_cell, one_put_is_cell}
use Rattle.composed_value.proofs.PlainValueLemmas.{value_has_kind, value_is_single}
use Rattle.composed_value.proofs.SoundLemmas.{sound_join, sound_next}
use Rattle.composed_value.specs.declared.kind.Kind.{Kind}
use Rattle.composed_value.specs.declared.kind.Kind.TheVariants.{Max, Or, Set, Map, Last, Versions, Counter, OrSet}
use Rattle.composed_value.specs.declared.put.Put.{Put}
use Rattle.merge_world.specs.Effects.{is_kind, merged}
use Rattle.merge_world.proofs.AcceptedLemmas.{put_of_it, put_of_other}

-- a cell that there can be, and sound for the puts
pub record IsKept (kind : Kind) (puts : List Put) (cell : PlainCell) : Type 0 where
  pub is_cell : IsCell cell
  pub is_sound : IsSoundCell kind puts cell

-- of each session one cell counts at most what the other counts
abbrev pub CountsWithin : PlainCell → PlainCell → Type 0
CountsWithin a b = (session : ℕ) → count_of session a.clock ≤ count_of session b.clock

-- what tells that two kinds are one
pub kind_tells : (a b : Kind) → is_kind a b ≡ true → a ≡ b
kind_tells Max Max is = refl
kind_tells Or Or is = refl
kind_tells Set Set is = refl
kind_tells Map Map is = refl
kind_tells Last Last is = refl
kind_tells Versions Versions is = refl
kind_tells Counter Counter is = refl
kind_tells OrSet OrSet is = refl
kind_tells a b is = absurd (false≢true is)

-- a kind is itself
pub kind_itself : (kind : Kind) → is_kind kind kind ≡ true
kind_itself Max = refl
kind_itself Or = refl
kind_itself Set = refl
kind_itself Map = refl
kind_itself Last = refl
kind_itself Versions = refl
kind_itself Counter = refl
kind_itself OrSet = refl

-- a sound cell has the kind of its key
pub kept_kind : (kind : Kind) (puts : List Put) (cell : PlainCell) → IsKept kind puts cell → kind_of_value cell.value ≡ kind
kept_kind kind puts cell kept = value_has_kind kind (counted puts cell.clock) cell.value kept.is_sound.shown.value_is

-- a cell of the same kind is joined in
merged_joins : (into cell : PlainCell) → AreOfOneKind cell into → merged into cell ≡ joined_cells into cell
merged_joins into cell same =
    ap (λ kind. if is_kind kind (kind_of_value into.value) then joined_cells into cell else into) same
    ∙ ap (λ (t : Bool). let after : PlainCell = if t then joined_cells into cell else into in after) (kind_itself (kind_of_value into.value))

-- and of each session the greater of the two counts is counted then
merged_counts : (into cell : PlainCell) → IsCell into → IsCell cell → AreOfOneKind cell into → (session : ℕ) → count_of session (merged into cell).clock ≡ max (count_of session into.clock) (count_of session cell.clock)
merged_counts into cell is_into is_cell same session =
    ap (λ after. count_of session after.clock) (merged_joins into cell same) ∙ count-joined session into.clock cell.clock is_into.clock_is is_cell.clock_is

-- what a cell is after another of its kind is merged in
pub record IsMerged (kind : Kind) (puts : List Put) (into cell after : PlainCell) : Type 0 where
  pub kept : IsKept kind puts after
  pub counts : (session : ℕ) → count_of session after.clock ≡ max (count_of session into.clock) (count_of session cell.clock)

-- sound cells that are merged are a sound cell
pub kept_merged : (kind : Kind) (puts : List Put) (into cell : PlainCell) → IsKept kind puts into → IsKept kind puts cell → IsMerged kind puts into cell (merged into cell)
kept_merged kind puts into cell of_into of_cell =
    let same : AreOfOneKind cell into = kept_kind kind puts cell of_cell ∙ sym (kept_kind kind puts into of_into) in
    record {
      kept = subst (IsKept kind puts) (sym (merged_joins into cell same)) (record {
        is_cell = (cell_laws.closed into cell of_into.is_cell of_cell.is_cell (sym same)).0;
        is_sound = sound_join kind puts into cell of_into.is_cell of_cell.is_cell of_into.is_sound of_cell.is_sound;
      });
      counts = merged_counts into cell of_into.is_cell of_cell.is_cell same;
    }

-- the clock of one put counts the put, and none of another session
pub one_counts : (kind : Kind) (put : Put) → IsPutOf kind put → (session : ℕ) → ((session ≡ put.session) × (count_of session (one_put_cell put).clock ≡ put.number)) ⊎ ((session ≢ put.session) × (count_of session (one_put_cell put).clock ≡ 0))
one_counts kind put is session =
    let count : ℕ = count_of session (one_put_cell put).clock in
    let greatest = (cell_of_one kind put is).clock session in
    let greatest_as = λ (t : Bool) (tests : (session == put.session) ≡ t). subst (λ u. IsGreatestOrZero (map (λ p. p.number) (cond u (put ∷ []) [])) count) tests greatest in
    elim (eqb_tells session put.session) [
      | inl same ↦ inl (same.1, greatest_or_zero_is_single (put.number ∷ []) count put.number (greatest_as true same.0) (greatest_or_zero_of_one put.number))
      | inr apart ↦ inr (apart.1, greatest_or_zero_is_single [] count 0 (greatest_as false apart.0) greatest_or_zero_of_none)
    ]

-- a clock that does not count the last put counts the same without it
uncounted_push : (puts : List Put) (put : Put) (clock : List (ℕ × ℕ)) → count_of put.session clock < put.number → counted (puts ++ put ∷ []) clock ≡ counted puts clock
uncounted_push puts put clock above =
    filter-append (is_counted clock) puts (put ∷ [])
    ∙ ap (λ t. counted puts clock ++ cond t (put ∷ []) []) (lt-leb put.number (count_of put.session clock) above)
    ∙ append-nil (counted puts clock)

-- there are no fewer puts of a session with one more
more_of_session : (session : ℕ) (puts : List Put) (put : Put) → length (puts_of_session session puts) ≤ length (puts_of_session session (puts ++ put ∷ []))
more_of_session session puts put =
    elim (cases_eq session put.session) [
      | inl same ↦ omega (arith, ap length (put_of_it session put puts same), length_push (puts_of_session session puts) put)
      | inr apart ↦ omega (arith, ap length (put_of_other session put puts apart))
    ]

-- a sound cell stays sound where the next put of a session is accepted
pub kept_push : (kind : Kind) (puts : List Put) (put : Put) (cell : PlainCell) → put.number ≡ length (puts_of_session put.session puts) + 1 → IsKept kind puts cell → IsKept kind (puts ++ put ∷ []) cell
kept_push kind puts put cell next kept =
    let sound = kept.is_sound in
    let same = sym (uncounted_push puts put cell.clock (omega (arith, next, sound.shown.counts put.session))) in
    record {
      is_cell = kept.is_cell;
      is_sound = record {
        shown = record {
          counts = λ session. omega (arith, sound.shown.counts session, more_of_session session puts put);
          value_is = subst (λ made. IsValueOf kind made cell.value) same sound.shown.value_is;
          top_is = subst (λ (made : List Put). IsGreatestOrZero (map (λ p. p.lamport) made) cell.top) same sound.shown.top_is;
        };
        needs = λ needed session. subst (λ (made : List Put). IsGreatestOrZero (map (λ p. count_of session (clock_at needed p.needs)) made) (count_of session (clock_at needed cell.needs))) same (sound.needs needed session);
      };
    }

-- a sound cell that counts all puts of the session so far takes the next one
pub kept_next : (kind : Kind) (puts : List Put) (put : Put) (cell : PlainCell) → AreAccepted kind (puts ++ put ∷ []) → IsPutOf kind put → put.number ≡ length (puts_of_session put.session puts) + 1 → count_of put.session cell.clock ≡ length (puts_of_session put.session puts) → IsKept kind puts cell → IsMerged kind (puts ++ put ∷ []) cell (one_put_cell put) (merged cell (one_put_cell put))
kept_next kind puts put cell accepted is next all kept =
    let one : PlainCell = one_put_cell put in
    let is_one = one_put_is_cell kind put is in
    let now = kept_push kind puts put cell next kept in
    let same : AreOfOneKind one cell = value_has_kind kind (put ∷ []) one.value (cell_of_one kind put is).value ∙ sym (kept_kind kind puts cell kept) in
    record {
      kept = subst (IsKept kind (puts ++ put ∷ [])) (sym (merged_joins cell one same)) (record {
        is_cell = (cell_laws.closed cell one kept.is_cell is_one (sym same)).0;
        is_sound = sound_next kind (puts ++ put ∷ []) cell put accepted kept.is_cell now.is_sound (Contains-push puts put) (omega (arith, next, all));
      });
      counts = merged_counts cell one kept.is_cell is_one same;
    }

-- the cell of no puts is sound before any put
pub kept_empty : (kind : Kind) → IsKept kind [] (empty_cell kind)
kept_empty kind =
    let none = cell_of_none kind in
    record {
      is_cell = empty_is_cell kind;
      is_sound = record {
        shown = record { counts = λ session. omega arith; value_is = none.value; top_is = none.top };
        needs = none.needs;
      };
    }

-- cells that are sound for the same puts and count the same are one
pub kept_same : (kind : Kind) (puts : List Put) (a b : PlainCell) → IsKept kind puts a → IsKept kind puts b → ((session : ℕ) → count_of session a.clock ≡ count_of session b.clock) → a ≡ b
kept_same kind puts a b of_a of_b counts =
    let clocks = same_counts a.clock b.clock of_a.is_cell.clock_is of_b.is_cell.clock_is counts in
    let by_a = λ (needed session : ℕ). subst (λ clock. IsGreatestOrZero (map (λ (p : Put). count_of session (clock_at needed p.needs)) (counted puts clock)) (count_of session (clock_at needed a.needs))) clocks (of_a.is_sound.needs needed session) in
    same_parts a b clocks
    (same_clocks a.needs b.needs of_a.is_cell.needs_are of_b.is_cell.needs_are (λ needed.
    same_counts (clock_at needed a.needs) (clock_at needed b.needs) (clock_at_is_clock needed a.needs of_a.is_cell.needs_are) (clock_at_is_clock needed b.needs of_b.is_cell.needs_are) (λ session.
    greatest_or_zero_is_single (map (λ (p : Put). count_of session (clock_at needed p.needs)) (counted puts b.clock)) (count_of session (clock_at needed a.needs)) (count_of session (clock_at needed b.needs)) (by_a needed session) (of_b.is_sound.needs needed session))))
    (greatest_or_zero_is_single (map (λ (p : Put). p.lamport) (counted puts b.clock)) a.top b.top (subst (λ clock. IsGreatestOrZero (map (λ (p : Put). p.lamport) (counted puts clock)) a.top) clocks of_a.is_sound.shown.top_is) of_b.is_sound.shown.top_is)
    (value_is_single kind (counted puts b.clock) a.value b.value (subst (λ clock. IsValueOf kind (counted puts clock) a.value) clocks of_a.is_sound.shown.value_is) of_b.is_sound.shown.value_is)
