-- A cell that is sound for accepted puts is in form, as it is shown and as a final cell.
use Rattle.std.specs.Prelude.{ℕ, ◌≤◌, ◌==◌, Bool, List, All, Contains, filter, length}
use Rattle.std.proofs.Common.{sym, subst, arith}
use Rattle.std.proofs.lemmas.List.{length-map}
use Rattle.std.proofs.lemmas.List.Elements.{All-contains_itself, All-filter, All-weaker}
use Rattle.std.proofs.lemmas.List.Sums.{count_by-le-length, length-filter}
use Rattle.placement.specs.Config.{IsOneOf}
use Rattle.merge_world.specs.declared.private_map.KeyCells.{KeyCells}
use Rattle.composed_value.specs.Cell.{PlainCell}
use Rattle.composed_value.specs.Keyed.{kind_at, puts_on}
use Rattle.composed_value.specs.PlainValue.{IsPutOf}
use Rattle.composed_value.specs.Sound.{counted, is_counted}
use Rattle.composed_value.specs.declared.put.Put.{Put}
use Rattle.session_known.specs.Form.{IsClockIn, IsFinalIn, IsShownIn, IsValueIn}
use Rattle.session_known.specs.Session.{shown_to}
use Rattle.session_known.specs.declared.report.Shown.{Shown}
use Rattle.session_known.specs.declared.script.Level.{Level}
use Rattle.session_known.specs.declared.script.Level.TheVariants.{Causal}
use Rattle.session_known.specs.declared.script.Script.{Script}
use Rattle.run_ledger.specs.Came.{final_of}
use Rattle.run_ledger.specs.Causality.{AreCausal}
use Rattle.legal_runs.proofs.JoinedSoundLemmas.{IsSoundOf}
use Rattle.legal_runs.proofs.MadePutsLemmas.{AreOfSessions}
use Rattle.legal_runs.proofs.NamedSessionsLemmas.{accepted_clock_in, sound_needs_in}
use Rattle.legal_runs.proofs.NamedValuesLemmas.{IsNamed, value_few, value_named}
use Rattle.legal_runs.proofs.OnKeyLemmas.{held_on_key}
use Rattle.legal_runs.proofs.SeenSessionsLemmas.{HasSeen}
use Rattle.legal_runs.proofs.ShownLemmas.{IsOfSound}

-- a cell is sound for the puts on a key
abbrev IsSoundOn : Script → List (ℕ × Put) → ℕ → PlainCell → Type 0
IsSoundOn script puts key cell = IsSoundOf (kind_at script.kinds key) (puts_on key puts) cell

-- those that pass a test are no more than all
fewer : {X : Type 0} (test : X → Bool) (xs : List X) → length (filter test xs) ≤ length xs
fewer test xs = omega (arith, length-filter test xs, count_by-le-length test xs)

-- the puts on each key are of its kind, and few
pub record AreFewOfKinds (script : Script) (puts : List (ℕ × Put)) : Type 0 where
  pub of_kinds : (key : ℕ) → All (IsPutOf (kind_at script.kinds key)) (puts_on key puts)
  pub few : length puts ≤ 4096

module _ (script : Script) (puts : List (ℕ × Put)) (known : AreOfSessions script puts) (seen : All (HasSeen script) puts) (of_kinds : AreFewOfKinds script puts) where
  -- its clock is in form
  clock_of_sound : (key : ℕ) (cell : PlainCell) → IsSoundOn script puts key cell → IsClockIn script cell.clock
  clock_of_sound key cell sound = accepted_clock_in script puts known key cell.clock sound.of_kind.is_cell.clock_is sound.sound.shown.counts

  -- and so is its value
  value_of_sound : (key : ℕ) (cell : PlainCell) → IsSoundOn script puts key cell → IsValueIn script (kind_at script.kinds key) cell.value
  value_of_sound key cell sound =
      let on : List Put = puts_on key puts in
      let named : All (λ entry. IsNamed script entry.1) puts = λ k d low. record { session = (known k d low).1; seen = seen k d low } in
      let named_on = All-weaker (Contains on) (IsNamed script) (held_on_key (IsNamed script) key puts named) on (All-contains_itself on) in
      record {
        is_value = sound.of_kind.is_cell.value_is;
        of_kind = sound.of_kind.has_kind;
        sessions = value_named script (counted on cell.clock) (All-filter (is_counted cell.clock) (IsNamed script) on named_on) (kind_at script.kinds key)
            cell.value sound.sound.shown.value_is;
        few = value_few (kind_at script.kinds key) (counted on cell.clock) cell.value (All-filter (is_counted cell.clock) (IsPutOf (kind_at script.kinds key)) on (of_kinds.of_kinds key)) sound.sound.shown.value_is
            (omega (arith, fewer (is_counted cell.clock) on, fewer (λ (entry : ℕ × Put). entry.0 == key) puts, length-map (filter (λ (entry : ℕ × Put). entry.0 == key) puts) (λ entry. entry.1), of_kinds.few));
      }

  -- so it is in form as a final cell
  pub sound_final_in : (key worker : ℕ) (cells : KeyCells) → IsSoundOn script puts key cells.whole → IsFinalIn script (final_of key worker cells)
  sound_final_in key worker cells sound = record {
    clock_is = clock_of_sound key cells.whole sound;
    top_fits = sound.of_kind.is_cell.top_fits;
    value_is = value_of_sound key cells.whole sound;
  }

  module _ (causal : AreCausal puts) where
    -- and as a session of a level is shown it
    sound_shown_in : (level : Level) (key worker : ℕ) (cell : PlainCell) → IsOneOf script.config.workers worker → IsSoundOn script puts key cell
        → IsShownIn script level key worker (shown_to level cell)
    sound_shown_in Causal key worker cell is_worker sound = record {
      worker_is = is_worker;
      clock_is = clock_of_sound key cell sound;
      top_fits = sound.of_kind.is_cell.top_fits;
      value_is = value_of_sound key cell sound;
      needs_are = sound_needs_in script puts known causal key cell.clock cell.needs sound.of_kind.is_cell.needs_are sound.sound.needs;
    }
    sound_shown_in level key worker cell is_worker sound = record {
      worker_is = is_worker;
      clock_is = clock_of_sound key cell sound;
      top_fits = sound.of_kind.is_cell.top_fits;
      value_is = value_of_sound key cell sound;
      needs_are = tt;
    }

    -- so is all that is shown of sound cells
    pub shown_in : (level : Level) (key worker : ℕ) (shown : Shown) → IsOneOf script.config.workers worker
        → IsOfSound (kind_at script.kinds key) (puts_on key puts) level shown → IsShownIn script level key worker shown
    shown_in level key worker shown is_worker of = subst (IsShownIn script level key worker) (sym of.is) (sound_shown_in level key worker of.cell is_worker of.sound)
