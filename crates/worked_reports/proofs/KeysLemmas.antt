-- The script of two keys and a commit of nothing: it is valid, and its report legal.
use Rattle.std.specs.Prelude.{◌≢◌, ◌≤◌, IsTrue, [], ◌∷◌, length, codes}
use Rattle.std.specs.List.{AllByRecursion}
use Rattle.std.proofs.Common.{refl, lit<, lit≤}
use Rattle.std.proofs.lemmas.List.Elements.{All-from_recursion, All-nil}
use Rattle.lattice_laws.specs.declared.maybe.Maybe.TheVariants.{Is, Bottom}
use Rattle.clock_lattice.specs.Clock.{count_of, covers}
use Rattle.clock_lattice.proofs.ClockLemmas.{empty_is_clock}
use Rattle.clock_lattice.proofs.NeedsLemmas.{empty_are_needs}
use Rattle.composed_value.specs.PlainValue.{IsPutOf}
use Rattle.composed_value.specs.Sound.{counted, IsSound}
use Rattle.composed_value.specs.declared.kind.Kind.TheVariants as kinds
use Rattle.composed_value.specs.declared.payload.Payload.TheVariants as payloads
use Rattle.composed_value.specs.declared.put.Put.{Put}
use Rattle.composed_value.specs.declared.value.Value.TheVariants as values
use Rattle.placement.specs.Name.{IsName}
use Rattle.placement.specs.Config.{IsOneOf, IsPlacement}
use Rattle.composed_value.specs.Keyed.{puts_on}
use Rattle.session_known.specs.Accepted.{accepted}
use Rattle.session_known.specs.Form.{IsClockIn, IsFinalIn}
use Rattle.session_known.specs.Lawful.{last_lamport}
use Rattle.session_known.specs.Legal.{IsLawfulFinal, IsLegalAt}
use Rattle.session_known.specs.Script.{IsValidSession, IsValidScript}
use Rattle.worked_reports.specs.Worked.{commit_table, keys_script, keys_report}
use Rattle.worked_reports.proofs.LegalLemmas.{below_differs, one_session_in, put_of, sound_by_cell}
use Rattle.worked_reports.proofs.PlacesLemmas.{AllPairs-from_recursion, none_follows, name, session_is_valid, commit_is_valid}
use Rattle.session_known.specs.declared.script.SessionPlan.{SessionPlan}

-- its put
keys_put : AllByRecursion (IsPutOf kinds.Max) (counted (puts_on 1 (accepted keys_script keys_report)) ((1, 1) ∷ []))
keys_put = (put_of kinds.Max 1 1 1 0 [] (payloads.Max 5) (lit< tt) (lit< tt) (lit< tt) (lit< tt) (lit< tt) empty_are_needs (lit< tt) refl, tt)

-- the clocks of its cells
keys_clock_a : IsClockIn keys_script ((1, 1) ∷ [])
keys_clock_a = one_session_in keys_script 1 1 (lit≤ tt, lit≤ tt) (lit< tt) (lit< tt) (lit< tt)

keys_clock_l : IsClockIn keys_script []
keys_clock_l = record { is_clock = empty_is_clock; sessions = All-nil (λ entry. IsOneOf (length keys_script.sessions) entry.0) }

-- they hold what their clocks count
keys_sound_a : IsSound kinds.Max (puts_on 1 (accepted keys_script keys_report)) ((1, 1) ∷ []) 1 (values.Max (Is 5))
keys_sound_a = sound_by_cell kinds.Max (puts_on 1 (accepted keys_script keys_report)) ((1, 1) ∷ []) 1 (values.Max (Is 5)) keys_put (lit≤ tt, tt) refl refl

keys_sound_l : IsSound kinds.Last (puts_on 2 (accepted keys_script keys_report)) [] 0 (values.Last Bottom)
keys_sound_l = sound_by_cell kinds.Last (puts_on 2 (accepted keys_script keys_report)) [] 0 (values.Last Bottom) tt tt refl refl

-- The report is legal.
pub keys_is_legal : IsLegalAt commit_table keys_script keys_report
keys_is_legal = record {
  form = record {
    answers = (
      (
        (lit< tt, lit< tt),
        (
          record { worker_is = (lit≤ tt, lit≤ tt); clock_is = keys_clock_a; top_fits = lit< tt; value_is = record { is_value = lit< tt; of_kind = refl; sessions = tt; few = tt }; needs_are = tt },
          (
            record { worker_is = (lit≤ tt, lit≤ tt); clock_is = keys_clock_l; top_fits = lit< tt; value_is = record { is_value = tt; of_kind = refl; sessions = tt; few = tt }; needs_are = tt },
            (tt, ((lit< tt, lit< tt, λ none. refl), tt)),
          ),
        ),
      ),
      tt,
    );
    places = refl;
    finals = All-from_recursion (IsFinalIn keys_script) keys_report.finals (
      record { clock_is = keys_clock_a; top_fits = lit< tt; value_is = record { is_value = lit< tt; of_kind = refl; sessions = tt; few = tt } },
      (
        record { clock_is = keys_clock_l; top_fits = lit< tt; value_is = record { is_value = tt; of_kind = refl; sessions = tt; few = tt } },
        tt,
      ),
    );
  };
  answers = (
    (
      record { not_begun = refl; number_is = refl; not_worn = below_differs 0 last_lamport (lit< tt); lamport_is = refl },
      (
        record {
          worker_is = refl;
          clock_is = record { covers_earlier = All-nil (λ before. IsTrue (covers ((1, 1) ∷ []) before)); own_at_home = λ home. refl };
          no_later_put = lit≤ tt;
          covers_required = refl;
        },
        (
          record {
            worker_is = refl;
            clock_is = record { covers_earlier = All-nil (λ before. IsTrue (covers [] before)); own_at_home = λ home. refl };
            no_later_put = lit≤ tt;
            covers_required = refl;
          },
          (
            refl,
            (
              record { begun = refl; puts_are = refl; not_worn = below_differs 1 last_lamport (lit< tt); lamport_is = refl },
              tt,
            ),
          ),
        ),
      ),
    ),
    tt,
  );
  true_of_puts = ((tt, (record { sound = keys_sound_a; needs = tt }, (record { sound = keys_sound_l; needs = tt }, (tt, (tt, tt))))), tt);
  finals = All-from_recursion (IsLawfulFinal keys_script.kinds (accepted keys_script keys_report)) keys_report.finals (
    record { sound = keys_sound_a; counts_all = All-from_recursion (λ (put : Put). put.number ≤ count_of put.session ((1, 1) ∷ [])) (puts_on 1 (accepted keys_script keys_report)) (lit≤ tt, tt) },
    (
      record { sound = keys_sound_l; counts_all = All-nil (λ (put : Put). put.number ≤ count_of put.session []) },
      tt,
    ),
  );
}

-- The script is valid.
pub keys_is_valid : IsPlacement keys_script.config commit_table → IsValidScript keys_script commit_table
keys_is_valid placed =
    let like = commit_is_valid placed in
    record {
      version = like.version;
      config = like.config;
      placed = placed;
      round = like.round;
      kinds = refl;
      keys_named = like.keys_named;
      key_names = like.key_names;
      sessions_named = All-from_recursion (λ (plan : SessionPlan). IsName plan.name) keys_script.sessions (name (codes "s") refl (lit≤ tt) (lit≤ tt), tt);
      session_names = AllPairs-from_recursion (λ (plan other : SessionPlan). plan.name ≢ other.name) keys_script.sessions (tt, tt);
      few_sessions = lit≤ tt;
      few_lines = lit≤ tt;
      sessions = All-from_recursion (IsValidSession keys_script commit_table) keys_script.sessions (session_is_valid keys_script commit_table (((lit≤ tt, lit≤ tt), lit< tt, refl), (((lit≤ tt, lit≤ tt), tt), (((lit≤ tt, lit≤ tt), tt), (refl, (refl, tt))))) (refl, (refl, refl)), tt);
      orders = none_follows keys_script (refl, tt);
    }
