-- The report of a session that comes after another.
use Rattle.std.specs.Prelude.{◌≡◌, ◌≢◌, ℕ, zero, suc, ◌≤◌, IsTrue, [], ◌∷◌, length, take, slice_get, MatchOption, Some, ⊤, codes}
use Rattle.std.specs.List.{AllByRecursion}
use Rattle.std.proofs.Common.{refl, subst, arith, lit<, lit≤}
use Rattle.std.proofs.lemmas.List.Elements.{All-from_recursion, All-nil}
use Rattle.std.proofs.lemmas.Option.{none-some, same_Some}
use Rattle.lattice_laws.specs.declared.maybe.Maybe.TheVariants.{Is}
use Rattle.clock_lattice.specs.Clock.{count_of, covers}
use Rattle.clock_lattice.proofs.NeedsLemmas.{empty_are_needs}
use Rattle.composed_value.specs.PlainValue.{IsPutOf}
use Rattle.composed_value.specs.Sound.{counted, IsSound}
use Rattle.composed_value.specs.declared.kind.Kind.TheVariants as kinds
use Rattle.composed_value.specs.declared.payload.Payload.TheVariants as payloads
use Rattle.composed_value.specs.declared.put.Put.{Put}
use Rattle.composed_value.specs.declared.value.Value.TheVariants as values
use Rattle.placement.specs.Name.{IsName}
use Rattle.placement.specs.Config.{IsOneOf, IsPlacement}
use Rattle.composed_value.specs.Keyed.{puts_on}
use Rattle.session_known.specs.Accepted.{accepted}
use Rattle.session_known.specs.Form.{NamesSessions, IsClockIn, AreNeedsIn, IsFinalIn}
use Rattle.session_known.specs.Lawful.{last_lamport}
use Rattle.session_known.specs.Legal.{IsLawfulFinal, IsLegalAt}
use Rattle.session_known.specs.Script.{IsValidSession, IsValidScript, MayComeAfter}
use Rattle.session_known.specs.declared.script.SessionPlan.{SessionPlan}
use Rattle.worked_reports.specs.Worked.{first_table, handed_script, handed_report}
use Rattle.worked_reports.proofs.LegalLemmas.{below_differs, one_session_in, two_sessions_in, put_of, sound_by_cell, needs_by_cell, needs_a}
use Rattle.worked_reports.proofs.PlacesLemmas.{AllPairs-from_recursion, names_differ, name, session_is_valid, first_is_valid}

-- the clocks of its cells
handed_clock : IsClockIn handed_script ((1, 1) ∷ (2, 1) ∷ [])
handed_clock = two_sessions_in handed_script 1 1 (lit≤ tt) (lit< tt) (lit< tt) (lit< tt) (lit< tt)

handed_clock_s : IsClockIn handed_script ((1, 1) ∷ [])
handed_clock_s = one_session_in handed_script 1 1 (lit≤ tt, lit≤ tt) (lit< tt) (lit< tt) (lit< tt)

-- its second put has seen the first, and depends on it
handed_put : IsPutOf kinds.Max (record { session = 2; number = 1; lamport = 2; place = 0; seen = (1, 1) ∷ (2, 1) ∷ []; needs = (1, (1, 1) ∷ []) ∷ []; payload = payloads.Max 7 })
handed_put = record {
  is_put = record {
    session_fits = lit< tt;
    number_some = lit< tt;
    number_fits = lit< tt;
    lamport_fits = lit< tt;
    place_fits = lit< tt;
    seen_is = handed_clock.is_clock;
    needs_are = needs_a;
    payload_is = lit< tt;
  };
  of_kind = refl;
}

handed_puts : AllByRecursion (IsPutOf kinds.Max) (counted (puts_on 1 (accepted handed_script handed_report)) ((1, 1) ∷ (2, 1) ∷ []))
handed_puts = (put_of kinds.Max 1 1 1 0 [] (payloads.Max 5) (lit< tt) (lit< tt) (lit< tt) (lit< tt) (lit< tt) empty_are_needs (lit< tt) refl, (handed_put, tt))

-- the needs that the reply shows
handed_needs : AreNeedsIn handed_script ((1, (1, 1) ∷ []) ∷ [])
handed_needs = record {
  are_needs = needs_a;
  keys = All-from_recursion (λ entry. IsOneOf (length handed_script.config.keys) entry.0) ((1, (1, 1) ∷ []) ∷ []) ((lit≤ tt, lit≤ tt), tt);
  sessions = All-from_recursion (λ entry. NamesSessions handed_script entry.1) ((1, (1, 1) ∷ []) ∷ []) (handed_clock_s.sessions, tt);
}

-- the cell holds what its clock counts
handed_sound : IsSound kinds.Max (puts_on 1 (accepted handed_script handed_report)) ((1, 1) ∷ (2, 1) ∷ []) 2 (values.Max (Is 7))
handed_sound = sound_by_cell kinds.Max (puts_on 1 (accepted handed_script handed_report)) ((1, 1) ∷ (2, 1) ∷ []) 2 (values.Max (Is 7)) handed_puts (lit≤ tt, (lit≤ tt, tt)) refl refl

-- The report is legal.
pub handed_is_legal : IsLegalAt first_table handed_script handed_report
handed_is_legal = record {
  form = record {
    answers = (
      ((lit< tt, lit< tt), tt),
      (
        (
          (lit< tt, lit< tt),
          (
            record { worker_is = (lit≤ tt, lit≤ tt); clock_is = handed_clock; top_fits = lit< tt; value_is = record { is_value = lit< tt; of_kind = refl; sessions = tt; few = tt }; needs_are = handed_needs },
            tt,
          ),
        ),
        tt,
      ),
    );
    places = refl;
    finals = All-from_recursion (IsFinalIn handed_script) handed_report.finals (record { clock_is = handed_clock; top_fits = lit< tt; value_is = record { is_value = lit< tt; of_kind = refl; sessions = tt; few = tt } }, tt);
  };
  answers = (
    (record { not_begun = refl; number_is = refl; not_worn = below_differs 0 last_lamport (lit< tt); lamport_is = refl }, tt),
    (
      (
        record { not_begun = refl; number_is = refl; not_worn = below_differs 1 last_lamport (lit< tt); lamport_is = refl },
        (
          record {
            worker_is = (0, lit< tt, refl);
            clock_is = record { covers_earlier = All-nil (λ before. IsTrue (covers ((1, 1) ∷ (2, 1) ∷ []) before)); own_at_home = λ home. refl };
            no_later_put = lit≤ tt;
            covers_required = refl;
          },
          tt,
        ),
      ),
      tt,
    ),
  );
  true_of_puts = (
    (tt, tt),
    (
      (tt, (record { sound = handed_sound; needs = needs_by_cell kinds.Max (puts_on 1 (accepted handed_script handed_report)) ((1, 1) ∷ (2, 1) ∷ []) ((1, (1, 1) ∷ []) ∷ []) handed_puts refl }, tt)),
      tt,
    ),
  );
  finals = All-from_recursion (IsLawfulFinal handed_script.kinds (accepted handed_script handed_report)) handed_report.finals (
    record { sound = handed_sound; counts_all = All-from_recursion (λ (put : Put). put.number ≤ count_of put.session ((1, 1) ∷ (2, 1) ∷ [])) (puts_on 1 (accepted handed_script handed_report)) (lit≤ tt, (lit≤ tt, tt)) },
    tt,
  );
}

-- its second session comes after the first
handed_orders : (place : ℕ) (plan : SessionPlan) → slice_get handed_script.sessions place ≡ Some plan → MatchOption plan.after ⊤ (MayComeAfter 2 (take place handed_script.sessions) plan.level)
handed_orders zero plan here = subst (λ (plan : SessionPlan). MatchOption plan.after ⊤ (MayComeAfter 2 [] plan.level)) (same_Some _ plan here) tt
handed_orders (suc zero) plan here =
    subst (λ (plan : SessionPlan). MatchOption plan.after ⊤ (MayComeAfter 2 (take 1 handed_script.sessions) plan.level)) (same_Some _ plan here) (record { version_is = refl; causal = refl; is_earlier = (lit≤ tt, lit≤ tt); earlier_causal = refl })
handed_orders (suc (suc place)) plan here = absurd (none-some plan here)

-- The script is valid.
pub handed_is_valid : IsPlacement handed_script.config first_table → IsValidScript handed_script first_table
handed_is_valid placed =
    let like = first_is_valid placed in
    record {
      version = (lit≤ tt, lit≤ tt);
      config = like.config;
      placed = placed;
      round = like.round;
      kinds = refl;
      keys_named = like.keys_named;
      key_names = like.key_names;
      sessions_named = All-from_recursion (λ (plan : SessionPlan). IsName plan.name) handed_script.sessions (name (codes "s") refl (lit≤ tt) (lit≤ tt), (name (codes "t") refl (lit≤ tt) (lit≤ tt), tt));
      session_names = AllPairs-from_recursion (λ (plan other : SessionPlan). plan.name ≢ other.name) handed_script.sessions ((names_differ (codes "s") (codes "t") (λ same. omega (arith, same)), tt), (tt, tt));
      few_sessions = lit≤ tt;
      few_lines = lit≤ tt;
      sessions = All-from_recursion (IsValidSession handed_script first_table) handed_script.sessions (
        session_is_valid handed_script first_table (((lit≤ tt, lit≤ tt), lit< tt, refl), tt) refl,
        (session_is_valid handed_script first_table (((lit≤ tt, lit≤ tt), lit< tt, refl), (((lit≤ tt, lit≤ tt), tt), tt)) refl, tt),
      );
      orders = handed_orders;
    }
