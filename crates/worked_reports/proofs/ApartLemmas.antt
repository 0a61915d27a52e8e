-- The script of two replicas that each lack what the other has: it is valid, and its report legal.
use Rattle.std.specs.Prelude.{◌≡◌, ◌≢◌, ℕ, ◌≤◌, IsTrue, List, [], ◌∷◌, length, All, codes}
use Rattle.std.specs.List.{AllByRecursion}
use Rattle.std.proofs.Common.{refl, arith, lit<, lit≤}
use Rattle.std.proofs.lemmas.List.Elements.{All-from_recursion, All-nil}
use Rattle.lattice_laws.specs.declared.maybe.Maybe.TheVariants.{Is}
use Rattle.clock_lattice.specs.Clock.{count_of, covers}
use Rattle.clock_lattice.proofs.NeedsLemmas.{empty_are_needs}
use Rattle.composed_value.specs.PlainValue.{IsPutOf}
use Rattle.composed_value.specs.Sound.{counted, IsSound}
use Rattle.composed_value.specs.declared.kind.Kind.TheVariants as kinds
use Rattle.composed_value.specs.declared.payload.Payload.TheVariants as payloads
use Rattle.composed_value.specs.declared.put.Put.{Put}
use Rattle.composed_value.specs.declared.value.Value.TheVariants as values
use Rattle.placement.specs.Name.{IsName}
use Rattle.placement.specs.Config.{IsOneOf, ArePins, IsOwnFactor, IsPlacement}
use Rattle.placement.specs.declared.config.KeyPlace.{KeyPlace}
use Rattle.composed_value.specs.Keyed.{puts_on}
use Rattle.session_known.specs.Accepted.{accepted}
use Rattle.session_known.specs.Form.{NamesSessions, IsClockIn, IsAgainIn, AreNeedsIn, IsFinalIn}
use Rattle.session_known.specs.Lawful.{last_lamport, CountsAccepted}
use Rattle.session_known.specs.Legal.{IsLawfulFinal, IsLegalAt}
use Rattle.session_known.specs.Script.{IsValidSession, IsValidScript}
use Rattle.worked_reports.specs.Worked.{apart_script, apart_table, apart_report}
use Rattle.worked_reports.proofs.LegalLemmas.{below_differs, one_session_in, two_sessions_in, put_of, counts_within, sound_by_cell, needs_by_cell, needs_a}
use Rattle.worked_reports.proofs.PlacesLemmas.{AllPairs-from_recursion, none_follows, pins_are, names_differ, name, session_is_valid}
use Rattle.session_known.specs.declared.script.Level.TheVariants.{Causal}
use Rattle.session_known.specs.declared.script.SessionPlan.{SessionPlan}

-- Its keys live at their pins.
pub apart_placed : (table : List (List ℕ)) → IsPlacement apart_script.config table → table ≡ apart_table
apart_placed table placed = placed.replicas

-- the puts that its cells count
apart_puts_a : AllByRecursion (IsPutOf kinds.Max) (counted (puts_on 1 (accepted apart_script apart_report)) ((1, 1) ∷ (2, 1) ∷ []))
apart_puts_a = (
  put_of kinds.Max 1 1 1 0 [] (payloads.Max 5) (lit< tt) (lit< tt) (lit< tt) (lit< tt) (lit< tt) empty_are_needs (lit< tt) refl,
  (
    put_of kinds.Max 2 1 1 0 [] (payloads.Max 3) (lit< tt) (lit< tt) (lit< tt) (lit< tt) (lit< tt) empty_are_needs (lit< tt) refl,
    tt,
  ),
)

apart_put_b : AllByRecursion (IsPutOf kinds.Max) (counted (puts_on 2 (accepted apart_script apart_report)) ((1, 1) ∷ []))
apart_put_b = (put_of kinds.Max 1 1 2 0 ((1, (1, 1) ∷ []) ∷ []) (payloads.Max 7) (lit< tt) (lit< tt) (lit< tt) (lit< tt) (lit< tt) needs_a (lit< tt) refl, tt)

-- its clocks: that of one put of s, and that of one of each
apart_clock_one : IsClockIn apart_script ((1, 1) ∷ [])
apart_clock_one = one_session_in apart_script 1 1 (lit≤ tt, lit≤ tt) (lit< tt) (lit< tt) (lit< tt)

apart_clock_both : IsClockIn apart_script ((1, 1) ∷ (2, 1) ∷ [])
apart_clock_both = two_sessions_in apart_script 1 1 (lit≤ tt) (lit< tt) (lit< tt) (lit< tt) (lit< tt)

-- the needs that its reply shows
apart_needs : AreNeedsIn apart_script ((1, (1, 1) ∷ []) ∷ [])
apart_needs = record {
  are_needs = needs_a;
  keys = All-from_recursion (λ entry. IsOneOf (length apart_script.config.keys) entry.0) ((1, (1, 1) ∷ []) ∷ []) ((lit≤ tt, lit≤ tt), tt);
  sessions = All-from_recursion (λ entry. NamesSessions apart_script entry.1) ((1, (1, 1) ∷ []) ∷ []) (apart_clock_one.sessions, tt);
}

-- its ends of asking
apart_again_b : IsAgainIn apart_script Causal 8 1 ((1, 1) ∷ [])
apart_again_b = record { causal = refl; asks_fit = lit< tt; worker_is = (lit≤ tt, lit≤ tt); clock_is = apart_clock_one }

apart_again_a : IsAgainIn apart_script Causal 16 2 ((1, 1) ∷ [])
apart_again_a = record { causal = refl; asks_fit = lit< tt; worker_is = (lit≤ tt, lit≤ tt); clock_is = apart_clock_one }

-- their clocks count puts that were made
apart_counts_a : CountsAccepted (accepted apart_script apart_report) 1 ((1, 1) ∷ [])
apart_counts_a session = counts_within (puts_on 1 (accepted apart_script apart_report)) ((1, 1) ∷ []) (lit≤ tt, tt) session

apart_counts_b : CountsAccepted (accepted apart_script apart_report) 2 ((1, 1) ∷ [])
apart_counts_b session = counts_within (puts_on 2 (accepted apart_script apart_report)) ((1, 1) ∷ []) (lit≤ tt, tt) session

-- its cells hold what their clocks count
apart_sound_a : IsSound kinds.Max (puts_on 1 (accepted apart_script apart_report)) ((1, 1) ∷ (2, 1) ∷ []) 1 (values.Max (Is 5))
apart_sound_a = sound_by_cell kinds.Max (puts_on 1 (accepted apart_script apart_report)) ((1, 1) ∷ (2, 1) ∷ []) 1 (values.Max (Is 5)) apart_puts_a (lit≤ tt, (lit≤ tt, tt)) refl refl

apart_sound_b : IsSound kinds.Max (puts_on 2 (accepted apart_script apart_report)) ((1, 1) ∷ []) 2 (values.Max (Is 7))
apart_sound_b = sound_by_cell kinds.Max (puts_on 2 (accepted apart_script apart_report)) ((1, 1) ∷ []) 2 (values.Max (Is 7)) apart_put_b (lit≤ tt, tt) refl refl

-- the final cells of a count all puts on it
apart_counts_all : All (λ (put : Put). put.number ≤ count_of put.session ((1, 1) ∷ (2, 1) ∷ [])) (puts_on 1 (accepted apart_script apart_report))
apart_counts_all = All-from_recursion (λ (put : Put). put.number ≤ count_of put.session ((1, 1) ∷ (2, 1) ∷ [])) (puts_on 1 (accepted apart_script apart_report)) (lit≤ tt, (lit≤ tt, tt))

-- The report is legal.
pub apart_is_legal : IsLegalAt apart_table apart_script apart_report
apart_is_legal = record {
  form = record {
    answers = (
      ((lit< tt, lit< tt), ((lit< tt, lit< tt), (apart_again_b, tt))),
      (
        (
          (lit< tt, lit< tt),
          (
            record { worker_is = (lit≤ tt, lit≤ tt); clock_is = apart_clock_one; top_fits = lit< tt; value_is = record { is_value = lit< tt; of_kind = refl; sessions = tt; few = tt }; needs_are = apart_needs },
            (apart_again_a, (apart_again_a, tt)),
          ),
        ),
        tt,
      ),
    );
    places = refl;
    finals = All-from_recursion (IsFinalIn apart_script) apart_report.finals (
      record { clock_is = apart_clock_both; top_fits = lit< tt; value_is = record { is_value = lit< tt; of_kind = refl; sessions = tt; few = tt } },
      (
        record { clock_is = apart_clock_both; top_fits = lit< tt; value_is = record { is_value = lit< tt; of_kind = refl; sessions = tt; few = tt } },
        (
          record { clock_is = apart_clock_one; top_fits = lit< tt; value_is = record { is_value = lit< tt; of_kind = refl; sessions = tt; few = tt } },
          tt,
        ),
      ),
    );
  };
  answers = (
    (
      record { not_begun = refl; number_is = refl; not_worn = below_differs 0 last_lamport (lit< tt); lamport_is = refl },
      (
        record { not_begun = refl; number_is = refl; not_worn = below_differs 1 last_lamport (lit< tt); lamport_is = refl },
        (
          record {
            causal = refl;
            asks_are = refl;
            worker_is = refl;
            clock_is = record { covers_earlier = All-nil (λ before. IsTrue (covers ((1, 1) ∷ []) before)); own_at_home = λ home. refl };
            lacks_required = refl;
          },
          tt,
        ),
      ),
    ),
    (
      (
        record { not_begun = refl; number_is = refl; not_worn = below_differs 0 last_lamport (lit< tt); lamport_is = refl },
        (
          record {
            worker_is = (0, lit< tt, refl);
            clock_is = record { covers_earlier = All-nil (λ before. IsTrue (covers ((1, 1) ∷ []) before)); own_at_home = λ home. refl };
            no_later_put = lit≤ tt;
            covers_required = refl;
          },
          (
            record {
              causal = refl;
              asks_are = refl;
              worker_is = refl;
              clock_is = record { covers_earlier = All-nil (λ before. IsTrue (covers ((1, 1) ∷ []) before)); own_at_home = λ home. let wrong : 2 ≡ 1 = home in absurd (omega (arith, wrong)) };
              lacks_required = refl;
            },
            (
              record {
                causal = refl;
                asks_are = refl;
                worker_is = refl;
                clock_is = record { covers_earlier = All-from_recursion (λ before. IsTrue (covers ((1, 1) ∷ []) before)) (((1, 1) ∷ []) ∷ []) (refl, tt); own_at_home = λ home. let wrong : 2 ≡ 1 = home in absurd (omega (arith, wrong)) };
                lacks_required = refl;
              },
              tt,
            ),
          ),
        ),
      ),
      tt,
    ),
  );
  true_of_puts = (
    (tt, (tt, (apart_counts_b, tt))),
    (
      (tt, (record { sound = apart_sound_b; needs = needs_by_cell kinds.Max (puts_on 2 (accepted apart_script apart_report)) ((1, 1) ∷ []) ((1, (1, 1) ∷ []) ∷ []) apart_put_b refl }, (apart_counts_a, (apart_counts_a, tt)))),
      tt,
    ),
  );
  finals = All-from_recursion (IsLawfulFinal apart_script.kinds (accepted apart_script apart_report)) apart_report.finals (
    record { sound = apart_sound_a; counts_all = apart_counts_all },
    (
      record { sound = apart_sound_a; counts_all = apart_counts_all },
      (
        record { sound = apart_sound_b; counts_all = All-from_recursion (λ (put : Put). put.number ≤ count_of put.session ((1, 1) ∷ [])) (puts_on 2 (accepted apart_script apart_report)) (lit≤ tt, tt) },
        tt,
      ),
    ),
  );
}

-- The script is valid.
pub apart_is_valid : IsPlacement apart_script.config apart_table → IsValidScript apart_script apart_table
apart_is_valid placed = record {
  version = (lit≤ tt, lit≤ tt);
  config = record {
    workers_some = lit≤ tt;
    workers_most = lit≤ tt;
    factor_some = lit≤ tt;
    factor_most = lit≤ tt;
    keys_most = lit≤ tt;
    pins = All-from_recursion (λ (key : KeyPlace). ArePins apart_script.config.workers key.pins) apart_script.config.keys (pins_are 2 (2 ∷ 1 ∷ []) ((lit≤ tt, lit≤ tt), ((lit≤ tt, lit≤ tt), tt)) (((λ same. omega (arith, same)), tt), (tt, tt)), (pins_are 2 (1 ∷ []) ((lit≤ tt, lit≤ tt), tt) (tt, tt), tt));
    factors = All-from_recursion (IsOwnFactor apart_script.config.workers) apart_script.config.keys (tt, (tt, tt));
  };
  placed = placed;
  round = (lit≤ tt, lit≤ tt);
  kinds = refl;
  keys_named = All-from_recursion (λ (key : KeyPlace). IsName key.name) apart_script.config.keys (name (codes "a") refl (lit≤ tt) (lit≤ tt), (name (codes "b") refl (lit≤ tt) (lit≤ tt), tt));
  key_names = AllPairs-from_recursion (λ (key other : KeyPlace). key.name ≢ other.name) apart_script.config.keys ((names_differ (codes "a") (codes "b") (λ same. omega (arith, same)), tt), (tt, tt));
  sessions_named = All-from_recursion (λ (plan : SessionPlan). IsName plan.name) apart_script.sessions (name (codes "s") refl (lit≤ tt) (lit≤ tt), (name (codes "t") refl (lit≤ tt) (lit≤ tt), tt));
  session_names = AllPairs-from_recursion (λ (plan other : SessionPlan). plan.name ≢ other.name) apart_script.sessions ((names_differ (codes "s") (codes "t") (λ same. omega (arith, same)), tt), (tt, tt));
  few_sessions = lit≤ tt;
  few_lines = lit≤ tt;
  sessions = All-from_recursion (IsValidSession apart_script apart_table) apart_script.sessions (session_is_valid apart_script apart_table (((lit≤ tt, lit≤ tt), lit< tt, refl), (((lit≤ tt, lit≤ tt), lit< tt, refl), (((lit≤ tt, lit≤ tt), (lit≤ tt, lit≤ tt), refl), tt))) refl, (session_is_valid apart_script apart_table (((lit≤ tt, lit≤ tt), lit< tt, refl), (((lit≤ tt, lit≤ tt), tt), (((lit≤ tt, lit≤ tt), tt), (((lit≤ tt, lit≤ tt), tt), tt)))) refl, tt));
  orders = none_follows apart_script (refl, (refl, tt));
}
