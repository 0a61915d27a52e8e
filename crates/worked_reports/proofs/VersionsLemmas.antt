-- The script of two versions, of which one overtakes the other: it is valid, and its report legal.
use Rattle.std.specs.Prelude.{◌≡◌, ◌≢◌, ◌≤◌, false, ◌||◌, IsTrue, [], ◌∷◌, codes}
use Rattle.std.specs.List.{list_any}
use Rattle.std.proofs.Common.{refl, ap, arith, lit<, lit≤}
use Rattle.std.proofs.lemmas.List.Elements.{All-from_recursion, All-nil}
use Rattle.clock_lattice.specs.Clock.{count_of, covers}
use Rattle.clock_lattice.proofs.NeedsLemmas.{empty_are_needs}
use Rattle.version_antichain.specs.Version.{IsVersion, is_below}
use Rattle.version_antichain.specs.Versions.{IsVersions}
use Rattle.version_antichain.specs.declared.version.Version.{Version}
use Rattle.composed_value.specs.PlainValue.{IsPutOf}
use Rattle.composed_value.specs.Sound.{IsSound}
use Rattle.composed_value.specs.declared.kind.Kind.TheVariants as kinds
use Rattle.composed_value.specs.declared.payload.Payload.TheVariants as payloads
use Rattle.composed_value.specs.declared.put.Put.{Put}
use Rattle.composed_value.specs.declared.value.Value.TheVariants as values
use Rattle.placement.specs.Name.{IsName}
use Rattle.placement.specs.Config.{IsPlacement}
use Rattle.composed_value.specs.Keyed.{puts_on}
use Rattle.session_known.specs.Accepted.{accepted}
use Rattle.session_known.specs.Form.{NamesSessions, IsClockIn, IsFinalIn}
use Rattle.session_known.specs.Lawful.{last_lamport}
use Rattle.session_known.specs.Legal.{IsLawfulFinal, IsLegalAt}
use Rattle.session_known.specs.Script.{IsValidSession, IsValidScript}
use Rattle.worked_reports.specs.Worked.{first_table, versions_script, version_x, version_y, versions_report}
use Rattle.worked_reports.proofs.LegalLemmas.{below_differs, one_session_in, two_sessions_in, put_of, sound_by_cell, x_is_word, y_is_word}
use Rattle.worked_reports.proofs.PlacesLemmas.{AllPairs-from_recursion, none_follows, names_differ, name, word, session_is_valid, first_is_valid}
use Rattle.session_known.specs.declared.script.SessionPlan.{SessionPlan}

-- the clocks of its cells
versions_clock_x : IsClockIn versions_script ((1, 1) ∷ [])
versions_clock_x = one_session_in versions_script 1 1 (lit≤ tt, lit≤ tt) (lit< tt) (lit< tt) (lit< tt)

versions_clock_y : IsClockIn versions_script ((1, 1) ∷ (2, 1) ∷ [])
versions_clock_y = two_sessions_in versions_script 1 1 (lit≤ tt) (lit< tt) (lit< tt) (lit< tt) (lit< tt)

-- its puts: the second has seen the first
versions_put_x : IsPutOf kinds.Versions (record { session = 1; number = 1; lamport = 1; place = 0; seen = (1, 1) ∷ []; needs = []; payload = payloads.Version (codes "x") })
versions_put_x = put_of kinds.Versions 1 1 1 0 [] (payloads.Version (codes "x")) (lit< tt) (lit< tt) (lit< tt) (lit< tt) (lit< tt) empty_are_needs x_is_word refl

versions_put_y : IsPutOf kinds.Versions (record { session = 2; number = 1; lamport = 2; place = 0; seen = (1, 1) ∷ (2, 1) ∷ []; needs = []; payload = payloads.Version (codes "y") })
versions_put_y = record {
  is_put = record {
    session_fits = lit< tt;
    number_some = lit< tt;
    number_fits = lit< tt;
    lamport_fits = lit< tt;
    place_fits = lit< tt;
    seen_is = versions_clock_y.is_clock;
    needs_are = empty_are_needs;
    payload_is = y_is_word;
  };
  of_kind = refl;
}

-- a version alone
one_version : (version : Version) → IsVersion version → is_below version version ≡ false → IsVersions (version ∷ [])
one_version version is not_itself = record {
  is_set = record { ascending = refl; are_members = All-from_recursion IsVersion (version ∷ []) (is, tt) };
  none_below = All-from_recursion (λ x. list_any (is_below x) (version ∷ []) ≡ false) (version ∷ []) (ap (λ t. t || false) not_itself, tt);
}

-- the versions that its cells hold
versions_x : IsVersions (version_x ∷ [])
versions_x = one_version version_x (record { is_clock = versions_clock_x.is_clock; is_word = x_is_word }) refl

versions_y : IsVersions (version_y ∷ [])
versions_y = one_version version_y (record { is_clock = versions_clock_y.is_clock; is_word = y_is_word }) refl

-- they hold what their clocks count
versions_sound_x : IsSound kinds.Versions (puts_on 1 (accepted versions_script versions_report)) ((1, 1) ∷ []) 1 (values.Versions (version_x ∷ []))
versions_sound_x = sound_by_cell kinds.Versions (puts_on 1 (accepted versions_script versions_report)) ((1, 1) ∷ []) 1 (values.Versions (version_x ∷ [])) (versions_put_x, tt) (lit≤ tt, tt) refl refl

versions_sound_y : IsSound kinds.Versions (puts_on 1 (accepted versions_script versions_report)) ((1, 1) ∷ (2, 1) ∷ []) 2 (values.Versions (version_y ∷ []))
versions_sound_y =
    sound_by_cell kinds.Versions (puts_on 1 (accepted versions_script versions_report)) ((1, 1) ∷ (2, 1) ∷ []) 2 (values.Versions (version_y ∷ [])) (versions_put_x, (versions_put_y, tt)) (lit≤ tt, (lit≤ tt, tt)) refl refl

-- The report is legal.
pub versions_is_legal : IsLegalAt first_table versions_script versions_report
versions_is_legal = record {
  form = record {
    answers = (
      ((lit< tt, lit< tt), tt),
      (
        (
          record { worker_is = (lit≤ tt, lit≤ tt); clock_is = versions_clock_x; top_fits = lit< tt; value_is = record { is_value = versions_x; of_kind = refl; sessions = All-from_recursion (λ (version : Version). NamesSessions versions_script version.clock) (version_x ∷ []) (versions_clock_x.sessions, tt); few = tt }; needs_are = tt },
          ((lit< tt, lit< tt), tt),
        ),
        tt,
      ),
    );
    places = refl;
    finals = All-from_recursion (IsFinalIn versions_script) versions_report.finals (
      record { clock_is = versions_clock_y; top_fits = lit< tt; value_is = record { is_value = versions_y; of_kind = refl; sessions = All-from_recursion (λ (version : Version). NamesSessions versions_script version.clock) (version_y ∷ []) (versions_clock_y.sessions, tt); few = tt } },
      tt,
    );
  };
  answers = (
    (record { not_begun = refl; number_is = refl; not_worn = below_differs 0 last_lamport (lit< tt); lamport_is = refl }, tt),
    (
      (
        record {
          worker_is = refl;
          clock_is = record { covers_earlier = All-nil (λ before. IsTrue (covers ((1, 1) ∷ []) before)); own_at_home = λ home. refl };
          no_later_put = lit≤ tt;
          covers_required = refl;
        },
        (record { not_begun = refl; number_is = refl; not_worn = below_differs 1 last_lamport (lit< tt); lamport_is = refl }, tt),
      ),
      tt,
    ),
  );
  true_of_puts = ((tt, tt), ((record { sound = versions_sound_x; needs = tt }, (tt, tt)), tt));
  finals = All-from_recursion (IsLawfulFinal versions_script.kinds (accepted versions_script versions_report)) versions_report.finals (
    record { sound = versions_sound_y; counts_all = All-from_recursion (λ (put : Put). put.number ≤ count_of put.session ((1, 1) ∷ (2, 1) ∷ [])) (puts_on 1 (accepted versions_script versions_report)) (lit≤ tt, (lit≤ tt, tt)) },
    tt,
  );
}

-- The script is valid.
pub versions_is_valid : IsPlacement versions_script.config first_table → IsValidScript versions_script first_table
versions_is_valid placed =
    let like = first_is_valid placed in
    record {
      version = like.version;
      config = like.config;
      placed = placed;
      round = like.round;
      kinds = refl;
      keys_named = like.keys_named;
      key_names = like.key_names;
      sessions_named = All-from_recursion (λ (plan : SessionPlan). IsName plan.name) versions_script.sessions (name (codes "s") refl (lit≤ tt) (lit≤ tt), (name (codes "t") refl (lit≤ tt) (lit≤ tt), tt));
      session_names = AllPairs-from_recursion (λ (plan other : SessionPlan). plan.name ≢ other.name) versions_script.sessions ((names_differ (codes "s") (codes "t") (λ same. omega (arith, same)), tt), (tt, tt));
      few_sessions = lit≤ tt;
      few_lines = lit≤ tt;
      sessions = All-from_recursion (IsValidSession versions_script first_table) versions_script.sessions (session_is_valid versions_script first_table (((lit≤ tt, lit≤ tt), word (codes "x") refl (lit≤ tt) (lit≤ tt), refl), tt) refl, (session_is_valid versions_script first_table (((lit≤ tt, lit≤ tt), tt), (((lit≤ tt, lit≤ tt), word (codes "y") refl (lit≤ tt) (lit≤ tt), refl), tt)) refl, tt));
      orders = none_follows versions_script (refl, (refl, tt));
    }
