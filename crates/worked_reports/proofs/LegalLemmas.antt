-- The worked reports are legal.
use Rattle.std.specs.Prelude.{◌≡◌, ◌≢◌, ℕ, ◌<◌, ◌≤◌, ◌^◌, ◌==◌, cond, IsTrue, List, [], ◌∷◌, length, map, All, unwrap_or, Some, codes}
use Rattle.std.specs.Cmp.{unsigned_tied}
use Rattle.std.specs.FinMap.{find}
use Rattle.std.specs.List.{AllByRecursion}
use Rattle.std.specs.Ordering.{nat_cmp}
use Rattle.std.proofs.Common.{refl, sym, ap, subst, ◌∙◌, inl, inr, arith, lit<, lit≤}
use Rattle.std.proofs.lemmas.Bool.Decides.{eqb_tells}
use Rattle.std.proofs.lemmas.List.Elements.{All-from_recursion, All-nil, All-cons}
use Rattle.std.proofs.lemmas.List.Sums.{AllPass-from_list_all}
use Rattle.lattice_laws.specs.Entries.{IsEntry}
use Rattle.lattice_laws.specs.Greatest.{IsGreatestOrZero}
use Rattle.lattice_laws.specs.Spelling.{is_spelling_byte}
use Rattle.lattice_laws.specs.declared.maybe.Maybe.TheVariants.{Is}
use Rattle.basic_lattices.specs.Stamped.{IsStamped}
use Rattle.basic_lattices.specs.TextSet.{IsTextSet}
use Rattle.basic_lattices.specs.Word.{IsWord}
use Rattle.clock_lattice.specs.Clock.{IsCount, IsClock, count_of, one_count, covers}
use Rattle.clock_lattice.proofs.ClockLemmas.{one_count_is_clock, one_count_entry}
use Rattle.clock_lattice.specs.Needs.{IsNeeds}
use Rattle.clock_lattice.specs.NeedsLaws.{needs_laws}
use Rattle.clock_lattice.proofs.NeedsLemmas.{empty_are_needs, one_need_is_needs}
use Rattle.composed_value.specs.Cell.{cell_of}
use Rattle.composed_value.proofs.CellOfLemmas.{cell_of_is_cell}
use Rattle.composed_value.specs.Kind.{kind_of}
use Rattle.composed_value.specs.PlainValue.{IsPutOf, IsValueOf, puts_of_session}
use Rattle.composed_value.specs.Put.{IsPayload}
use Rattle.composed_value.specs.Sound.{counted, IsSound, AreSoundNeeds}
use Rattle.composed_value.specs.declared.kind.Kind.{Kind}
use Rattle.composed_value.specs.declared.kind.Kind.TheVariants as kinds
use Rattle.composed_value.specs.declared.payload.Payload.{Payload}
use Rattle.composed_value.specs.declared.payload.Payload.TheVariants as payloads
use Rattle.composed_value.specs.declared.put.Put.{Put}
use Rattle.composed_value.specs.declared.value.Value.{Value}
use Rattle.composed_value.specs.declared.value.Value.TheVariants as values
use Rattle.composed_value.specs.Keyed.{puts_on}
use Rattle.session_known.specs.Accepted.{accepted}
use Rattle.session_known.specs.Form.{NamesSessions, IsClockIn, AreNeedsIn, IsFinalIn}
use Rattle.session_known.specs.Lawful.{last_lamport}
use Rattle.session_known.specs.Legal.{IsLawfulFinal, IsLegalAt}
use Rattle.placement.specs.Config.{IsOneOf}
use Rattle.worked_reports.specs.Worked.{first_script, first_table, first_report, home_script, home_table, home_report, red, commit_script, commit_table, commit_report, causal_script, causal_table, causal_report}
use Rattle.session_known.specs.declared.script.Script.{Script}

-- what is less is not equal
pub below_differs : (m n : ℕ) → m < n → m ≢ n
below_differs m n below same = omega arith

-- a clock that counts some puts of one session of the script is in form
pub one_session_in : (script : Script) (session n : ℕ) → IsOneOf (length script.sessions) session → session < 2 ^ 16 → 0 < n → n < 2 ^ 64 → IsClockIn script ((session, n) ∷ [])
one_session_in script session n is_one session_fits some fits = record {
  is_clock = subst IsClock (one_count_entry session n some) (one_count_is_clock session n session_fits fits);
  sessions = All-cons (λ entry. IsOneOf (length script.sessions) entry.0) (session, n) [] is_one (All-nil (λ entry. IsOneOf (length script.sessions) entry.0));
}

-- so is one that counts some of each of the first two sessions
pub two_sessions_in : (script : Script) (m n : ℕ) → 2 ≤ length script.sessions → 0 < m → m < 2 ^ 64 → 0 < n → n < 2 ^ 64 → IsClockIn script ((1, m) ∷ (2, n) ∷ [])
two_sessions_in script m n two some_m fits_m some_n fits_n = record {
  is_clock = record {
    ascending = refl;
    are_entries = All-from_recursion (IsEntry (λ session. session < 2 ^ 16) IsCount) ((1, m) ∷ (2, n) ∷ []) ((lit< tt, (some_m, fits_m)), ((lit< tt, (some_n, fits_n)), tt));
  };
  sessions = All-from_recursion (λ entry. IsOneOf (length script.sessions) entry.0) ((1, m) ∷ (2, n) ∷ []) ((lit≤ tt, omega (arith, two)), ((lit≤ tt, two), tt));
}

-- a put whose numbers fit, and that has seen its own session's puts alone
pub put_of : (kind : Kind) (session number lamport place : ℕ) (needs : List (ℕ × List (ℕ × ℕ))) (payload : Payload) → session < 2 ^ 16 → 0 < number → number < 2 ^ 64 → lamport < 2 ^ 64 → place < 2 ^ 32 → IsNeeds needs → IsPayload payload → kind_of payload ≡ kind
    → IsPutOf kind (record { session = session; number = number; lamport = lamport; place = place; seen = one_count session number; needs = needs; payload = payload })
put_of kind session number lamport place needs payload session_fits some number_fits lamport_fits place_fits are is of_kind = record {
  is_put = record {
    session_fits = session_fits;
    number_some = some;
    number_fits = number_fits;
    lamport_fits = lamport_fits;
    place_fits = place_fits;
    seen_is = one_count_is_clock session number session_fits number_fits;
    needs_are = are;
    payload_is = is;
  };
  of_kind = of_kind;
}

-- a clock counts of no session more puts than there are, where it does not of those that stand in it
pub counts_within : (puts : List Put) (clock : List (ℕ × ℕ)) → AllByRecursion (λ entry. entry.1 ≤ length (puts_of_session entry.0 puts)) clock → (q : ℕ) → count_of q clock ≤ length (puts_of_session q puts)
counts_within puts [] within q = omega arith
counts_within puts (entry ∷ clock) within q =
    let count : count_of q (entry ∷ clock) ≡ unwrap_or (cond (q == entry.0) (Some entry.1) (find nat_cmp q clock)) 0 = ap (λ ties. unwrap_or (cond ties (Some entry.1) (find nat_cmp q clock)) 0) (unsigned_tied q entry.0) in
    elim (eqb_tells q entry.0) [
      | inl same ↦
          let counts : count_of q (entry ∷ clock) ≡ entry.1 = count ∙ ap (λ ties. unwrap_or (cond ties (Some entry.1) (find nat_cmp q clock)) 0) same.0 in
          subst (λ s. count_of q (entry ∷ clock) ≤ length (puts_of_session s puts)) (sym same.1) (omega (arith, counts, within.0))
      | inr other ↦
          let counts : count_of q (entry ∷ clock) ≡ count_of q clock = count ∙ ap (λ ties. unwrap_or (cond ties (Some entry.1) (find nat_cmp q clock)) 0) other.0 in
          omega (arith, counts, counts_within puts clock within.1 q)
    ]

-- a clock, a top and a value are sound where the cell of the counted puts has this top and value
pub sound_by_cell : (kind : Kind) (all : List Put) (clock : List (ℕ × ℕ)) (top : ℕ) (value : Value) → AllByRecursion (IsPutOf kind) (counted all clock) → AllByRecursion (λ entry. entry.1 ≤ length (puts_of_session entry.0 all)) clock
    → (cell_of kind (counted all clock)).top ≡ top → (cell_of kind (counted all clock)).value ≡ value → IsSound kind all clock top value
sound_by_cell kind all clock top value each within top_is value_is =
    let puts : List Put = counted all clock in
    let of_puts = (cell_of_is_cell kind puts (All-from_recursion (IsPutOf kind) puts each)).1 in
    record {
      counts = counts_within all clock within;
      value_is = subst (IsValueOf kind puts) value_is of_puts.value;
      top_is = subst (IsGreatestOrZero (map (λ put. put.lamport) puts)) top_is of_puts.top;
    }

-- so are its needs, where the cell has these
pub needs_by_cell : (kind : Kind) (all : List Put) (clock : List (ℕ × ℕ)) (needs : List (ℕ × List (ℕ × ℕ))) → AllByRecursion (IsPutOf kind) (counted all clock) → (cell_of kind (counted all clock)).needs ≡ needs → AreSoundNeeds all clock needs
needs_by_cell kind all clock needs each needs_are =
    let puts : List Put = counted all clock in
    let of_puts = (cell_of_is_cell kind puts (All-from_recursion (IsPutOf kind) puts each)).1 in
    subst (AreSoundNeeds all clock) needs_are of_puts.needs

-- The first report: its puts.
first_puts : AllByRecursion (IsPutOf kinds.Max) (counted (puts_on 1 (accepted first_script first_report)) ((1, 2) ∷ []))
first_puts = (
  put_of kinds.Max 1 1 1 0 [] (payloads.Max 5) (lit< tt) (lit< tt) (lit< tt) (lit< tt) (lit< tt) empty_are_needs (lit< tt) refl,
  (
    put_of kinds.Max 1 2 2 0 [] (payloads.Max 3) (lit< tt) (lit< tt) (lit< tt) (lit< tt) (lit< tt) empty_are_needs (lit< tt) refl,
    tt,
  ),
)

-- its clock
first_clock : IsClockIn first_script ((1, 2) ∷ [])
first_clock = one_session_in first_script 1 2 (lit≤ tt, lit≤ tt) (lit< tt) (lit< tt) (lit< tt)

-- and what stands beside it
first_sound : IsSound kinds.Max (puts_on 1 (accepted first_script first_report)) ((1, 2) ∷ []) 2 (values.Max (Is 5))
first_sound = sound_by_cell kinds.Max (puts_on 1 (accepted first_script first_report)) ((1, 2) ∷ []) 2 (values.Max (Is 5)) first_puts (lit≤ tt, tt) refl refl

-- the report of the first run is legal
pub first_is_legal : IsLegalAt first_table first_script first_report
first_is_legal = record {
  form = record {
    answers = (((lit< tt, lit< tt), ((lit< tt, lit< tt), (record { worker_is = (lit≤ tt, lit≤ tt); clock_is = first_clock; top_fits = lit< tt; value_is = record { is_value = lit< tt; of_kind = refl; sessions = tt; few = tt }; needs_are = tt }, tt))), tt);
    places = refl;
    finals = All-from_recursion (IsFinalIn first_script) first_report.finals (record { clock_is = first_clock; top_fits = lit< tt; value_is = record { is_value = lit< tt; of_kind = refl; sessions = tt; few = tt } }, tt);
  };
  answers = (
    (
      record { not_begun = refl; number_is = refl; not_worn = below_differs 0 last_lamport (lit< tt); lamport_is = refl },
      (
        record { not_begun = refl; number_is = refl; not_worn = below_differs 1 last_lamport (lit< tt); lamport_is = refl },
        (
          record {
            worker_is = refl;
            clock_is = record { covers_earlier = All-nil (λ before. IsTrue (covers ((1, 2) ∷ []) before)); own_at_home = λ home. refl };
            no_later_put = lit≤ tt;
            covers_required = refl;
          },
          tt,
        ),
      ),
    ),
    tt,
  );
  true_of_puts = ((tt, (tt, (record { sound = first_sound; needs = tt }, tt))), tt);
  finals = All-from_recursion (IsLawfulFinal first_script.kinds (accepted first_script first_report)) first_report.finals (
    record { sound = first_sound; counts_all = All-from_recursion (λ (put : Put). put.number ≤ count_of put.session ((1, 2) ∷ [])) (puts_on 1 (accepted first_script first_report)) (lit≤ tt, (lit≤ tt, tt)) },
    tt,
  );
}

-- the words that are put
pub x_is_word : IsWord (codes "x")
x_is_word = record { some = lit≤ tt; short = lit≤ tt; allowed = AllPass-from_list_all is_spelling_byte (codes "x") refl }

pub y_is_word : IsWord (codes "y")
y_is_word = record { some = lit≤ tt; short = lit≤ tt; allowed = AllPass-from_list_all is_spelling_byte (codes "y") refl }

red_is_word : IsWord (codes "red")
red_is_word = record { some = lit≤ tt; short = lit≤ tt; allowed = AllPass-from_list_all is_spelling_byte (codes "red") refl }

-- The second report: the puts that its two cells count.
home_put_one : AllByRecursion (IsPutOf kinds.Set) (counted (puts_on 1 (accepted home_script home_report)) ((1, 1) ∷ []))
home_put_one = (put_of kinds.Set 1 1 1 0 [] (payloads.Add (codes "x")) (lit< tt) (lit< tt) (lit< tt) (lit< tt) (lit< tt) empty_are_needs x_is_word refl, tt)

home_puts_both : AllByRecursion (IsPutOf kinds.Set) (counted (puts_on 1 (accepted home_script home_report)) ((1, 2) ∷ []))
home_puts_both = (
  put_of kinds.Set 1 1 1 0 [] (payloads.Add (codes "x")) (lit< tt) (lit< tt) (lit< tt) (lit< tt) (lit< tt) empty_are_needs x_is_word refl,
  (
    put_of kinds.Set 1 2 2 0 [] (payloads.Add (codes "y")) (lit< tt) (lit< tt) (lit< tt) (lit< tt) (lit< tt) empty_are_needs y_is_word refl,
    tt,
  ),
)

-- the clocks of its cells
home_clock_one : IsClockIn home_script ((1, 1) ∷ [])
home_clock_one = one_session_in home_script 1 1 (lit≤ tt, lit≤ tt) (lit< tt) (lit< tt) (lit< tt)

home_clock_both : IsClockIn home_script ((1, 2) ∷ [])
home_clock_both = one_session_in home_script 1 2 (lit≤ tt, lit≤ tt) (lit< tt) (lit< tt) (lit< tt)

-- their sets
home_set_one : IsTextSet (codes "x" ∷ [])
home_set_one = record { ascending = refl; are_members = All-from_recursion IsWord (codes "x" ∷ []) (x_is_word, tt) }

home_set_both : IsTextSet (codes "x" ∷ codes "y" ∷ [])
home_set_both = record { ascending = refl; are_members = All-from_recursion IsWord (codes "x" ∷ codes "y" ∷ []) (x_is_word, (y_is_word, tt)) }

-- they hold what their clocks count
home_sound_one : IsSound kinds.Set (puts_on 1 (accepted home_script home_report)) ((1, 1) ∷ []) 1 (values.Set (codes "x" ∷ []))
home_sound_one = sound_by_cell kinds.Set (puts_on 1 (accepted home_script home_report)) ((1, 1) ∷ []) 1 (values.Set (codes "x" ∷ [])) home_put_one (lit≤ tt, tt) refl refl

home_sound_both : IsSound kinds.Set (puts_on 1 (accepted home_script home_report)) ((1, 2) ∷ []) 2 (values.Set (codes "x" ∷ codes "y" ∷ []))
home_sound_both = sound_by_cell kinds.Set (puts_on 1 (accepted home_script home_report)) ((1, 2) ∷ []) 2 (values.Set (codes "x" ∷ codes "y" ∷ [])) home_puts_both (lit≤ tt, tt) refl refl

-- the second counts all puts
home_counts_all : All (λ (put : Put). put.number ≤ count_of put.session ((1, 2) ∷ [])) (puts_on 1 (accepted home_script home_report))
home_counts_all = All-from_recursion (λ (put : Put). put.number ≤ count_of put.session ((1, 2) ∷ [])) (puts_on 1 (accepted home_script home_report)) (lit≤ tt, (lit≤ tt, tt))

-- the report with gets at the home is legal
pub home_is_legal : IsLegalAt home_table home_script home_report
home_is_legal = record {
  form = record {
    answers = (
      (
        (lit< tt, lit< tt),
        (
          record { worker_is = (lit≤ tt, lit≤ tt); clock_is = home_clock_one; top_fits = lit< tt; value_is = record { is_value = home_set_one; of_kind = refl; sessions = tt; few = tt }; needs_are = tt },
          (
            (lit< tt, lit< tt),
            (
              record { worker_is = (lit≤ tt, lit≤ tt); clock_is = home_clock_both; top_fits = lit< tt; value_is = record { is_value = home_set_both; of_kind = refl; sessions = tt; few = tt }; needs_are = tt },
              tt,
            ),
          ),
        ),
      ),
      tt,
    );
    places = refl;
    finals = All-from_recursion (IsFinalIn home_script) home_report.finals (
      record { clock_is = home_clock_both; top_fits = lit< tt; value_is = record { is_value = home_set_both; of_kind = refl; sessions = tt; few = tt } },
      (
        record { clock_is = home_clock_both; top_fits = lit< tt; value_is = record { is_value = home_set_both; of_kind = refl; sessions = tt; few = tt } },
        tt,
      ),
    );
  };
  answers = (
    (
      record { not_begun = refl; number_is = refl; not_worn = below_differs 0 last_lamport (lit< tt); lamport_is = refl },
      (
        record {
          worker_is = refl;
          clock_is = record { covers_earlier = All-nil (λ before. IsTrue (covers ((1, 1) ∷ []) before)); own_at_home = λ home. refl };
          no_later_put = lit≤ tt;
          covers_required = refl;
        },
        (
          record { not_begun = refl; number_is = refl; not_worn = below_differs 1 last_lamport (lit< tt); lamport_is = refl },
          (
            record {
              worker_is = refl;
              clock_is = record { covers_earlier = All-from_recursion (λ before. IsTrue (covers ((1, 2) ∷ []) before)) (((1, 1) ∷ []) ∷ []) (refl, tt); own_at_home = λ home. refl };
              no_later_put = lit≤ tt;
              covers_required = refl;
            },
            tt,
          ),
        ),
      ),
    ),
    tt,
  );
  true_of_puts = ((tt, (record { sound = home_sound_one; needs = tt }, (tt, (record { sound = home_sound_both; needs = tt }, tt)))), tt);
  finals = All-from_recursion (IsLawfulFinal home_script.kinds (accepted home_script home_report)) home_report.finals (
    record { sound = home_sound_both; counts_all = home_counts_all },
    (
      record { sound = home_sound_both; counts_all = home_counts_all },
      tt,
    ),
  );
}

-- The third report: the put on each key.
commit_put_a : AllByRecursion (IsPutOf kinds.Max) (counted (puts_on 1 (accepted commit_script commit_report)) ((1, 1) ∷ []))
commit_put_a = (put_of kinds.Max 1 1 1 0 [] (payloads.Max 5) (lit< tt) (lit< tt) (lit< tt) (lit< tt) (lit< tt) empty_are_needs (lit< tt) refl, tt)

commit_put_l : AllByRecursion (IsPutOf kinds.Last) (counted (puts_on 2 (accepted commit_script commit_report)) ((1, 1) ∷ []))
commit_put_l = (put_of kinds.Last 1 1 1 1 [] (payloads.Last (codes "red")) (lit< tt) (lit< tt) (lit< tt) (lit< tt) (lit< tt) empty_are_needs red_is_word refl, tt)

-- the clock of both its cells
commit_clock : IsClockIn commit_script ((1, 1) ∷ [])
commit_clock = one_session_in commit_script 1 1 (lit≤ tt, lit≤ tt) (lit< tt) (lit< tt) (lit< tt)

-- the stamped word
red_is_stamped : IsStamped red
red_is_stamped = record { number_fits = lit< tt; session_fits = lit< tt; place_fits = lit< tt; is_word = red_is_word }

-- the cells hold what their clocks count
commit_sound_a : IsSound kinds.Max (puts_on 1 (accepted commit_script commit_report)) ((1, 1) ∷ []) 1 (values.Max (Is 5))
commit_sound_a = sound_by_cell kinds.Max (puts_on 1 (accepted commit_script commit_report)) ((1, 1) ∷ []) 1 (values.Max (Is 5)) commit_put_a (lit≤ tt, tt) refl refl

commit_sound_l : IsSound kinds.Last (puts_on 2 (accepted commit_script commit_report)) ((1, 1) ∷ []) 1 (values.Last (Is red))
commit_sound_l = sound_by_cell kinds.Last (puts_on 2 (accepted commit_script commit_report)) ((1, 1) ∷ []) 1 (values.Last (Is red)) commit_put_l (lit≤ tt, tt) refl refl

-- the report of the transactions is legal
pub commit_is_legal : IsLegalAt commit_table commit_script commit_report
commit_is_legal = record {
  form = record {
    answers = (
      (
        tt,
        (
          refl,
          (
            refl,
            (
              lit< tt,
              (
                tt,
                (
                  refl,
                  (
                    refl,
                    (
                      (lit< tt, lit< tt, λ none. absurd (omega (arith, none))),
                      (
                        record { worker_is = (lit≤ tt, lit≤ tt); clock_is = commit_clock; top_fits = lit< tt; value_is = record { is_value = red_is_stamped; of_kind = refl; sessions = (lit≤ tt, lit≤ tt); few = tt }; needs_are = tt },
                        tt,
                      ),
                    ),
                  ),
                ),
              ),
            ),
          ),
        ),
      ),
      tt,
    );
    places = refl;
    finals = All-from_recursion (IsFinalIn commit_script) commit_report.finals (
      record { clock_is = commit_clock; top_fits = lit< tt; value_is = record { is_value = lit< tt; of_kind = refl; sessions = tt; few = tt } },
      (
        record { clock_is = commit_clock; top_fits = lit< tt; value_is = record { is_value = red_is_stamped; of_kind = refl; sessions = (lit≤ tt, lit≤ tt); few = tt } },
        tt,
      ),
    );
  };
  answers = (
    (
      refl,
      (
        refl,
        (
          refl,
          (
            (refl, refl),
            (
              refl,
              (
                refl,
                (
                  refl,
                  (
                    record { begun = refl; puts_are = refl; not_worn = below_differs 0 last_lamport (lit< tt); lamport_is = refl },
                    (
                      record {
                        worker_is = refl;
                        clock_is = record { covers_earlier = All-nil (λ before. IsTrue (covers ((1, 1) ∷ []) before)); own_at_home = λ home. refl };
                        no_later_put = lit≤ tt;
                        covers_required = refl;
                      },
                      tt,
                    ),
                  ),
                ),
              ),
            ),
          ),
        ),
      ),
    ),
    tt,
  );
  true_of_puts = ((tt, (tt, (tt, (tt, (tt, (tt, (tt, (tt, (record { sound = commit_sound_l; needs = tt }, tt))))))))), tt);
  finals = All-from_recursion (IsLawfulFinal commit_script.kinds (accepted commit_script commit_report)) commit_report.finals (
    record { sound = commit_sound_a; counts_all = All-from_recursion (λ (put : Put). put.number ≤ count_of put.session ((1, 1) ∷ [])) (puts_on 1 (accepted commit_script commit_report)) (lit≤ tt, tt) },
    (
      record { sound = commit_sound_l; counts_all = All-from_recursion (λ (put : Put). put.number ≤ count_of put.session ((1, 1) ∷ [])) (puts_on 2 (accepted commit_script commit_report)) (lit≤ tt, tt) },
      tt,
    ),
  );
}

-- The fourth report: what its puts need.
pub needs_a : IsNeeds ((1, (1, 1) ∷ []) ∷ [])
needs_a = one_need_is_needs 1 ((1, 1) ∷ []) (lit< tt) (one_count_is_clock 1 1 (lit< tt) (lit< tt))

needs_a_and_b : IsNeeds ((1, (1, 1) ∷ []) ∷ (2, (2, 1) ∷ []) ∷ [])
needs_a_and_b = (needs_laws.closed ((1, (1, 1) ∷ []) ∷ []) ((2, (2, 1) ∷ []) ∷ []) needs_a (one_need_is_needs 2 ((2, 1) ∷ []) (lit< tt) (one_count_is_clock 2 1 (lit< tt) (lit< tt))) tt).0

-- the puts that its cells count
causal_put_a : AllByRecursion (IsPutOf kinds.Max) (counted (puts_on 1 (accepted causal_script causal_report)) ((1, 1) ∷ []))
causal_put_a = (put_of kinds.Max 1 1 1 0 [] (payloads.Max 1) (lit< tt) (lit< tt) (lit< tt) (lit< tt) (lit< tt) empty_are_needs (lit< tt) refl, tt)

causal_puts_a : AllByRecursion (IsPutOf kinds.Max) (counted (puts_on 1 (accepted causal_script causal_report)) ((1, 2) ∷ []))
causal_puts_a = (
  put_of kinds.Max 1 1 1 0 [] (payloads.Max 1) (lit< tt) (lit< tt) (lit< tt) (lit< tt) (lit< tt) empty_are_needs (lit< tt) refl,
  (
    put_of kinds.Max 1 2 3 0 ((1, (1, 1) ∷ []) ∷ (2, (2, 1) ∷ []) ∷ []) (payloads.Max 2) (lit< tt) (lit< tt) (lit< tt) (lit< tt) (lit< tt) needs_a_and_b (lit< tt) refl,
    tt,
  ),
)

causal_put_b : AllByRecursion (IsPutOf kinds.Max) (counted (puts_on 2 (accepted causal_script causal_report)) ((2, 1) ∷ []))
causal_put_b = (put_of kinds.Max 2 1 2 0 ((1, (1, 1) ∷ []) ∷ []) (payloads.Max 7) (lit< tt) (lit< tt) (lit< tt) (lit< tt) (lit< tt) needs_a (lit< tt) refl, tt)

-- the clocks of its cells
causal_clock_a : IsClockIn causal_script ((1, 1) ∷ [])
causal_clock_a = one_session_in causal_script 1 1 (lit≤ tt, lit≤ tt) (lit< tt) (lit< tt) (lit< tt)

causal_clock_a_both : IsClockIn causal_script ((1, 2) ∷ [])
causal_clock_a_both = one_session_in causal_script 1 2 (lit≤ tt, lit≤ tt) (lit< tt) (lit< tt) (lit< tt)

causal_clock_b : IsClockIn causal_script ((2, 1) ∷ [])
causal_clock_b = one_session_in causal_script 2 1 (lit≤ tt, lit≤ tt) (lit< tt) (lit< tt) (lit< tt)

-- the needs that they show
causal_needs_a : AreNeedsIn causal_script []
causal_needs_a = record {
  are_needs = empty_are_needs;
  keys = All-nil (λ entry. IsOneOf (length causal_script.config.keys) entry.0);
  sessions = All-nil (λ entry. NamesSessions causal_script entry.1);
}

causal_needs_b : AreNeedsIn causal_script ((1, (1, 1) ∷ []) ∷ [])
causal_needs_b = record {
  are_needs = needs_a;
  keys = All-from_recursion (λ entry. IsOneOf (length causal_script.config.keys) entry.0) ((1, (1, 1) ∷ []) ∷ []) ((lit≤ tt, lit≤ tt), tt);
  sessions = All-from_recursion (λ entry. NamesSessions causal_script entry.1) ((1, (1, 1) ∷ []) ∷ []) (causal_clock_a.sessions, tt);
}

-- they hold what their clocks count
causal_sound_a : IsSound kinds.Max (puts_on 1 (accepted causal_script causal_report)) ((1, 1) ∷ []) 1 (values.Max (Is 1))
causal_sound_a = sound_by_cell kinds.Max (puts_on 1 (accepted causal_script causal_report)) ((1, 1) ∷ []) 1 (values.Max (Is 1)) causal_put_a (lit≤ tt, tt) refl refl

causal_sound_a_both : IsSound kinds.Max (puts_on 1 (accepted causal_script causal_report)) ((1, 2) ∷ []) 3 (values.Max (Is 2))
causal_sound_a_both = sound_by_cell kinds.Max (puts_on 1 (accepted causal_script causal_report)) ((1, 2) ∷ []) 3 (values.Max (Is 2)) causal_puts_a (lit≤ tt, tt) refl refl

causal_sound_b : IsSound kinds.Max (puts_on 2 (accepted causal_script causal_report)) ((2, 1) ∷ []) 2 (values.Max (Is 7))
causal_sound_b = sound_by_cell kinds.Max (puts_on 2 (accepted causal_script causal_report)) ((2, 1) ∷ []) 2 (values.Max (Is 7)) causal_put_b (lit≤ tt, tt) refl refl

-- the report of the causal sessions is legal
pub causal_is_legal : IsLegalAt causal_table causal_script causal_report
causal_is_legal = record {
  form = record {
    answers = (
      (
        (lit< tt, lit< tt),
        (
          record { worker_is = (lit≤ tt, lit≤ tt); clock_is = causal_clock_b; top_fits = lit< tt; value_is = record { is_value = lit< tt; of_kind = refl; sessions = tt; few = tt }; needs_are = causal_needs_b },
          ((lit< tt, lit< tt), tt),
        ),
      ),
      (
        (
          record { worker_is = (lit≤ tt, lit≤ tt); clock_is = causal_clock_a; top_fits = lit< tt; value_is = record { is_value = lit< tt; of_kind = refl; sessions = tt; few = tt }; needs_are = causal_needs_a },
          ((lit< tt, lit< tt), tt),
        ),
        tt,
      ),
    );
    places = refl;
    finals = All-from_recursion (IsFinalIn causal_script) causal_report.finals (
      record { clock_is = causal_clock_a_both; top_fits = lit< tt; value_is = record { is_value = lit< tt; of_kind = refl; sessions = tt; few = tt } },
      (
        record { clock_is = causal_clock_b; top_fits = lit< tt; value_is = record { is_value = lit< tt; of_kind = refl; sessions = tt; few = tt } },
        tt,
      ),
    );
  };
  answers = (
    (
      record { not_begun = refl; number_is = refl; not_worn = below_differs 0 last_lamport (lit< tt); lamport_is = refl },
      (
        record {
          worker_is = (0, lit< tt, refl);
          clock_is = record { covers_earlier = All-nil (λ before. IsTrue (covers ((2, 1) ∷ []) before)); own_at_home = λ home. refl };
          no_later_put = lit≤ tt;
          covers_required = refl;
        },
        (
          record { not_begun = refl; number_is = refl; not_worn = below_differs 2 last_lamport (lit< tt); lamport_is = refl },
          tt,
        ),
      ),
    ),
    (
      (
        record {
          worker_is = (0, lit< tt, refl);
          clock_is = record { covers_earlier = All-nil (λ before. IsTrue (covers ((1, 1) ∷ []) before)); own_at_home = λ home. refl };
          no_later_put = lit≤ tt;
          covers_required = refl;
        },
        (
          record { not_begun = refl; number_is = refl; not_worn = below_differs 1 last_lamport (lit< tt); lamport_is = refl },
          tt,
        ),
      ),
      tt,
    ),
  );
  true_of_puts = (
    (tt, (record { sound = causal_sound_b; needs = needs_by_cell kinds.Max (puts_on 2 (accepted causal_script causal_report)) ((2, 1) ∷ []) ((1, (1, 1) ∷ []) ∷ []) causal_put_b refl }, (tt, tt))),
    (
      (record { sound = causal_sound_a; needs = needs_by_cell kinds.Max (puts_on 1 (accepted causal_script causal_report)) ((1, 1) ∷ []) [] causal_put_a refl }, (tt, tt)),
      tt,
    ),
  );
  finals = All-from_recursion (IsLawfulFinal causal_script.kinds (accepted causal_script causal_report)) causal_report.finals (
    record { sound = causal_sound_a_both; counts_all = All-from_recursion (λ (put : Put). put.number ≤ count_of put.session ((1, 2) ∷ [])) (puts_on 1 (accepted causal_script causal_report)) (lit≤ tt, (lit≤ tt, tt)) },
    (
      record { sound = causal_sound_b; counts_all = All-from_recursion (λ (put : Put). put.number ≤ count_of put.session ((2, 1) ∷ [])) (puts_on 2 (accepted causal_script causal_report)) (lit≤ tt, tt) },
      tt,
    ),
  );
}
