-- What legal reports have in common, whoever wrote them.
use Rattle.std.specs.Prelude.{◌≡◌, ℕ, ◌≤◌, ◌==◌, IsTrue, List, [], ◌∷◌, length, map, slice_index_or, Contains}
use Rattle.std.proofs.Common.{sym, ap, subst, ◌∙◌, arith}
use Rattle.std.proofs.lemmas.Bool.{eqb-true}
use Rattle.std.proofs.lemmas.List.Elements.{All-contains, Contains-get_or}
use Rattle.lattice_laws.proofs.GreatestOfListsLemmas.{greatest_or_zero_is_single}
use Rattle.lattice_laws.proofs.MembersLemmas.{contains_filtered}
use Rattle.clock_lattice.specs.Clock.{IsClock, count_of, joined_clocks, one_count, covers}
use Rattle.clock_lattice.specs.ClockLaws.{counts_from_covers}
use Rattle.clock_lattice.proofs.ClockLemmas.{same_counts}
use Rattle.clock_lattice.specs.Needs.{clock_at}
use Rattle.composed_value.specs.PlainValue.{puts_of_session}
use Rattle.composed_value.proofs.PlainValueLemmas.{value_is_single}
use Rattle.composed_value.specs.Sound.{counted, IsSound, AreNumbered}
use Rattle.composed_value.specs.declared.kind.Kind.{Kind}
use Rattle.composed_value.specs.declared.put.Put as puts
use Rattle.composed_value.specs.Keyed.{puts_on, kind_at}
use Rattle.session_known.specs.Accepted.{made_on, AreNext, accepted, accepted_from, ends_of}
use Rattle.session_known.specs.Form.{Fits, IsFinalIn}
use Rattle.session_known.proofs.KnownLemmas.{CountsAtMost, first_at_most, shown_is_known}
use Rattle.session_known.specs.Lawful.{ShowsAt, by_get, by_await, required_by_get, IsLawful, IsTrueOf, CountsAccepted}
use Rattle.session_known.specs.Laws.{FinalsAgree}
use Rattle.session_known.specs.Legal.{AreLawfulFrom, IsLawfulFinal, IsLegalAt}
use Rattle.session_known.proofs.NumberedLemmas.{number_at, numbered_from_next, accepted_are_next}
use Rattle.session_known.specs.Session.{Client, Knowledge, State, after}
use Rattle.session_known.specs.declared.report.Answer.{Answer}
use Rattle.session_known.specs.declared.report.FinalCell.{FinalCell}
use Rattle.session_known.specs.declared.report.Report.{Report}
use Rattle.session_known.specs.declared.script.Level.{Level}
use Rattle.session_known.specs.declared.script.Level.TheVariants.{Causal}
use Rattle.session_known.specs.declared.script.Line.{Line}
use Rattle.session_known.specs.declared.script.Script.{Script}
use Rattle.session_known.specs.declared.script.SessionPlan.{SessionPlan}

-- the accepted puts of a session on a key are numbered 1, 2 and so on, each once
pub accepted_are_numbered : (table : List (List ℕ)) (ends : List Knowledge) (plans : List SessionPlan) (answers : List (List Answer)) → AreLawfulFrom table ends 1 plans answers → (session key : ℕ) → AreNumbered (puts_of_session session (puts_on key (accepted_from ends 1 plans answers)))
accepted_are_numbered table ends plans answers lawful session key = numbered_from_next (made_on session key (accepted_from ends 1 plans answers)) (accepted_are_next table ends 1 plans answers lawful session key)

-- a clock that counts each of puts that follow 0 counts as many as there are
as_many_as_next : (made : List puts.Put) (session : ℕ) (clock : List (ℕ × ℕ)) → AreNext 0 made → ((put : puts.Put) → Contains made put → put.number ≤ count_of session clock) → length made ≤ count_of session clock
as_many_as_next [] session clock are each = omega arith
as_many_as_next (put ∷ others) session clock are each =
    let made : List puts.Put = put ∷ others in
    let is_last = number_at 0 made are (length others) put (omega arith) in
    let counts = each (slice_index_or made (length others) put) (Contains-get_or made (length others) put (omega arith)) in
    omega (arith, is_last, counts)

-- so a final clock counts all accepted puts of a session on its key
final_counts : (table : List (List ℕ)) (script : Script) (report : Report) → IsLegalAt table script report → (cell : FinalCell) → IsLawfulFinal script.kinds (accepted script report) cell → (session : ℕ) → count_of session cell.clock ≡ length (made_on session cell.key (accepted script report))
final_counts table script report legal cell lawful session =
    let on_key : List puts.Put = puts_on cell.key (accepted script report) in
    let is_counted = λ (put : puts.Put) (has_it : Contains (puts_of_session session on_key) put).
    let both = contains_filtered (λ (p : puts.Put). session == p.session) on_key put has_it in
    let counts : put.number ≤ count_of put.session cell.clock = All-contains (λ p. p.number ≤ count_of p.session cell.clock) on_key put lawful.counts_all both.0 in
    subst (λ s. put.number ≤ count_of s cell.clock) (sym (eqb-true session put.session both.1)) counts in
    let at_least = as_many_as_next (puts_of_session session on_key) session cell.clock (accepted_are_next table (ends_of script report) 1 script.sessions report.answers legal.answers session cell.key) is_counted in
    omega (arith, at_least, lawful.sound.counts session)

-- in a legal report the final cells of the replicas of a key have equal clock, top and value
pub finals_agree : (table : List (List ℕ)) (script : Script) (report : Report) → IsLegalAt table script report → (a b : FinalCell) → Contains report.finals a → Contains report.finals b → a.key ≡ b.key → FinalsAgree a b
finals_agree table script report legal a b has_a has_b same =
    let all : List (ℕ × puts.Put) = accepted script report in
    let kind : Kind = kind_at script.kinds a.key in
    let lawful_a : IsLawfulFinal script.kinds all a = All-contains (IsLawfulFinal script.kinds all) report.finals a legal.finals has_a in
    let lawful_b : IsLawfulFinal script.kinds all b = All-contains (IsLawfulFinal script.kinds all) report.finals b legal.finals has_b in
    let form_a : IsFinalIn script a = All-contains (IsFinalIn script) report.finals a legal.form.finals has_a in
    let form_b : IsFinalIn script b = All-contains (IsFinalIn script) report.finals b legal.form.finals has_b in
    let clocks : a.clock ≡ b.clock = same_counts a.clock b.clock form_a.clock_is.is_clock form_b.clock_is.is_clock (λ session.
    final_counts table script report legal a lawful_a session ∙ ap (λ key. length (made_on session key all)) same ∙ sym (final_counts table script report legal b lawful_b session)) in
    let on_key : List puts.Put = puts_on a.key all in
    let sound_b : IsSound kind on_key a.clock b.top b.value =
    subst (λ clock. IsSound kind on_key clock b.top b.value) (sym clocks) (subst (λ key. IsSound (kind_at script.kinds key) (puts_on key all) b.clock b.top b.value) (sym same) lawful_b.sound) in record {
      clocks = clocks;
      tops = greatest_or_zero_is_single (map (λ put. put.lamport) (counted on_key a.clock)) a.top b.top lawful_a.sound.top_is sound_b.top_is;
      values = value_is_single kind (counted on_key a.clock) a.value b.value lawful_a.sound.value_is sound_b.value_is;
    }

-- a lawful reply's clock counts only accepted puts
pub reply_counts_accepted : (kinds : List Kind) (accepted : List (ℕ × puts.Put)) (line : Line) (answer : Answer) (key : ℕ) (clock : List (ℕ × ℕ)) → ShowsAt line answer key clock → IsTrueOf kinds accepted line answer → CountsAccepted accepted key clock
reply_counts_accepted kinds accepted _ _ _ _ (by_get key named worker shown) true_of = true_of.sound.counts
reply_counts_accepted kinds accepted _ _ _ _ (by_await key session count worker shown) true_of = true_of.sound.counts

-- a clock that is shown has the form of one
pub shown_is_clock : (script : Script) (level : Level) (line : Line) (answer : Answer) (key : ℕ) (clock : List (ℕ × ℕ)) → Fits script level line answer → ShowsAt line answer key clock → IsClock clock
shown_is_clock script level line answer key clock fits (by_get its_key named worker shown) = fits.clock_is.is_clock
shown_is_clock script level line answer key clock fits (by_await its_key session count worker shown) = fits.clock_is.is_clock

-- it is known once it is shown
pub known_once_shown : (client : Client) (state : State) (line : Line) (answer : Answer) (key : ℕ) (clock : List (ℕ × ℕ)) → IsClock clock → ShowsAt line answer key clock → CountsAtMost clock (clock_at key (after client state line answer).knows.clocks)
known_once_shown client state line answer key clock is (by_get its_key named worker shown) = shown_is_known client state.knows its_key shown is.ascending
known_once_shown client state line answer key clock is (by_await its_key session count worker shown) = shown_is_known client state.knows its_key shown is.ascending

-- in a causal session a lawful reply counts at least what is known
pub counts_what_is_known : (table : List (List ℕ)) (client : Client) (state : State) (before : List (Line × Answer)) (line : Line) (answer : Answer) (key : ℕ) (clock : List (ℕ × ℕ)) → client.level ≡ Causal → IsLawful table client state before line answer → ShowsAt line answer key clock
    → CountsAtMost (clock_at key state.knows.clocks) clock
counts_what_is_known table client state before line answer key clock causal lawful (by_get its_key named worker shown) =
    let covered : IsTrue (covers shown.clock (clock_at its_key state.knows.clocks)) = subst (λ level. IsTrue (covers shown.clock (required_by_get level state.knows its_key))) causal lawful.covers_required in
    counts_from_covers shown.clock (clock_at its_key state.knows.clocks) covered
counts_what_is_known table client state before line answer key clock causal lawful (by_await its_key session count worker shown) = λ of_session.
    let known : List (ℕ × ℕ) = clock_at its_key state.knows.clocks in
    let raised : List (ℕ × ℕ) = joined_clocks known (one_count session count) in
    let first = first_at_most known (one_count session count) of_session in
    let second = counts_from_covers shown.clock raised lawful.covers_required of_session in
    omega (arith, first, second)
