-- What a reply means for the later lines of its session: what was shown stays known, so that later replies cover it and later puts have seen it.
use Rattle.std.specs.Cmp.Derive.{both_true}
use Rattle.std.specs.Prelude.{◌≡◌, ℕ, zero, suc, ◌+◌, ◌<◌, ◌≤◌, false, IsTrue, List, [], ◌∷◌, ◌++◌, length, not, Option, Some, None, unwrap_or, Contains}
use Rattle.std.specs.List.{AllZip}
use Rattle.std.specs.FinMap.{find, is_sorted, nat_cmp-IsAntisymmetric}
use Rattle.std.specs.Cmp.{nat_cmp_total}
use Rattle.std.specs.Ordering.{nat_cmp}
use Rattle.std.proofs.Common.{refl, sym, ap, subst, subst₂, ◌∙◌, inl, inr, arith}
use Rattle.std.proofs.lemmas.Bool.{and_parts, false≢true, false_from_ne_true, not_from_false, not-true}
use Rattle.lattice_laws.specs.EntriesLaws.{find-joined_maps}
use Rattle.lattice_laws.specs.Maybe.{joined_by}
use Rattle.lattice_laws.proofs.MembersLemmas.{contains_none, contains_cases}
use Rattle.clock_lattice.specs.Clock.{IsClock, count_of, joined_clocks, one_count, covers, is_below}
use Rattle.clock_lattice.specs.ClockLaws.{counts_from_covers, covers_through}
use Rattle.clock_lattice.proofs.ClockLemmas.{covers_from_counts}
use Rattle.clock_lattice.specs.Needs.{IsNeeds, clock_at, joined_needs, one_need}
use Rattle.clock_lattice.proofs.NeedsLemmas.{clock_at_is_clock}
use Rattle.clock_lattice.specs.SparseLaws.{first_value}
use Rattle.composed_value.specs.declared.payload.Payload.{Payload}
use Rattle.composed_value.specs.declared.put.Put as puts
use Rattle.session_known.specs.Form.{Fits, NeedsFit}
use Rattle.session_known.specs.Later.{AnsweredSession, IsAnsweredAt, ShowsNeeds, by_get, by_await, state_before, LaterRepliesCover, ShownNeedsAreCoveredLater, PutsOvertakeShownClocks, PutsOvertakeCoveredVersions}
use Rattle.session_known.specs.Lawful as replies
use Rattle.session_known.specs.Lawful.{ShowsAt, IsLawful, AreLawful}
use Rattle.session_known.specs.Session.{Client, Knowledge, State, start, own_count, known_raised, put_made, knows_put, puts_committed, knows_committed, needs_learned, held_puts, after, puts_by}
use Rattle.session_known.proofs.KnownLemmas.{CountsAtMost, first_at_most, second_at_most, shown_is_known, known_at_line, needs_grow}
use Rattle.session_known.proofs.LegalLemmas.{shown_is_clock, known_once_shown, counts_what_is_known}
use Rattle.session_known.specs.declared.report.Answer.{Answer}
use Rattle.session_known.specs.declared.report.Answer.TheVariants as answers
use Rattle.session_known.specs.declared.script.Level.{Level}
use Rattle.session_known.specs.declared.script.Level.TheVariants.{Causal}
use Rattle.session_known.specs.declared.script.Line.{Line}
use Rattle.session_known.specs.declared.script.Line.TheVariants as lines
use Rattle.session_known.specs.declared.script.Script.{Script}

-- the answer at a place is lawful in the state before its line
record IsLawfulAt (table : List (List ℕ)) (client : Client) (state : State) (line : Line) (answer : Answer) : Type 0 where
  earlier : List (Line × Answer)
  lawful : IsLawful table client state earlier line answer

lawful_at : (table : List (List ℕ)) (client : Client) (state : State) (before : List (Line × Answer)) (lines : List Line) (answers : List Answer) (place : ℕ) (line : Line) (answer : Answer) → AreLawful table client state before lines answers
    → IsAnsweredAt lines answers place line answer → IsLawfulAt table client (state_before client state lines answers place) line answer
lawful_at table client state before [] answers place line answer are at = absurd (omega (arith, at.within))
lawful_at table client state before (first ∷ lines) [] place line answer are at = absurd are
lawful_at table client state before (first ∷ lines) (its_answer ∷ answers) zero line answer are at =
    record { earlier = before; lawful = subst₂ (λ l a. IsLawful table client state before l a) (sym at.line_is) (sym at.answer_is) are.0 }
lawful_at table client state before (first ∷ lines) (its_answer ∷ answers) (suc place) line answer are at =
    lawful_at table client (after client state first its_answer) (before ++ (first, its_answer) ∷ []) lines answers place line answer are.1
    (record { within = omega (arith, at.within); line_is = at.line_is; answer_is = at.answer_is })

-- it has its line's form
fits_at : (script : Script) (level : Level) (lines : List Line) (answers : List Answer) (place : ℕ) (line : Line) (answer : Answer) → AllZip (Fits script level) lines answers → IsAnsweredAt lines answers place line answer → Fits script level line answer
fits_at script level [] answers place line answer fit at = absurd (omega (arith, at.within))
fits_at script level (first ∷ lines) [] place line answer fit at = absurd fit
fits_at script level (first ∷ lines) (its_answer ∷ answers) zero line answer fit at = subst₂ (λ l a. Fits script level l a) (sym at.line_is) (sym at.answer_is) fit.0
fits_at script level (first ∷ lines) (its_answer ∷ answers) (suc place) line answer fit at =
    fits_at script level lines answers place line answer fit.1 (record { within = omega (arith, at.within); line_is = at.line_is; answer_is = at.answer_is })

-- what no line undoes
module _ (client : Client) (P : State → Type 0) (stays : (state : State) (line : Line) (answer : Answer) → P state → P (after client state line answer)) where
  -- holds before each later line
  stays_on : (state : State) (lines : List Line) (answers : List Answer) (place : ℕ) → P state → P (state_before client state lines answers place)
  stays_on state lines answers zero holds = holds
  stays_on state [] answers (suc place) holds = holds
  stays_on state (line ∷ lines) [] (suc place) holds = holds
  stays_on state (line ∷ lines) (answer ∷ answers) (suc place) holds = stays_on (after client state line answer) lines answers place (stays state line answer holds)

  stays_after : (state : State) (lines : List Line) (answers : List Answer) (i j : ℕ) (line : Line) (answer : Answer) → i < j → length answers ≡ length lines → IsAnsweredAt lines answers i line answer
      → P (after client (state_before client state lines answers i) line answer) → P (state_before client state lines answers j)
  stays_after state [] answers i j line answer earlier same at holds = absurd (omega (arith, at.within))
  stays_after state (first ∷ lines) [] i j line answer earlier same at holds = absurd (omega (arith, same))
  stays_after state (first ∷ lines) (its_answer ∷ answers) i zero line answer earlier same at holds = absurd (omega (arith, earlier))
  stays_after state (first ∷ lines) (its_answer ∷ answers) zero (suc j) line answer earlier same at holds =
      stays_on (after client state first its_answer) lines answers j (subst₂ (λ l a. P (after client state l a)) at.line_is at.answer_is holds)
  stays_after state (first ∷ lines) (its_answer ∷ answers) (suc i) (suc j) line answer earlier same at holds =
      stays_after (after client state first its_answer) lines answers i j line answer (omega (arith, earlier)) (omega (arith, same))
      (record { within = omega (arith, at.within); line_is = at.line_is; answer_is = at.answer_is }) holds

-- what is known of a key stays known
known_before : (client : Client) (state : State) (lines : List Line) (answers : List Answer) (i j : ℕ) (line : Line) (answer : Answer) (key : ℕ) (clock : List (ℕ × ℕ)) → i < j → length answers ≡ length lines → IsAnsweredAt lines answers i line answer
    → CountsAtMost clock (clock_at key (after client (state_before client state lines answers i) line answer).knows.clocks) → CountsAtMost clock (clock_at key (state_before client state lines answers j).knows.clocks)
known_before client state lines answers i j line answer key clock =
    stays_after client (λ s. CountsAtMost clock (clock_at key s.knows.clocks)) (λ s l a known session. omega (arith, known session, known_at_line client s l a key session)) state lines answers i j line answer

-- lawful answers are as many as their lines
as_many_answers : (table : List (List ℕ)) (client : Client) (state : State) (before : List (Line × Answer)) (lines : List Line) (answers : List Answer) → AreLawful table client state before lines answers → length answers ≡ length lines
as_many_answers table client state before [] [] are = refl
as_many_answers table client state before [] (answer ∷ answers) are = absurd are
as_many_answers table client state before (line ∷ lines) [] are = absurd are
as_many_answers table client state before (line ∷ lines) (answer ∷ answers) are =
    let same = as_many_answers table client (after client state line answer) (before ++ (line, answer) ∷ []) lines answers are.1 in omega (arith, same)

-- In a causal session, later replies on a key cover the earlier ones.
pub later_covers_earlier : (session : AnsweredSession) → LaterRepliesCover session
later_covers_earlier session causal i j key earlier later before shown_i shown_j =
    let client : Client = session.client in
    let state_i : State = state_before client (start session.origin) session.lines session.answers i in
    let state_j : State = state_before client (start session.origin) session.lines session.answers j in
    let fits = fits_at session.script client.level session.lines session.answers i shown_i.line shown_i.answer session.form shown_i.at in
    let is : IsClock earlier = shown_is_clock session.script client.level shown_i.line shown_i.answer key earlier fits shown_i.shows in
    let same = as_many_answers session.table client (start session.origin) [] session.lines session.answers session.lawful in
    let known = known_before client (start session.origin) session.lines session.answers i j shown_i.line shown_i.answer key earlier before same shown_i.at
    (known_once_shown client state_i shown_i.line shown_i.answer key earlier is shown_i.shows) in
    let lawful_j = lawful_at session.table client (start session.origin) [] session.lines session.answers j shown_j.line shown_j.answer session.lawful shown_j.at in
    let counts = counts_what_is_known session.table client state_j lawful_j.earlier shown_j.line shown_j.answer key later causal lawful_j.lawful shown_j.shows in
    covers_from_counts later earlier is (λ of_session. omega (arith, known of_session, counts of_session))

-- needs that are joined are there too, at each key
second_needs : (key : ℕ) (known needs : List (ℕ × List (ℕ × ℕ))) → IsNeeds needs → CountsAtMost (clock_at key needs) (clock_at key (joined_needs known needs))
second_needs key known needs are session =
    subst (λ found. count_of session (clock_at key needs) ≤ count_of session (unwrap_or found [])) (sym (find-joined_maps joined_clocks nat_cmp_total key known needs are.ascending))
    (second_found (find nat_cmp key known) (find nat_cmp key needs) (clock_at_is_clock key needs are))
  where
    second_found : (x y : Option (List (ℕ × ℕ))) → IsClock (unwrap_or y []) → count_of session (unwrap_or y []) ≤ count_of session (unwrap_or (joined_by joined_clocks x y) [])
    second_found None None is = omega arith
    second_found None (Some n) is = omega arith
    second_found (Some m) None is = omega arith
    second_found (Some m) (Some n) is = second_at_most m n is.ascending session

-- a causal session knows the needs that a reply has shown
needs_known : (client : Client) (state : State) (line : Line) (answer : Answer) (needs : List (ℕ × List (ℕ × ℕ))) (key : ℕ) → client.level ≡ Causal → IsNeeds needs → ShowsNeeds line answer needs
    → CountsAtMost (clock_at key needs) (clock_at key (after client state line answer).knows.clocks)
needs_known client state line answer needs key causal are (by_get its_key named worker shown its_needs is) =
    subst₂ (λ level learned. CountsAtMost (clock_at key its_needs) (clock_at key (joined_needs (joined_needs state.knows.clocks (one_need its_key shown.clock)) (needs_learned level learned)))) (sym causal) (sym is)
    (second_needs key (joined_needs state.knows.clocks (one_need its_key shown.clock)) its_needs are)
needs_known client state line answer needs key causal are (by_await its_key session count worker shown its_needs is) =
    subst₂ (λ level learned. CountsAtMost (clock_at key its_needs) (clock_at key (joined_needs (joined_needs state.knows.clocks (one_need its_key shown.clock)) (needs_learned level learned)))) (sym causal) (sym is)
    (second_needs key (joined_needs state.knows.clocks (one_need its_key shown.clock)) its_needs are)

-- needs that are shown have their form
shown_are_needs : (script : Script) (line : Line) (answer : Answer) (needs : List (ℕ × List (ℕ × ℕ))) → Fits script Causal line answer → ShowsNeeds line answer needs → IsNeeds needs
shown_are_needs script line answer needs fits (by_get key named worker shown its_needs is) = let fit : NeedsFit script Causal (Some its_needs) = subst (NeedsFit script Causal) is fits.needs_are in fit.are_needs
shown_are_needs script line answer needs fits (by_await key session count worker shown its_needs is) = let fit : NeedsFit script Causal (Some its_needs) = subst (NeedsFit script Causal) is fits.needs_are in fit.are_needs

-- In a causal session, later replies on a key cover what the needs that an earlier reply shows have of the key.
pub needs_are_covered_later : (session : AnsweredSession) → ShownNeedsAreCoveredLater session
needs_are_covered_later session causal i j key needs later earlier shown_i shown_j =
    let client : Client = session.client in
    let fits : Fits session.script Causal shown_i.line shown_i.answer = subst (λ level. Fits session.script level shown_i.line shown_i.answer) causal (fits_at session.script client.level session.lines session.answers i shown_i.line shown_i.answer session.form shown_i.at) in
    let are : IsNeeds needs = shown_are_needs session.script shown_i.line shown_i.answer needs fits shown_i.shows in
    let same = as_many_answers session.table client (start session.origin) [] session.lines session.answers session.lawful in
    let known = known_before client (start session.origin) session.lines session.answers i j shown_i.line shown_i.answer key (clock_at key needs) earlier same shown_i.at
    (needs_known client (state_before client (start session.origin) session.lines session.answers i) shown_i.line shown_i.answer needs key causal are shown_i.shows) in
    let lawful_j = lawful_at session.table client (start session.origin) [] session.lines session.answers j shown_j.line shown_j.answer session.lawful shown_j.at in
    let counts = counts_what_is_known session.table client (state_before client (start session.origin) session.lines session.answers j) lawful_j.earlier shown_j.line shown_j.answer key later causal lawful_j.lawful shown_j.shows in
    covers_from_counts later (clock_at key needs) (clock_at_is_clock key needs are) (λ of_session. omega (arith, known of_session, counts of_session))

-- what a session knows of a clock of the key that it was shown: all that it counts, and of its own puts at least as many are made
record HasTakenIn (client : Client) (key : ℕ) (clock : List (ℕ × ℕ)) (knows : Knowledge) : Type 0 where
  known : CountsAtMost clock (clock_at key knows.clocks)
  own : count_of client.session clock ≤ own_count knows key

-- a put does not undo it
taken_in_at_put : (client : Client) (key : ℕ) (clock : List (ℕ × ℕ)) (knows : Knowledge) (its_key number lamport : ℕ) → HasTakenIn client key clock knows → HasTakenIn client key clock (knows_put client knows its_key number lamport)
taken_in_at_put client key clock knows its_key number lamport taken = record {
  known = λ session. omega (arith, taken.known session, needs_grow key knows.clocks (one_need its_key (one_count client.session number)) session);
  own = omega (arith, taken.own, first_at_most knows.own (one_count its_key number) key);
}

-- nor does a commit
taken_in_at_commit : (client : Client) (key : ℕ) (clock : List (ℕ × ℕ)) (knows : Knowledge) (lamport : ℕ) (held : List (ℕ × Payload)) → HasTakenIn client key clock knows → HasTakenIn client key clock (knows_committed client knows lamport held)
taken_in_at_commit client key clock knows lamport [] taken = taken
taken_in_at_commit client key clock knows lamport (held ∷ others) taken =
    let number : ℕ = own_count knows held.0 + 1 in
    taken_in_at_commit client key clock (knows_put client knows held.0 number lamport) lamport others (taken_in_at_put client key clock knows held.0 number lamport taken)

-- nor does any line
taken_in_at_line : (client : Client) (key : ℕ) (clock : List (ℕ × ℕ)) (state : State) (line : Line) (answer : Answer) → HasTakenIn client key clock state.knows → HasTakenIn client key clock (after client state line answer).knows
taken_in_at_line client key clock state (lines.Put its_key payload) (answers.Put number lamport) taken = taken_in_at_put client key clock state.knows its_key number lamport taken
taken_in_at_line client key clock state (lines.Get its_key named) (answers.Got worker shown) taken =
    record { known = λ session. omega (arith, taken.known session, known_at_line client state (lines.Get its_key named) (answers.Got worker shown) key session); own = taken.own }
taken_in_at_line client key clock state (lines.Await its_key of_session count) (answers.Got worker shown) taken =
    record { known = λ session. omega (arith, taken.known session, known_at_line client state (lines.Await its_key of_session count) (answers.Got worker shown) key session); own = taken.own }
taken_in_at_line client key clock state lines.Commit (answers.Committed committed lamport) taken = taken_in_at_commit client key clock state.knows lamport (held_puts state) taken
taken_in_at_line client key clock state lines.Begin answers.Begun taken = taken
taken_in_at_line client key clock state lines.Abort (answers.Aborted aborted) taken = taken
taken_in_at_line client key clock state line answer taken = taken

-- a lawful reply is taken in
taken_in_once_shown : (table : List (List ℕ)) (client : Client) (state : State) (earlier : List (Line × Answer)) (line : Line) (answer : Answer) (key : ℕ) (clock : List (ℕ × ℕ)) → IsClock clock → IsLawful table client state earlier line answer → ShowsAt line answer key clock
    → HasTakenIn client key clock (after client state line answer).knows
taken_in_once_shown table client state earlier line answer key clock is lawful (replies.by_get its_key named worker shown) = record { known = shown_is_known client state.knows its_key shown is.ascending; own = lawful.no_later_put }
taken_in_once_shown table client state earlier line answer key clock is lawful (replies.by_await its_key session count worker shown) = record { known = shown_is_known client state.knows its_key shown is.ascending; own = lawful.no_later_put }

-- a count of one session rises
one_rises : (session n : ℕ) → IsTrue (is_sorted nat_cmp (one_count session n))
one_rises session zero = refl
one_rises session (suc n) = refl

-- it counts what it says
count_of_itself : (session n : ℕ) → n ≤ count_of session (one_count session n)
count_of_itself session zero = omega arith
count_of_itself session (suc n) = let is = first_value nat_cmp_total nat_cmp-IsAntisymmetric 0 (session, suc n) [] in omega (arith, is)

-- the next put has seen strictly more than a clock that was taken in
next_overtakes : (client : Client) (key : ℕ) (clock : List (ℕ × ℕ)) (knows : Knowledge) (number : ℕ) → IsClock clock → number ≡ own_count knows key + 1 → HasTakenIn client key clock knows → IsTrue (is_below clock (known_raised knows key client.session number))
next_overtakes client key clock knows number is next taken =
    let known : List (ℕ × ℕ) = clock_at key knows.clocks in
    let seen : List (ℕ × ℕ) = known_raised knows key client.session number in
    let covered : IsTrue (covers seen clock) = covers_from_counts seen clock is (λ session. omega (arith, taken.known session, first_at_most known (one_count client.session number) session)) in
    let own = second_at_most known (one_count client.session number) (one_rises client.session number) client.session in
    let misses = false_from_ne_true (covers clock seen) (λ back. omega (arith, counts_from_covers clock seen back client.session, own, count_of_itself client.session number, taken.own, next)) in
    both_true {s = covers seen clock} {t = not (covers clock seen)} covered (not_from_false (covers clock seen) misses)

-- and so has each put of a commit
committed_overtakes : (client : Client) (key : ℕ) (clock : List (ℕ × ℕ)) (knows : Knowledge) (lamport place : ℕ) (held : List (ℕ × Payload)) (put : puts.Put) → IsClock clock → HasTakenIn client key clock knows
    → Contains (puts_committed client knows lamport place held) (key, put) → IsTrue (is_below clock put.seen)
committed_overtakes client key clock knows lamport place [] put is taken has_it = absurd (contains_none (key, put) has_it)
committed_overtakes client key clock knows lamport place (held ∷ others) put is taken has_it =
    let number : ℕ = own_count knows held.0 + 1 in
    let made : ℕ × puts.Put = (held.0, put_made client knows held.0 held.1 number lamport place) in
    let knows_then : Knowledge = knows_put client knows held.0 number lamport in
    elim (contains_cases made (key, put) (puts_committed client knows_then lamport (place + 1) others) has_it) [
      | inl same ↦
          let its_key : held.0 ≡ key = ap (λ (entry : ℕ × puts.Put). entry.0) same in
          let its_number : number ≡ own_count knows key + 1 = ap (λ k. own_count knows k + 1) its_key in
          let seen : known_raised knows key client.session number ≡ put.seen = ap (λ k. known_raised knows k client.session number) (sym its_key) ∙ ap (λ (entry : ℕ × puts.Put). entry.1.seen) same in
          subst (λ s. IsTrue (is_below clock s)) seen (next_overtakes client key clock knows number is its_number taken)
      | inr later ↦ committed_overtakes client key clock knows_then lamport (place + 1) others put is (taken_in_at_put client key clock knows held.0 number lamport taken) later
    ]

-- and each put that a lawful answer accepts
accepted_overtakes : (table : List (List ℕ)) (client : Client) (state : State) (earlier : List (Line × Answer)) (line : Line) (answer : Answer) (key : ℕ) (clock : List (ℕ × ℕ)) (put : puts.Put) → IsClock clock → HasTakenIn client key clock state.knows
    → IsLawful table client state earlier line answer → Contains (puts_by client state line answer) (key, put) → IsTrue (is_below clock put.seen)
accepted_overtakes table client state earlier (lines.Put its_key payload) (answers.Put number lamport) key clock put is taken lawful has_it =
    let made : ℕ × puts.Put = (its_key, put_made client state.knows its_key payload number lamport 0) in
    let same : made ≡ (key, put) = elim (contains_cases made (key, put) [] has_it) [ inl is ↦ is | inr other ↦ absurd (contains_none (key, put) other) ] in
    let its_key_is : its_key ≡ key = ap (λ (entry : ℕ × puts.Put). entry.0) same in
    let its_number : number ≡ own_count state.knows key + 1 = subst (λ k. number ≡ own_count state.knows k + 1) its_key_is lawful.number_is in
    let seen : known_raised state.knows key client.session number ≡ put.seen = ap (λ k. known_raised state.knows k client.session number) (sym its_key_is) ∙ ap (λ (entry : ℕ × puts.Put). entry.1.seen) same in
    subst (λ s. IsTrue (is_below clock s)) seen (next_overtakes client key clock state.knows number is its_number taken)
accepted_overtakes table client state earlier lines.Commit (answers.Committed committed lamport) key clock put is taken lawful has_it = committed_overtakes client key clock state.knows lamport 0 (held_puts state) put is taken has_it
accepted_overtakes table client state earlier line answer key clock put is taken lawful has_it = absurd (contains_none (key, put) has_it)

-- A put has seen strictly more than each clock of its key that an earlier reply shows.
pub puts_overtake_clocks : (session : AnsweredSession) → PutsOvertakeShownClocks session
puts_overtake_clocks session i j key clock put earlier shown accepted =
    let client : Client = session.client in
    let state_i : State = state_before client (start session.origin) session.lines session.answers i in
    let fits = fits_at session.script client.level session.lines session.answers i shown.line shown.answer session.form shown.at in
    let is : IsClock clock = shown_is_clock session.script client.level shown.line shown.answer key clock fits shown.shows in
    let same = as_many_answers session.table client (start session.origin) [] session.lines session.answers session.lawful in
    let lawful_i = lawful_at session.table client (start session.origin) [] session.lines session.answers i shown.line shown.answer session.lawful shown.at in
    let lawful_j = lawful_at session.table client (start session.origin) [] session.lines session.answers j accepted.line accepted.answer session.lawful accepted.at in
    let taken = stays_after client (λ s. HasTakenIn client key clock s.knows) (λ s l a. taken_in_at_line client key clock s l a) (start session.origin) session.lines session.answers i j shown.line shown.answer earlier same shown.at
    (taken_in_once_shown session.table client state_i lawful_i.earlier shown.line shown.answer key clock is lawful_i.lawful shown.shows) in
    accepted_overtakes session.table client (state_before client (start session.origin) session.lines session.answers j) lawful_j.earlier accepted.line accepted.answer key clock put is taken lawful_j.lawful accepted.accepts

-- So it has seen strictly more than each version whose clock the shown clock covers.
pub puts_overtake_versions : (session : AnsweredSession) → PutsOvertakeCoveredVersions session
puts_overtake_versions session i j key clock put version earlier shown accepted covered =
    let below = puts_overtake_clocks session i j key clock put earlier shown accepted in
    let seen_covers : IsTrue (covers put.seen clock) = (and_parts (covers put.seen clock) (not (covers clock put.seen)) below).0 in
    let misses : covers clock put.seen ≡ false = not-true (covers clock put.seen) (and_parts (covers put.seen clock) (not (covers clock put.seen)) below).1 in
    let not_back = false_from_ne_true (covers version.clock put.seen) (λ back. false≢true (sym misses ∙ covers_through clock version.clock put.seen covered back)) in
    both_true {s = covers put.seen version.clock} {t = not (covers version.clock put.seen)} (covers_through put.seen clock version.clock seen_covers covered) (not_from_false (covers version.clock put.seen) not_back)
