-- The lines of a session, judged one after another.
use Rattle.std.specs.Prelude.{◌≡◌, ℕ, zero, suc, ◌+◌, ◌<◌, ◌≤◌, List, [], ◌∷◌, ◌++◌, drop, length, get_or}
use Rattle.std.proofs.Common.{sym, ap, subst, ◌∙◌, append_assoc, append-nil, length-append, arith}
use Rattle.std.proofs.lemmas.List.{at_drop_more, at_drop_all}
use Rattle.std.proofs.lemmas.List.Elements.{All-append, All-nil, All-cons}
use Rattle.composed_value.specs.declared.kind.Kind.{Kind}
use Rattle.composed_value.specs.declared.payload.Payload.{Payload}
use Rattle.composed_value.specs.declared.put.Put.{Put}
use Rattle.session_known.specs.Lawful.{IsLawful, AreLawful}
use Rattle.session_known.specs.Session.{Client, Knowledge, State, InState, own_count, held_puts, knows_put, knows_committed, after, puts_by, puts_from, state_after}
use Rattle.session_known.specs.declared.report.Answer.{Answer}
use Rattle.session_known.specs.declared.report.Answer.TheVariants as answers
use Rattle.session_known.specs.declared.script.Line.{Line}
use Rattle.session_known.specs.declared.script.Line.TheVariants as lines
use Rattle.anna_check.specs.ByKey.{OfKey, kinds_of, AreByKey, MayBePut}
use Rattle.anna_check.specs.ClocksSeen.{AreJoined}
use Rattle.anna_check.specs.Judged.{MayTake, MayAllBePut}
use Rattle.anna_check.specs.Unlawful.{IsFirstUnlawful}
use Rattle.anna_check.proofs.HeldLemmas.{count_one_more}

-- they are still such after a line
held_after : (kinds : List Kind) (client : Client) (state : State) (line : Line) (answer : Answer) → MayTake kinds line → MayAllBePut kinds (held_puts state) → MayAllBePut kinds (held_puts (after client state line answer))
held_after kinds client state (lines.Put key payload) answers.Held may all =
    let May : ℕ × Payload → Type 0 = λ held. MayBePut kinds held.0 held.1 in
    All-append May (held_puts state) ((key, payload) ∷ []) all (All-cons May (key, payload) [] may (All-nil May))
held_after kinds client state lines.Begin answers.Begun may all = All-nil (λ (held : ℕ × Payload). MayBePut kinds held.0 held.1)
held_after kinds client state lines.Commit (answers.Committed puts lamport) may all = All-nil (λ (held : ℕ × Payload). MayBePut kinds held.0 held.1)
held_after kinds client state lines.Commit answers.Worn may all = All-nil (λ (held : ℕ × Payload). MayBePut kinds held.0 held.1)
held_after kinds client state lines.Abort (answers.Aborted puts) may all = All-nil (λ (held : ℕ × Payload). MayBePut kinds held.0 held.1)
held_after kinds client state (lines.Put key payload) (answers.Put number lamport) may all = all
held_after kinds client state (lines.Get key named) (answers.Got worker shown) may all = all
held_after kinds client state (lines.Await key session count) (answers.Got worker shown) may all = all
held_after kinds client state line answer may all = all

-- a commit raises the count of no key by more than the puts that were held
count_committed : (client : Client) (knows : Knowledge) (lamport : ℕ) (held : List (ℕ × Payload)) (key : ℕ) → own_count (knows_committed client knows lamport held) key ≤ own_count knows key + length held
count_committed client knows lamport [] key = omega arith
count_committed client knows lamport (first ∷ held) key =
    let one = count_one_more client knows first.0 lamport key in
    let rest = count_committed client (knows_put client knows first.0 (own_count knows first.0 + 1) lamport) lamport held key in
    omega (arith, one, rest)

-- a line raises what is made and held on a key by one at most
count_after : (table : List (List ℕ)) (client : Client) (state : State) (earlier : List (Line × Answer)) (line : Line) (answer : Answer) (key n : ℕ) → IsLawful table client state earlier line answer → own_count state.knows key + length (held_puts state) ≤ n
    → own_count (after client state line answer).knows key + length (held_puts (after client state line answer)) ≤ n + 1
count_after table client state earlier (lines.Put its_key payload) (answers.Put number lamport) key n lawful within =
    let one : own_count (knows_put client state.knows its_key number lamport) key ≤ own_count state.knows key + 1 =
    subst (λ number. own_count (knows_put client state.knows its_key number lamport) key ≤ own_count state.knows key + 1) (sym lawful.number_is) (count_one_more client state.knows its_key lamport key) in
    omega (arith, one, within)
count_after table client state earlier (lines.Put its_key payload) answers.Held key n lawful within = let longer = length-append (held_puts state) ((its_key, payload) ∷ []) in omega (arith, longer, within)
count_after table client state earlier lines.Begin answers.Begun key n lawful within = omega (arith, within)
count_after table client state earlier lines.Commit (answers.Committed puts lamport) key n lawful within = let all = count_committed client state.knows lamport (held_puts state) key in omega (arith, all, within)
count_after table client state earlier lines.Commit answers.Worn key n lawful within = omega (arith, within)
count_after table client state earlier lines.Abort (answers.Aborted puts) key n lawful within = omega (arith, within)
count_after table client state earlier (lines.Get its_key named) (answers.Got worker shown) key n lawful within = omega (arith, within)
count_after table client state earlier (lines.Await its_key session count) (answers.Got worker shown) key n lawful within = omega (arith, within)
count_after table client state earlier line answer key n lawful within = omega (arith, within)

-- So many lines were judged, and were lawful: where those that are left are lawful all are, the first of them that is not is the first
-- of all, and what was accepted with what they accept is what all accept.
pub record AreJudging (table : List (List ℕ)) (before : InState) (workers : ℕ) (all_lines : List Line) (all_answers : List Answer) (accepted : List OfKey) (i : ℕ) (judged : InState) (had : List (List (ℕ × List (ℕ × ℕ)))) (more : List OfKey) : Type 0 where
  pub earlier : List (Line × Answer)
  pub client_is : judged.client ≡ before.client
  pub joined : AreJoined workers earlier had
  pub lawful : AreLawful table before.client judged.state earlier (drop i all_lines) (drop i all_answers) → AreLawful table before.client before.state [] all_lines all_answers
  pub unlawful : (command : ℕ) → 0 < command → IsFirstUnlawful table before.client judged.state earlier (drop i all_lines) (drop i all_answers) command → IsFirstUnlawful table before.client before.state [] all_lines all_answers (i + command)
  pub kinds : kinds_of more ≡ kinds_of accepted
  pub puts : (kinds : List Kind) (made : List (ℕ × Put)) → AreByKey kinds made accepted
      → (so_far : List (ℕ × Put)) × AreByKey kinds so_far more × (so_far ++ puts_from before.client judged.state (drop i all_lines) (drop i all_answers) ≡ made ++ puts_from before.client before.state all_lines all_answers)
  pub end : state_after before.client judged.state (drop i all_lines) (drop i all_answers) ≡ state_after before.client before.state all_lines all_answers
  pub held : MayAllBePut (kinds_of accepted) (held_puts judged.state)
  pub counts : (key : ℕ) → own_count judged.state.knows key + length (held_puts judged.state) ≤ i

module _ (table : List (List ℕ)) (before : InState) (workers : ℕ) (all_lines : List Line) (all_answers : List Answer) (accepted : List OfKey) (i : ℕ) (judged : InState) (had : List (List (ℕ × List (ℕ × ℕ)))) (more : List OfKey) (are : AreJudging table before workers all_lines all_answers accepted i judged had more)
    (line : Line) (answer : Answer) (within : i < length all_lines) (each : length all_answers ≡ length all_lines) (line_is : line ≡ get_or all_lines i line) (answer_is : answer ≡ get_or all_answers i answer) where
  -- the line is the first of those that are left
  lines_left : drop i all_lines ≡ line ∷ drop (i + 1) all_lines
  lines_left = at_drop_more (λ xs. xs) all_lines i line within ∙ ap (λ first. first ∷ drop (i + 1) all_lines) (sym line_is)

  -- and so is its answer
  answers_left : drop i all_answers ≡ answer ∷ drop (i + 1) all_answers
  answers_left = at_drop_more (λ xs. xs) all_answers i answer (omega (arith, within, each)) ∙ ap (λ first. first ∷ drop (i + 1) all_answers) (sym answer_is)

  -- what is said of those that are left, of the line and those after it
  of_left : (P : List Line → List Answer → Type 0) → P (line ∷ drop (i + 1) all_lines) (answer ∷ drop (i + 1) all_answers) → P (drop i all_lines) (drop i all_answers)
  of_left P is = subst (λ (at : List Line × List Answer). P at.0 at.1) (λ j. (sym lines_left j, sym answers_left j)) is

  -- The line's answer is the first that is not lawful.
  pub judged_unlawful : (IsLawful table judged.client judged.state are.earlier line answer → ⊥) → IsFirstUnlawful table before.client before.state [] all_lines all_answers (i + 1)
  judged_unlawful unlawful =
      are.unlawful 1 (omega arith) (of_left (λ left answered. IsFirstUnlawful table before.client judged.state are.earlier left answered 1) (subst (λ client. IsLawful table client judged.state are.earlier line answer → ⊥) are.client_is unlawful))

  -- The line's answer is lawful too.
  pub judged_lawful : (new : InState) (new_had : List (List (ℕ × List (ℕ × ℕ)))) (last : List OfKey) → IsLawful table judged.client judged.state are.earlier line answer → MayTake (kinds_of accepted) line → new.client ≡ judged.client → new.state ≡ after judged.client judged.state line answer
      → AreJoined workers (are.earlier ++ (line, answer) ∷ []) new_had → kinds_of last ≡ kinds_of more → ((kinds : List Kind) (puts : List (ℕ × Put)) → AreByKey kinds puts more → AreByKey kinds (puts ++ puts_by judged.client judged.state line answer) last)
      → AreJudging table before workers all_lines all_answers accepted (i + 1) new new_had last
  judged_lawful new new_had last lawful may client_is state_is joined kinds_are puts_are =
      let reached = after before.client judged.state line answer in
      let earlier = are.earlier ++ (line, answer) ∷ [] in
      let now : new.state ≡ reached = state_is ∙ ap (λ client. after client judged.state line answer) are.client_is in
      let here : IsLawful table before.client judged.state are.earlier line answer = subst (λ client. IsLawful table client judged.state are.earlier line answer) are.client_is lawful in
      record {
        earlier = earlier;
        client_is = client_is ∙ are.client_is;
        joined = joined;
        lawful = λ rest. are.lawful (of_left (AreLawful table before.client judged.state are.earlier) (here, subst (λ state. AreLawful table before.client state earlier (drop (i + 1) all_lines) (drop (i + 1) all_answers)) now rest));
        unlawful = λ command some rest. later here command some (subst (λ state. IsFirstUnlawful table before.client state earlier (drop (i + 1) all_lines) (drop (i + 1) all_answers) command) now rest);
        kinds = kinds_are ∙ are.kinds;
        puts = λ kinds made by_key.
            let so_far = are.puts kinds made by_key in
            let by = puts_by before.client judged.state line answer in (
              so_far.0 ++ by,
              subst (λ client. AreByKey kinds (so_far.0 ++ puts_by client judged.state line answer) last) are.client_is (puts_are kinds so_far.0 so_far.1),
              ap (λ state. (so_far.0 ++ by) ++ puts_from before.client state (drop (i + 1) all_lines) (drop (i + 1) all_answers)) now
                  ∙ append_assoc so_far.0 by (puts_from before.client reached (drop (i + 1) all_lines) (drop (i + 1) all_answers))
                  ∙ sym (λ j. so_far.0 ++ puts_from before.client judged.state (lines_left j) (answers_left j))
                  ∙ so_far.2,
            );
        end = ap (λ state. state_after before.client state (drop (i + 1) all_lines) (drop (i + 1) all_answers)) now
            ∙ sym (λ j. state_after before.client judged.state (lines_left j) (answers_left j)) ∙ are.end;
        held = subst (λ state. MayAllBePut (kinds_of accepted) (held_puts state)) (sym now) (held_after (kinds_of accepted) before.client judged.state line answer may are.held);
        counts = λ key. subst (λ state. own_count state.knows key + length (held_puts state) ≤ i + 1) (sym now) (count_after table before.client judged.state are.earlier line answer key i here (are.counts key));
      }
    where
      later : IsLawful table before.client judged.state are.earlier line answer → (command : ℕ) → 0 < command → IsFirstUnlawful table before.client (after before.client judged.state line answer) (are.earlier ++ (line, answer) ∷ []) (drop (i + 1) all_lines) (drop (i + 1) all_answers) command → IsFirstUnlawful table before.client before.state [] all_lines all_answers (i + 1 + command)
      later here zero some rest = absurd (omega (arith, some))
      later here (suc n) some rest =
          let same : i + suc (suc n) ≡ i + 1 + suc n = omega arith in
          subst (IsFirstUnlawful table before.client before.state [] all_lines all_answers) same (are.unlawful (suc (suc n)) (omega arith) (of_left (λ left answered. IsFirstUnlawful table before.client judged.state are.earlier left answered (suc (suc n))) (here, rest)))

-- All lines were judged.
pub judged_all : (table : List (List ℕ)) (before : InState) (workers : ℕ) (all_lines : List Line) (all_answers : List Answer) (accepted : List OfKey) (i : ℕ) (judged : InState) (had : List (List (ℕ × List (ℕ × ℕ)))) (more : List OfKey) → AreJudging table before workers all_lines all_answers accepted i judged had more → length all_lines ≤ i → length all_answers ≡ length all_lines
    → AreLawful table before.client before.state [] all_lines all_answers × ((kinds : List Kind) (made : List (ℕ × Put)) → AreByKey kinds made accepted → AreByKey kinds (made ++ puts_from before.client before.state all_lines all_answers) more) × (judged.state ≡ state_after before.client before.state all_lines all_answers)
judged_all table before workers all_lines all_answers accepted i judged had more are all each =
    let no_lines : drop i all_lines ≡ [] = at_drop_all (λ xs. xs) all_lines i all in
    let no_answers : drop i all_answers ≡ [] = at_drop_all (λ xs. xs) all_answers i (omega (arith, all, each)) in (
      are.lawful (subst (λ (at : List Line × List Answer). AreLawful table before.client judged.state are.earlier at.0 at.1) (λ j. (sym no_lines j, sym no_answers j)) tt),
      (λ kinds made by_key.
          let so_far = are.puts kinds made by_key in
          subst (λ puts. AreByKey kinds puts more) (sym (append-nil so_far.0) ∙ sym (λ j. so_far.0 ++ puts_from before.client judged.state (no_lines j) (no_answers j)) ∙ so_far.2) so_far.1),
      sym (λ j. state_after before.client judged.state (no_lines j) (no_answers j)) ∙ are.end,
    )
