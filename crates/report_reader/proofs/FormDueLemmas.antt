-- The lines of a report in form are those that are due, and lines that are due are those of one.
use Rattle.std.specs.Prelude.{◌≡◌, ℕ, zero, suc, ◌≤◌, List, [], ◌∷◌, ◌++◌, take, length, map, codes, Option, Some, None}
use Rattle.std.specs.List.{AllZip, AllByRecursion, flat_map}
use Rattle.std.proofs.Common.{refl, sym, ap, subst, ◌∙◌, arith}
use Rattle.std.proofs.lemmas.List.{append_assoc}
use Rattle.std.proofs.lemmas.List.Elements.{recursion_from_All, All-from_recursion}
use Rattle.composed_value.proofs.ValidValueLemmas.{empty_has_kind, empty_is_value}
use Rattle.composed_value.specs.Value.{empty_value}
use Rattle.composed_value.specs.declared.kind.Kind.{Kind}
use Rattle.composed_value.specs.declared.kind.Kind.TheVariants as kinds
use Rattle.placement.specs.Name.{IsName}
use Rattle.session_known.specs.Form.{IsClockIn, IsValueIn, HasFewDots, ValueNamesSessions, NeedsFit, IsShownIn, Fits, IsFinalIn, HasForm, final_places}
use Rattle.composed_value.specs.Keyed.{kind_at}
use Rattle.session_known.specs.declared.report.Answer.{Answer}
use Rattle.session_known.specs.declared.report.Answer.TheVariants as answers
use Rattle.session_known.specs.declared.report.FinalCell.{FinalCell}
use Rattle.session_known.specs.declared.report.Report.{Report}
use Rattle.session_known.specs.declared.script.Level.{Level}
use Rattle.session_known.specs.declared.script.Level.TheVariants.{Eventual, Committed, Causal}
use Rattle.session_known.specs.declared.script.Line.{Line}
use Rattle.session_known.specs.declared.script.Line.TheVariants as lines
use Rattle.session_known.specs.declared.script.Script.{Script}
use Rattle.session_known.specs.declared.script.SessionPlan.{SessionPlan}
use Rattle.report_lines.proofs.LinesLemmas.{head_are, session_line}
use Rattle.report_lines.proofs.NamesLemmas.{TellsNames}
use Rattle.report_lines.proofs.RenderingLemmas.{IsLine}
use Rattle.report_reader.specs.ReadLines.{Due, Exactly, Answered, FinalOf, IsDue, AreLinesRead, exact_dues, session_dues, finals_dues, report_dues}
use Rattle.report_lines.specs.Parts.{AreAnswers, place_of}
use Rattle.report_lines.proofs.RowsLemmas.{both_all}
use Rattle.report_lines.specs.Text.{head_lines, answer_words, answers_lines, sessions_lines, final_words, report_lines, line_text}
use Rattle.report_reader.proofs.DueLemmas.{HasWords}

-- ---- lists, place by place

-- what holds place by place of two parts holds of both
pub both_zip : {A B : Type 0} (R : A → B → Type 0) (xs us : List A) (ys vs : List B) → AllZip R xs ys → AllZip R us vs → AllZip R (xs ++ us) (ys ++ vs)
both_zip R [] us [] vs all more = more
both_zip R [] us (y ∷ ys) vs all more = absurd all
both_zip R (x ∷ xs) us [] vs all more = absurd all
both_zip R (x ∷ xs) us (y ∷ ys) vs all more = (all.0, both_zip R xs us ys vs all.1 more)

-- and the other way round
zip_parts : {A B : Type 0} (R : A → B → Type 0) (xs us : List A) (zs : List B) → AllZip R (xs ++ us) zs → (ys : List B) × (vs : List B) × (zs ≡ ys ++ vs) × AllZip R xs ys × AllZip R us vs
zip_parts R [] us zs all = ([], zs, refl, tt, all)
zip_parts R (x ∷ xs) us [] all = absurd all
zip_parts R (x ∷ xs) us (z ∷ zs) all =
    let parts = zip_parts R xs us zs all.1 in
    (z ∷ parts.0, parts.1, ap (λ zs. z ∷ zs) parts.2, (all.0, parts.3), parts.4)

-- ---- what is due has words

-- answers and final cells are no exact words
answers_have : (level : Level) (lines : List Line) → AllByRecursion HasWords (map (Answered level) lines)
answers_have level [] = tt
answers_have level (line ∷ lines) = (tt, answers_have level lines)

finals_have : (places : List (ℕ × ℕ)) → AllByRecursion HasWords (finals_dues places)
finals_have [] = tt
finals_have (place ∷ places) = (tt, finals_have places)

-- the line of a session has words
sessions_have : (script : Script) → TellsNames script → (plans : List SessionPlan) → AllByRecursion (λ plan. IsName plan.name) plans → AllByRecursion HasWords (flat_map (session_dues script) plans)
sessions_have script names [] named = tt
sessions_have script names (plan ∷ plans) named =
    (session_line script names plan named.0, both_all HasWords (map (Answered plan.level) plan.lines) (flat_map (session_dues script) plans) (answers_have plan.level plan.lines) (sessions_have script names plans named.1))

-- lines of which all words are known
exact_have : (lines : List (List (List ℕ))) → AllByRecursion IsLine lines → AllByRecursion HasWords (exact_dues lines)
exact_have [] all = tt
exact_have (words ∷ lines) all = (all.0, exact_have lines all.1)

-- What is due of a report has words.
pub dues_have : (script : Script) (table : List (List ℕ)) → TellsNames script → AllByRecursion HasWords (report_dues script table)
dues_have script table names =
    both_all HasWords (exact_dues (head_lines script)) _ (exact_have (head_lines script) (head_are script names))
    (both_all HasWords (flat_map (session_dues script) script.sessions) _ (sessions_have script names script.sessions (recursion_from_All (λ (plan : SessionPlan). IsName plan.name) script.sessions names.sessions_named))
    ((refl, tt), both_all HasWords (finals_dues (final_places script table)) (Exactly (codes "end" ∷ []) ∷ []) (finals_have (final_places script table)) ((refl, tt), tt)))

module _ (script : Script) where
  -- ---- the lines of a report in form are those that are due

  -- the lines of a session's answers
  pub answers_due : (level : Level) (lines : List Line) (answers : List Answer) → AllZip (Fits script level) lines answers → AllZip (IsDue script) (map (Answered level) lines) (answers_lines script lines answers)
  answers_due level [] [] fit = tt
  answers_due level [] (answer ∷ answers) fit = absurd fit
  answers_due level (line ∷ lines) [] fit = absurd fit
  answers_due level (line ∷ lines) (answer ∷ answers) fit = ((answer, fit.0, refl), answers_due level lines answers fit.1)

  -- the lines of the sessions
  pub sessions_due : (plans : List SessionPlan) (answers : List (List Answer)) → AllZip (AreAnswers script) plans answers → AllZip (IsDue script) (flat_map (session_dues script) plans) (sessions_lines script plans answers)
  sessions_due [] [] fit = tt
  sessions_due [] (answers ∷ others) fit = absurd fit
  sessions_due (plan ∷ plans) [] fit = absurd fit
  sessions_due (plan ∷ plans) (answers ∷ others) fit =
      (refl, both_zip (IsDue script) (map (Answered plan.level) plan.lines) (flat_map (session_dues script) plans) (answers_lines script plan.lines answers) (sessions_lines script plans others) (answers_due plan.level plan.lines answers fit.0) (sessions_due plans others fit.1))

  -- the lines of the final cells
  pub finals_due : (cells : List FinalCell) → AllByRecursion (IsFinalIn script) cells → AllZip (IsDue script) (finals_dues (map place_of cells)) (map (final_words script) cells)
  finals_due [] all = tt
  finals_due (cell ∷ cells) all = ((cell, record { key_is = refl; worker_is = refl; in_form = all.0 }, refl), finals_due cells all.1)

  -- lines of which all words are known
  exact_due : (lines : List (List (List ℕ))) → AllZip (IsDue script) (exact_dues lines) lines
  exact_due [] = tt
  exact_due (words ∷ lines) = (refl, exact_due lines)

  -- The lines of a report.
  pub report_due : (table : List (List ℕ)) (report : Report) → HasForm script table report → AllZip (IsDue script) (report_dues script table) (report_lines script report)
  report_due table report form =
      let finals = subst (λ places. AllZip (IsDue script) (finals_dues places) (map (final_words script) report.finals)) form.places (finals_due report.finals (recursion_from_All (IsFinalIn script) report.finals form.finals)) in
      both_zip (IsDue script) (exact_dues (head_lines script)) _ (head_lines script) _ (exact_due (head_lines script))
      (both_zip (IsDue script) (flat_map (session_dues script) script.sessions) _ (sessions_lines script script.sessions report.answers) _ (sessions_due script.sessions report.answers form.answers)
      (refl, both_zip (IsDue script) (finals_dues (final_places script table)) (Exactly (codes "end" ∷ []) ∷ []) (map (final_words script) report.finals) ((codes "end" ∷ []) ∷ []) finals (refl, tt)))

  -- ---- lines that are due are those of a report in form

  -- answers with these lines
  answers_of : (level : Level) (lines : List Line) (given : List (List (List ℕ))) → AllZip (IsDue script) (map (Answered level) lines) given → (answers : List Answer) × AllZip (Fits script level) lines answers × (given ≡ answers_lines script lines answers)
  answers_of level [] [] are = ([], tt, refl)
  answers_of level [] (words ∷ given) are = absurd are
  answers_of level (line ∷ lines) [] are = absurd are
  answers_of level (line ∷ lines) (words ∷ given) are =
      let rest = answers_of level lines given are.1 in
      (are.0.0 ∷ rest.0, (are.0.1, rest.1), λ i. are.0.2 i ∷ rest.2 i)

  -- answers of sessions with these lines
  sessions_of : (plans : List SessionPlan) (given : List (List (List ℕ))) → AllZip (IsDue script) (flat_map (session_dues script) plans) given → (answers : List (List Answer)) × AllZip (AreAnswers script) plans answers × (given ≡ sessions_lines script plans answers)
  sessions_of [] [] are = ([], tt, refl)
  sessions_of [] (words ∷ given) are = absurd are
  sessions_of (plan ∷ plans) [] are = absurd are
  sessions_of (plan ∷ plans) (words ∷ given) are =
      let parts = zip_parts (IsDue script) (map (Answered plan.level) plan.lines) (flat_map (session_dues script) plans) given are.1 in
      let first = answers_of plan.level plan.lines parts.0 parts.3 in
      let rest = sessions_of plans parts.1 parts.4 in
      let lines : given ≡ answers_lines script plan.lines first.0 ++ sessions_lines script plans rest.0 = parts.2 ∙ (λ i. first.2 i ++ rest.2 i) in
      (first.0 ∷ rest.0, (first.1, rest.1), λ i. are.0 i ∷ lines i)

  -- final cells with these lines
  finals_of : (places : List (ℕ × ℕ)) (given : List (List (List ℕ))) → AllZip (IsDue script) (finals_dues places) given → (cells : List FinalCell) × (map place_of cells ≡ places) × AllByRecursion (IsFinalIn script) cells × (given ≡ map (final_words script) cells)
  finals_of [] [] are = ([], refl, tt, refl)
  finals_of [] (words ∷ given) are = absurd are
  finals_of (place ∷ places) [] are = absurd are
  finals_of (place ∷ places) (words ∷ given) are =
      let rest = finals_of places given are.1 in
      let cell = are.0.1 in
      (are.0.0 ∷ rest.0, (λ i. (cell.key_is i, cell.worker_is i) ∷ rest.1 i), (cell.in_form, rest.2), λ i. are.0.2 i ∷ rest.3 i)

  -- the one line that is due exactly
  single_of : (exact : List (List ℕ)) (given : List (List (List ℕ))) → AllZip (IsDue script) (Exactly exact ∷ []) given → given ≡ exact ∷ []
  single_of exact [] are = absurd are
  single_of exact (words ∷ []) are = ap (λ words. words ∷ []) are.0
  single_of exact (words ∷ more ∷ given) are = absurd are.1

  -- final cells with these lines between the last two words
  last_of : (places : List (ℕ × ℕ)) (given : List (List (List ℕ))) → AllZip (IsDue script) (Exactly (codes "final" ∷ []) ∷ (finals_dues places ++ Exactly (codes "end" ∷ []) ∷ [])) given → (cells : List FinalCell) × (map place_of cells ≡ places) × AllByRecursion (IsFinalIn script) cells × (given ≡ (codes "final" ∷ []) ∷ (map (final_words script) cells ++ (codes "end" ∷ []) ∷ []))
  last_of places [] are = absurd are
  last_of places (words ∷ given) are =
      let parts = zip_parts (IsDue script) (finals_dues places) (Exactly (codes "end" ∷ []) ∷ []) given are.1 in
      let cells = finals_of places parts.0 parts.3 in
      let end = single_of (codes "end" ∷ []) parts.1 parts.4 in
      let lines : given ≡ map (final_words script) cells.0 ++ (codes "end" ∷ []) ∷ [] = parts.2 ∙ (λ i. cells.3 i ++ end i) in
      (cells.0, cells.1, cells.2, λ i. are.0 i ∷ lines i)

  -- these are the lines of which all words are known
  exact_of : (lines given : List (List (List ℕ))) → AllZip (IsDue script) (exact_dues lines) given → given ≡ lines
  exact_of [] [] are = refl
  exact_of [] (words ∷ given) are = absurd are
  exact_of (words ∷ lines) [] are = absurd are
  exact_of (words ∷ lines) (others ∷ given) are = let first = are.0 in let rest = exact_of lines given are.1 in λ i. first i ∷ rest i

  -- A report with these lines.
  pub report_of : (table : List (List ℕ)) (given : List (List (List ℕ))) → AllZip (IsDue script) (report_dues script table) given → (report : Report) × HasForm script table report × (given ≡ report_lines script report)
  report_of table given are =
      let first = zip_parts (IsDue script) (exact_dues (head_lines script)) _ given are in
      let head = exact_of (head_lines script) first.0 first.3 in
      let parts = zip_parts (IsDue script) (flat_map (session_dues script) script.sessions) _ first.1 first.4 in
      let sessions = sessions_of script.sessions parts.0 parts.3 in
      let last = last_of (final_places script table) parts.1 parts.4 in
      let report : Report = record { answers = sessions.0; finals = last.0 } in
      let lines : first.1 ≡ sessions_lines script script.sessions sessions.0 ++ ((codes "final" ∷ []) ∷ (map (final_words script) last.0 ++ (codes "end" ∷ []) ∷ [])) = parts.2 ∙ (λ i. sessions.2 i ++ last.3 i) in
      (report, record { answers = sessions.1; places = last.1; finals = All-from_recursion (IsFinalIn script) last.0 last.2 }, first.2 ∙ (λ i. head i ++ lines i))

  -- ---- what is due can be

  -- the clock that counts nothing
  no_clock : IsClockIn script []
  no_clock = record { is_clock = record { ascending = refl; are_entries = All-from_recursion _ [] tt }; sessions = All-from_recursion _ [] tt }

  -- and of no session
  no_sessions : (kind : Kind) → ValueNamesSessions script (empty_value kind)
  no_sessions kinds.Versions = All-from_recursion _ [] tt
  no_sessions kinds.Max = tt
  no_sessions kinds.Or = tt
  no_sessions kinds.Set = tt
  no_sessions kinds.Map = tt
  no_sessions kinds.Last = tt
  no_sessions kinds.Counter = All-from_recursion _ [] tt
  no_sessions kinds.OrSet = (All-from_recursion _ [] tt, All-from_recursion _ [] tt)

  -- and no dots
  no_dots : (kind : Kind) → HasFewDots (empty_value kind)
  no_dots kinds.Counter = omega arith
  no_dots kind = tt

  -- the value of no put
  no_value : (kind : Kind) → IsValueIn script kind (empty_value kind)
  no_value kind = record { is_value = empty_is_value kind; of_kind = empty_has_kind kind; sessions = no_sessions kind; few = no_dots kind }

  -- what a session of the level may be shown as needs
  abbrev no_needs : Level → Option (List (ℕ × List (ℕ × ℕ)))
  no_needs Causal = Some []
  no_needs level = None

  -- fit the level
  no_needs_fit : (level : Level) → NeedsFit script level (no_needs level)
  no_needs_fit Causal = record { are_needs = record { ascending = refl; are_entries = All-from_recursion _ [] tt }; keys = All-from_recursion _ [] tt; sessions = All-from_recursion _ [] tt }
  no_needs_fit Eventual = tt
  no_needs_fit Committed = tt

  -- the first worker shows that nothing was put
  no_shown : (level : Level) (key : ℕ) → 1 ≤ script.config.workers → IsShownIn script level key 1 (record { clock = []; top = 0; value = empty_value (kind_at script.kinds key); needs = no_needs level })
  no_shown level key some = record {
    worker_is = (omega arith, some);
    clock_is = no_clock;
    top_fits = omega arith;
    value_is = no_value (kind_at script.kinds key);
    needs_are = no_needs_fit level;
  }

  -- each line may have an answer
  some_answer : (level : Level) (line : Line) → 1 ≤ script.config.workers → (answer : Answer) × Fits script level line answer
  some_answer level (lines.Put key payload) some = (answers.Put 0 0, (omega arith, omega arith))
  some_answer level (lines.Get key named) some = (answers.Got 1 _, no_shown level key some)
  some_answer level (lines.Await key session count) some = (answers.Got 1 _, no_shown level key some)
  some_answer level lines.Begin some = (answers.Begun, tt)
  some_answer level lines.Commit some = (answers.Committed 0 0, (omega arith, omega arith, λ none. refl))
  some_answer level lines.Abort some = (answers.Aborted 0, omega arith)

  -- each line that is due can be
  some_line : (due : Due) → 1 ≤ script.config.workers → (words : List (List ℕ)) × IsDue script due words
  some_line (Exactly words) some = (words, refl)
  some_line (Answered level line) some =
      let answer = some_answer level line some in
      (answer_words script line answer.0, (answer.0, answer.1, refl))
  some_line (FinalOf key worker) some =
      let cell : FinalCell = record { key = key; worker = worker; clock = []; top = 0; value = empty_value (kind_at script.kinds key) } in
      let in_form : IsFinalIn script cell = record { clock_is = no_clock; top_fits = omega arith; value_is = no_value (kind_at script.kinds key) } in
      (final_words script cell, (cell, record { key_is = refl; worker_is = refl; in_form = in_form }, refl))

  -- and so can all
  some_lines : (dues : List Due) → 1 ≤ script.config.workers → (given : List (List (List ℕ))) × AllZip (IsDue script) dues given
  some_lines [] some = ([], tt)
  some_lines (due ∷ dues) some =
      let line = some_line due some in
      let rest = some_lines dues some in
      (line.0 ∷ rest.0, (line.1, rest.1))

  -- The first lines that were read are those of lines that are due.
  pub begun : (dues : List Due) (place : ℕ) (bytes rest : List ℕ) → 1 ≤ script.config.workers → place ≤ length dues → AreLinesRead script (take place dues) bytes rest → (given : List (List (List ℕ))) × AllZip (IsDue script) dues given × (place ≤ length given) × (bytes ≡ flat_map line_text (take place given) ++ rest)
  begun dues zero bytes rest some few are =
      let lines = some_lines dues some in
      (lines.0, lines.1, omega arith, are)
  begun [] (suc place) bytes rest some few are = absurd (omega (arith, few))
  begun (due ∷ dues) (suc place) bytes rest some few (later, line, are) =
      let more = begun dues place later rest some (omega (arith, few)) are in
      let text : bytes ≡ (line_text line.words ++ flat_map line_text (take place more.0)) ++ rest = line.begin ∙ ap (λ bytes. line_text line.words ++ bytes) more.3 ∙ sym (append_assoc (line_text line.words) (flat_map line_text (take place more.0)) rest) in
      (line.words ∷ more.0, (line.is_due, more.1), omega (arith, more.2), text)
