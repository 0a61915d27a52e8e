-- The lines of a report in form have words, and the bytes of these are those of words.
use Rattle.std.specs.Prelude.{ℕ, ◌==◌, nat_le, Bool, true, false, cond, List, [], ◌∷◌, map, length, codes, Option, Some, None}
use Rattle.std.specs.Fmt.{decimal}
use Rattle.std.specs.List.{AllZip, AllByRecursion, range_with_len}
use Rattle.std.proofs.Common.{refl, arith}
use Rattle.std.proofs.lemmas.List.Elements.{recursion_from_All}
use Rattle.std.proofs.lemmas.List.Sums.{list_all-from_AllPass}
use Rattle.lattice_laws.specs.Spelling.{is_spelling_byte}
use Rattle.composed_value.specs.declared.kind.Kind.{Kind}
use Rattle.composed_value.specs.declared.kind.Kind.TheVariants as kinds
use Rattle.composed_value.specs.declared.value.Value.{Value}
use Rattle.placement.specs.Config.{placed}
use Rattle.placement.specs.Name.{IsName}
use Rattle.session_known.specs.Form.{IsClockIn, IsValueIn, NeedsFit, IsShownIn, IsAgainIn, Fits, IsFinalIn, HasForm, replicas_ascending}
use Rattle.composed_value.specs.Keyed.{kind_at}
use Rattle.session_known.specs.Script.{key_name, session_name}
use Rattle.session_known.specs.declared.report.Answer.{Answer}
use Rattle.session_known.specs.declared.report.Answer.TheVariants as answers
use Rattle.session_known.specs.declared.report.FinalCell.{FinalCell}
use Rattle.session_known.specs.declared.report.Report.{Report}
use Rattle.session_known.specs.declared.report.Shown.{Shown}
use Rattle.session_known.specs.declared.script.Level.{Level}
use Rattle.session_known.specs.declared.script.Level.TheVariants.{Eventual, Committed, Causal}
use Rattle.session_known.specs.declared.script.Line.{Line}
use Rattle.session_known.specs.declared.script.Line.TheVariants as lines
use Rattle.session_known.specs.declared.script.Script.{Script}
use Rattle.session_known.specs.declared.script.SessionPlan.{SessionPlan}
use Rattle.report_lines.proofs.AnswersLemmas.{committed_words}
use Rattle.report_lines.proofs.ClocksLemmas.{clock_counted, clock_passes, needs_needed, needs_passes}
use Rattle.report_lines.proofs.NamesLemmas.{TellsNames, spelled_made, decimal_spelled, session_spelled, key_spelled}
use Rattle.report_lines.proofs.RenderingLemmas.{Passes, word_marks, in_word, IsLine, both_pass}
use Rattle.report_lines.proofs.RowsLemmas.{all_map, both_all}
use Rattle.report_lines.specs.Text.{clock_word, worker_word, kind_word, level_word, cell_words, needs_words, shown_words, again_words, answer_words, answers_lines, key_words, placed_words, head_lines, after_words, session_words, sessions_lines, final_words, report_lines}
use Rattle.report_lines.proofs.ValuesLemmas.{value_passes}

-- words whose bytes are those of words
abbrev pub AreWords : List (List ℕ) → Type 0
AreWords words = AllByRecursion (Passes in_word) words

-- a number is a word
number_passes : (n : ℕ) → Passes in_word (decimal n)
number_passes n = spelled_made word_marks (decimal n) (decimal_spelled n)

-- and so is a worker
worker_passes : (worker : ℕ) → Passes in_word (worker_word worker)
worker_passes worker = both_pass in_word (codes "@") (decimal worker) refl (number_passes worker)

-- the words of a commit
committed_line : (none : Bool) (puts lamport : ℕ) → IsLine (committed_words none puts lamport)
committed_line true puts lamport = (refl, (refl, tt))
committed_line false puts lamport = (refl, (number_passes puts, (refl, (number_passes lamport, tt))))

-- the name of a level is a word
level_passes : (level : Level) → Passes in_word (level_word level)
level_passes Eventual = refl
level_passes Committed = refl
level_passes Causal = refl

-- the word of a kind is a word
kind_passes : (kind : Kind) → Passes in_word (kind_word kind)
kind_passes kinds.Max = refl
kind_passes kinds.Or = refl
kind_passes kinds.Set = refl
kind_passes kinds.Map = refl
kind_passes kinds.Last = refl
kind_passes kinds.Versions = refl
kind_passes kinds.Counter = refl
kind_passes kinds.OrSet = refl

-- numbers are words
numbers_pass : (numbers : List ℕ) → AreWords (map decimal numbers)
numbers_pass [] = tt
numbers_pass (number ∷ numbers) = (number_passes number, numbers_pass numbers)

module _ (script : Script) (names : TellsNames script) where
  -- the name of a key is a word
  key_passes : (key : ℕ) → Passes in_word (key_name script key)
  key_passes key = spelled_made word_marks (key_name script key) (key_spelled script names key)

  -- and so is that of a session
  session_passes : (session : ℕ) → Passes in_word (session_name script session)
  session_passes session = spelled_made word_marks (session_name script session) (session_spelled script names session)

  -- a clock in form
  clock_in_passes : (clock : List (ℕ × ℕ)) → IsClockIn script clock → Passes in_word (clock_word script clock)
  clock_in_passes clock is = clock_passes script names word_marks refl refl clock (clock_counted script clock is)

  -- a cell
  cell_line : (kind : Kind) (clock : List (ℕ × ℕ)) (top : ℕ) (value : Value) (later : List (List ℕ)) → IsClockIn script clock → IsValueIn script kind value → AreWords later → AreWords (cell_words script clock top value later)
  cell_line kind clock top value later is_clock is_value are =
      (refl, (clock_in_passes clock is_clock, (refl, (number_passes top, (refl, (value_passes script names kind value is_value, are))))))

  -- needs
  needs_line : (level : Level) (needs : Option (List (ℕ × List (ℕ × ℕ)))) → NeedsFit script level needs → AreWords (needs_words script needs)
  needs_line level None fit = tt
  needs_line Causal (Some needs) fit = (refl, (needs_passes script names needs (needs_needed script needs fit), tt))
  needs_line Eventual (Some needs) fit = absurd fit
  needs_line Committed (Some needs) fit = absurd fit

  -- what a worker showed
  shown_line : (level : Level) (key worker : ℕ) (shown : Shown) → IsShownIn script level key worker shown → AreWords (shown_words script worker shown)
  shown_line level key worker shown is =
      (worker_passes worker, cell_line (kind_at script.kinds key) shown.clock shown.top shown.value (needs_words script shown.needs) is.clock_is is.value_is (needs_line level shown.needs is.needs_are))

  -- where asking ended
  again_line : (level : Level) (asks worker : ℕ) (clock : List (ℕ × ℕ)) → IsAgainIn script level asks worker clock → AreWords (again_words script asks worker clock)
  again_line level asks worker clock is = (refl, (number_passes asks, (worker_passes worker, (refl, (clock_in_passes clock is.clock_is, tt)))))

  -- The words of an answer to a line.
  pub answer_line : (level : Level) (line : Line) (answer : Answer) → Fits script level line answer → IsLine (answer_words script line answer)
  answer_line level (lines.Put key payload) (answers.Put number lamport) fit = (refl, (key_passes key, (number_passes number, (refl, (number_passes lamport, tt)))))
  answer_line level (lines.Put key payload) answers.Held fit = (refl, (key_passes key, (refl, tt)))
  answer_line level (lines.Put key payload) answers.Worn fit = (refl, (key_passes key, (refl, tt)))
  answer_line level (lines.Get key named) (answers.Got worker shown) fit = (refl, (key_passes key, shown_line level key worker shown fit))
  answer_line level (lines.Get key named) (answers.Again asks worker clock) fit = (refl, (key_passes key, again_line level asks worker clock fit))
  answer_line level (lines.Await key session count) (answers.Got worker shown) fit = (refl, (key_passes key, (session_passes session, (number_passes count, shown_line level key worker shown fit))))
  answer_line level (lines.Await key session count) (answers.Again asks worker clock) fit = (refl, (key_passes key, (session_passes session, (number_passes count, (refl, (refl, again_line level asks worker clock fit))))))
  answer_line level lines.Begin answers.Begun fit = (refl, tt)
  answer_line level lines.Commit (answers.Committed puts lamport) fit = committed_line (puts == 0) puts lamport
  answer_line level lines.Commit answers.Worn fit = (refl, (refl, tt))
  answer_line level lines.Abort (answers.Aborted puts) fit = (refl, (number_passes puts, tt))
  answer_line level line answer fit = absurd (omega arith)

  -- the words of a key
  pub key_line : (key : ℕ) (workers : List ℕ) → IsLine (key_words script key workers)
  key_line key workers = (refl, (key_passes key, (kind_passes (kind_at script.kinds key), (refl, numbers_pass workers))))

  -- the lines of keys
  keys_are : (keys : List ℕ) → AllByRecursion IsLine (map (placed_words script) keys)
  keys_are [] = tt
  keys_are (key ∷ keys) = (key_line key (replicas_ascending script (placed script.config) key), keys_are keys)

  -- where there are any
  keys_are_if : (are : Bool) (keys : List ℕ) → AllByRecursion IsLine (cond are (map (placed_words script) keys) [])
  keys_are_if true keys = keys_are keys
  keys_are_if false keys = tt

  -- The lines before those of the sessions.
  pub head_are : AllByRecursion IsLine (head_lines script)
  head_are = ((refl, (refl, (number_passes script.version, tt))), keys_are_if (nat_le 2 script.version) (range_with_len 1 (length script.config.keys)))

  -- the words of the session that one comes after
  after_passes : (after : Option ℕ) → AreWords (after_words script after)
  after_passes None = tt
  after_passes (Some session) = (refl, (session_passes session, tt))

  -- the words of a session
  pub session_line : (plan : SessionPlan) → IsName plan.name → IsLine (session_words script plan)
  session_line plan named = (refl, (spelled_made word_marks plan.name (list_all-from_AllPass is_spelling_byte plan.name named.allowed), (level_passes plan.level, after_passes plan.after)))

  -- the words of a final cell
  pub final_line : (cell : FinalCell) → IsFinalIn script cell → IsLine (final_words script cell)
  final_line cell is = (key_passes cell.key, (worker_passes cell.worker, cell_line (kind_at script.kinds cell.key) cell.clock cell.top cell.value [] is.clock_is is.value_is tt))

  -- ---- the lines of a report

  -- the lines of a session's answers
  answers_are : (level : Level) (lines : List Line) (answers : List Answer) → AllZip (Fits script level) lines answers → AllByRecursion IsLine (answers_lines script lines answers)
  answers_are level [] [] fit = tt
  answers_are level [] (answer ∷ answers) fit = tt
  answers_are level (line ∷ lines) [] fit = tt
  answers_are level (line ∷ lines) (answer ∷ answers) fit = (answer_line level line answer fit.0, answers_are level lines answers fit.1)

  -- the lines of the sessions
  sessions_are : (plans : List SessionPlan) (answers : List (List Answer)) → AllByRecursion (λ plan. IsName plan.name) plans → AllZip (λ plan answers. AllZip (Fits script plan.level) plan.lines answers) plans answers → AllByRecursion IsLine (sessions_lines script plans answers)
  sessions_are [] [] named fit = tt
  sessions_are [] (answers ∷ others) named fit = tt
  sessions_are (plan ∷ plans) [] named fit = tt
  sessions_are (plan ∷ plans) (answers ∷ others) named fit =
      (session_line plan named.0, both_all IsLine (answers_lines script plan.lines answers) (sessions_lines script plans others) (answers_are plan.level plan.lines answers fit.0) (sessions_are plans others named.1 fit.1))

  -- The lines of a report in form have words.
  pub lines_are : (table : List (List ℕ)) (report : Report) → HasForm script table report → AllByRecursion IsLine (report_lines script report)
  lines_are table report form =
      let named = recursion_from_All (λ (plan : SessionPlan). IsName plan.name) script.sessions names.sessions_named in
      let finals = all_map (IsFinalIn script) IsLine (final_words script) final_line report.finals (recursion_from_All (IsFinalIn script) report.finals form.finals) in
      both_all IsLine (head_lines script) _ head_are
      (both_all IsLine (sessions_lines script script.sessions report.answers) _ (sessions_are script.sessions report.answers named form.answers)
      ((refl, tt), both_all IsLine (map (final_words script) report.finals) ((codes "end" ∷ []) ∷ []) finals ((refl, tt), tt)))
