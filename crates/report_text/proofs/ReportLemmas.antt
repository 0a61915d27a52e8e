-- The texts of a report's parts, and what a report in form names.
use Rattle.std.proofs.Common.{◌≡◌, ◌≢◌, ℕ, ◌<◌, min, List, [], ◌∷◌, ◌++◌, map, take, length, get_or, Some, codes, sym, ap, refl, subst, ◌∙◌, append_assoc, arith}
use Rattle.std.proofs.lemmas.List.{take_all}
use Rattle.std.proofs.lemmas.List.Concat.{flat_map-append}
use Rattle.std.proofs.lemmas.List.Elements.{All-nil, All-cons, All-head, All-tail, All-weaker}
use Rattle.std.proofs.lemmas.Bool.{ne_eqb}
use Rattle.std.specs.Fmt.{decimal}
use Rattle.std.proofs.lemmas.Option.{slice_get-get_or}
use Rattle.std.proofs.lemmas.Slice.Zip.{length-zip, get_or-zip}
use Rattle.std.specs.List.{All, AllZip, flat_map, slice_get, zip}
use Rattle.placement.proofs.ConfigLemmas.{placement_is}
use Rattle.session_known.specs.Form.{Fits, HasFewDots, HasForm, IsFinalIn, final_places}
use Rattle.session_known.specs.Script.{IsValidScript, IsValidSession, MayStand}
use Rattle.session_known.specs.declared.report.Answer.{Answer}
use Rattle.session_known.specs.declared.report.Answer.TheVariants as answers
use Rattle.session_known.specs.declared.report.FinalCell.{FinalCell}
use Rattle.session_known.specs.declared.report.Report.{Report}
use Rattle.session_known.specs.declared.report.Shown.{Shown}
use Rattle.session_known.specs.declared.script.Level.{Level}
use Rattle.session_known.specs.declared.script.Line.{Line}
use Rattle.session_known.specs.declared.script.Line.TheVariants as lines
use Rattle.session_known.specs.declared.script.Script.{Script}
use Rattle.session_known.specs.declared.script.SessionPlan.{SessionPlan}
use Rattle.report_lines.specs.Text.{head_lines, number_at, commit_words, session_words, answer_words, answers_lines, sessions_lines, final_words, line_text, text_of}
use Rattle.report_text.specs.Writes.{AreAtPlaces, MayAnswer, session_text}

-- ---- pairs of two lists

-- the pair at a place
pub zip_at : {A B : Type 0} (ks : List A) (vs : List B) (i : ℕ) (k : A) (v : B) → i < length ks → i < length vs → k ≡ get_or ks i k → v ≡ get_or vs i v → slice_get (zip ks vs) i ≡ Some (k, v)
zip_at {A} {B} ks vs i k v left right k_is v_is =
    let pair : A × B = (k, v) in
    let here : get_or (zip ks vs) i pair ≡ (k, v) = get_or-zip ks vs i pair left right ∙ ap (λ (key : A). (key, get_or vs i v)) (sym k_is) ∙ ap (λ (value : B). (k, value)) (sym v_is) in
    slice_get-get_or (zip ks vs) i pair (omega (arith, length-zip ks vs)) ∙ ap Some here

-- all pairs
pub zip_all : {A B : Type 0} (ks : List A) (vs : List B) (n : ℕ) → n ≡ min (length ks) (length vs) → zip ks vs ≡ take n (zip ks vs)
zip_all ks vs n n_is = sym (take_all n (zip ks vs) (omega (arith, length-zip ks vs)))

-- what holds of two lists side by side holds of each pair
pub All-zip : {A B : Type 0} (R : A → B → Type 0) (ks : List A) (vs : List B) → AllZip R ks vs → All (λ pair. R pair.0 pair.1) (zip ks vs)
All-zip R [] [] h = All-nil (λ pair. R pair.0 pair.1)
All-zip R [] (v ∷ vs) h = absurd h
All-zip R (k ∷ ks) [] h = absurd h
All-zip R (k ∷ ks) (v ∷ vs) h = All-cons (λ pair. R pair.0 pair.1) (k, v) (zip ks vs) h.0 (All-zip R ks vs h.1)

-- ---- texts

-- the text of a session's answers, answer by answer
pub answers_text : (script : Script) (lines : List Line) (answers : List Answer) → flat_map line_text (answers_lines script lines answers) ≡ flat_map (λ pair. line_text (answer_words script pair.0 pair.1)) (zip lines answers)
answers_text script [] answers = refl
answers_text script (line ∷ lines) [] = refl
answers_text script (line ∷ lines) (answer ∷ answers) = ap (λ rest. line_text (answer_words script line answer) ++ rest) (answers_text script lines answers)

-- the text of the sessions, session by session
pub sessions_text : (script : Script) (plans : List SessionPlan) (others : List (List Answer)) → flat_map line_text (sessions_lines script plans others) ≡ flat_map (λ pair. session_text script pair.0 pair.1) (zip plans others)
sessions_text script [] others = refl
sessions_text script (plan ∷ plans) [] = refl
sessions_text script (plan ∷ plans) (answers ∷ others) =
    let head = line_text (session_words script plan) in
    let lines = answers_lines script plan.lines answers in
    ap (λ rest. head ++ rest) (flat_map-append line_text lines (sessions_lines script plans others) ∙ ap (λ rest. flat_map line_text lines ++ rest) (sessions_text script plans others))
    ∙ sym (append_assoc head (flat_map line_text lines) (flat_map (λ pair. session_text script pair.0 pair.1) (zip plans others)))

-- the text of the final cells and of the end, cell by cell
finals_text : (script : Script) (finals : List FinalCell) (later : List (List (List ℕ))) → flat_map line_text (map (final_words script) finals ++ later) ≡ flat_map (λ cell. line_text (final_words script cell)) finals ++ flat_map line_text later
finals_text script [] later = refl
finals_text script (cell ∷ finals) later =
    ap (λ rest. line_text (final_words script cell) ++ rest) (finals_text script finals later)
    ∙ sym (append_assoc (line_text (final_words script cell)) (flat_map (λ cell. line_text (final_words script cell)) finals) (flat_map line_text later))

-- the text of a report, by what is written one after another
pub report_text : (script : Script) (report : Report) → text_of script report ≡ flat_map line_text (head_lines script) ++ (flat_map line_text (sessions_lines script script.sessions report.answers) ++ (codes "final\n" ++ (flat_map (λ cell. line_text (final_words script cell)) report.finals ++ codes "end\n")))
report_text script report =
    let head = flat_map line_text (head_lines script) in
    let sessions = sessions_lines script script.sessions report.answers in
    let cells = map (final_words script) report.finals ++ (codes "end" ∷ []) ∷ [] in
    flat_map-append line_text (head_lines script) (sessions ++ ((codes "final" ∷ []) ∷ cells))
    ∙ ap (λ rest. head ++ rest) (flat_map-append line_text sessions ((codes "final" ∷ []) ∷ cells) ∙ ap (λ rest. flat_map line_text sessions ++ (codes "final\n" ++ rest)) (finals_text script report.finals ((codes "end" ∷ []) ∷ [])))

-- the line of an answer, of the line and the answer that are there
pub answer_line : (script : Script) (line line' : Line) (answer answer' : Answer) → line ≡ line' → answer ≡ answer' → line_text (answer_words script line' answer') ≡ line_text (answer_words script line answer)
answer_line script line line' answer answer' line_is answer_is =
    ap (λ line. line_text (answer_words script line answer')) (sym line_is) ∙ ap (λ answer. line_text (answer_words script line answer)) (sym answer_is)

-- the line of a commit that put something
pub commit_line : (puts lamport : ℕ) → puts ≢ 0 → line_text (codes "commit" ∷ number_at (decimal puts) (decimal lamport)) ≡ line_text (commit_words puts lamport)
commit_line puts lamport some = rw (ne_eqb puts 0 some) refl

-- ---- what a report in form names

-- each answer of a session is one that its line may have
answers_may : (script : Script) (table : List (List ℕ)) (level : Level) (lines : List Line) (answers : List Answer) → All (MayStand script table level) lines → AllZip (Fits script level) lines answers → AllZip (MayAnswer script) lines answers
answers_may script table level [] [] stand fit = tt
answers_may script table level [] (answer ∷ answers) stand fit = absurd fit
answers_may script table level (line ∷ lines) [] stand fit = absurd fit
answers_may script table level (line ∷ lines) (answer ∷ answers) stand fit = (
  (table, level, All-head (MayStand script table level) line lines stand, fit.0),
  answers_may script table level lines answers (All-tail (MayStand script table level) line lines stand) fit.1,
)

-- and so in each session
sessions_may : (script : Script) (table : List (List ℕ)) (plans : List SessionPlan) (others : List (List Answer)) → All (IsValidSession script table) plans → AllZip (λ plan answers. AllZip (Fits script plan.level) plan.lines answers) plans others → AllZip (λ plan answers. AllZip (MayAnswer script) plan.lines answers) plans others
sessions_may script table [] [] valid fit = tt
sessions_may script table [] (answers ∷ others) valid fit = absurd fit
sessions_may script table (plan ∷ plans) [] valid fit = absurd fit
sessions_may script table (plan ∷ plans) (answers ∷ others) valid fit = (
  answers_may script table plan.level plan.lines answers (All-head (IsValidSession script table) plan plans valid).lines fit.0,
  sessions_may script table plans others (All-tail (IsValidSession script table) plan plans valid) fit.1,
)

-- Each answer of a report in form is one that its line may have.
pub report_may : (script : Script) (table : List (List ℕ)) (report : Report) → IsValidScript script table → HasForm script table report → AllZip (λ plan answers. AllZip (MayAnswer script) plan.lines answers) script.sessions report.answers
report_may script table report valid form = sessions_may script table script.sessions report.answers valid.sessions form.answers

-- Its final cells stand where those of the script do.
pub report_places : (script : Script) (table : List (List ℕ)) (report : Report) → IsValidScript script table → HasForm script table report → AreAtPlaces script report.finals
report_places script table report valid form = form.places ∙ ap (final_places script) (placement_is script.config table valid.placed)

-- what such an answer shows has few dots
pub got_few : (script : Script) (line : Line) (answer : Answer) (worker : ℕ) (shown : Shown) → MayAnswer script line answer → answer ≡ answers.Got worker shown → HasFewDots shown.value
got_few script line answer worker shown may is = of_line line (subst (Fits script may.1 line) is may.3)
  where
    of_line : (line : Line) → Fits script may.1 line (answers.Got worker shown) → HasFewDots shown.value
    of_line (lines.Get key named) fit = fit.value_is.few
    of_line (lines.Await key session count) fit = fit.value_is.few
    of_line line fit = absurd fit

-- and so have its final cells
pub finals_few : (script : Script) (table : List (List ℕ)) (report : Report) → HasForm script table report → All (λ cell. HasFewDots cell.value) report.finals
finals_few script table report form = All-weaker (IsFinalIn script) (λ cell. HasFewDots cell.value) (λ cell is. is.value_is.few) report.finals form.finals
