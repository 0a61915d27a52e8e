-- Lines that are due, got one after another, and the first that could not be got.
use Rattle.std.specs.Prelude.{◌≡◌, ℕ, suc, ◌+◌, ◌<◌, Bool, true, false, not, ◌==◌, List, [], ◌∷◌, ◌++◌, take, drop, length, map, get_or, Result, Ok, Err, IfErr}
use Rattle.std.specs.List.{AllZip, AllByRecursion, flat_map, join_with_byte}
use Rattle.std.specs.Result.{IsErrAnd}
use Rattle.std.proofs.Common.{refl, sym, ap, subst, ◌∙◌, arith}
use Rattle.std.proofs.Math.Seq.{take-suc}
use Rattle.std.proofs.lemmas.Bool.{both_ways, eqb-true}
use Rattle.std.proofs.lemmas.Grind.{flat_map-append}
use Rattle.std.proofs.lemmas.List.Folds.{length-flat_map-take}
use Rattle.std.proofs.lemmas.List.{append_assoc, append-nil, length-append, map-append, take_more, take-append-drop}
use Rattle.session_known.specs.Form.{Fits, IsFinalIn}
use Rattle.session_known.specs.declared.report.Answer.{Answer}
use Rattle.session_known.specs.declared.report.FinalCell.{FinalCell}
use Rattle.session_known.specs.declared.script.Level.{Level}
use Rattle.session_known.specs.declared.script.Line.{Line}
use Rattle.session_known.specs.declared.script.Script.{Script}
use Rattle.session_known.specs.declared.script.SessionPlan.{SessionPlan}
use Rattle.report_lines.proofs.NamesLemmas.{TellsNames}
use Rattle.report_reader.specs.ReadLines.{Due, Exactly, Answered, FinalOf, IsDue, IsFinalAt, AreLinesRead, IsOut, HasTaken, HasGot, HasGotAnswer, HasGotAnswers, HasGotSession, HasGotSessions, HasGotExactly, HasGotFinal, HasGotFinals, IsPartFault, exact_dues, answers_dues, session_dues, sessions_dues, finals_dues}
use Rattle.report_reader.specs.Cuts.{has_byte}
use Rattle.report_lines.proofs.RenderingLemmas.{Passes, IsLine, in_line, cut_once, line_after, row_passes, passes_weaker}
use Rattle.report_lines.specs.Parts.{AreAnswers, place_of}
use Rattle.report_lines.proofs.RowsLemmas.{both_all}
use Rattle.report_lines.specs.Text.{session_words, answer_words, answers_lines, sessions_lines, final_words, bare_line, line_text}
use Rattle.report_reader.specs.declared.ReportFault.{ReportFault}
use Rattle.report_reader.specs.declared.ReportFault.TheVariants.{Form, NoMemory}
use Rattle.report_reader.proofs.DueLemmas.{HasWords, due_line, out_before, out_after, lines_read}
use Rattle.report_reader.proofs.FormDueLemmas.{both_zip}
use Rattle.report_reader.proofs.ReadRows.{lacks_passes, no_cut}

-- ---- one line

-- a byte that is another
abbrev pub is_not : ℕ → ℕ → Bool
is_not c b = not (b == c)

-- a byte of a line is no line feed
no_feed : (s : Bool) (b : ℕ) → (b == 10) ≡ s → in_line b ≡ true → not s ≡ true
no_feed false b is passes = refl
no_feed true b is passes = absurd (both_ways (in_line b) (ap in_line (eqb-true b 10 is)) passes)

-- the bytes of a line are no line feeds
pub line_lacks : (words : List (List ℕ)) → IsLine words → Passes (is_not 10) (join_with_byte 32 words)
line_lacks words is = passes_weaker in_line (is_not 10) (λ b passes. no_feed (b == 10) b refl passes) (join_with_byte 32 words) (row_passes words is)

-- a text up to a line feed is the line that stands there
line_is : (text after rest : List ℕ) (words : List (List ℕ)) → IsLine words → has_byte 10 text ≡ false → text ++ 10 ∷ after ≡ line_text words ++ rest → (text ≡ join_with_byte 32 words) × (after ≡ rest)
line_is text after rest words is lacks same =
    cut_once (is_not 10) 10 refl text (join_with_byte 32 words) after rest (lacks_passes 10 text lacks) (line_lacks words is) (same ∙ line_after words rest)

-- a fault that is handed on is the one that was given
pub fault_told : {X : Type 0} (r : Result X ReportFault) (P : ReportFault → Type 0) {given fault : ReportFault} → IsErrAnd r (λ other. other ≡ given) → given ≡ fault → P fault → IfErr r P
fault_told (Ok x) P is told out = absurd is
fault_told (Err other) P is told out = subst P (sym (is ∙ told)) out

module _ (script : Script) (names : TellsNames script) where
  -- where no line feed is left, no line is
  pub out_at_end : (due : Due) (bytes : List ℕ) → has_byte 10 bytes ≡ false → IsOut script due bytes
  out_at_end due bytes lacks rest line = no_cut 10 bytes (join_with_byte 32 line.words) rest lacks (line.begin ∙ line_after line.words rest)

  -- a line whose text is none that is due is out of form
  pub out_here : (due : Due) (bytes text after : List ℕ) → HasWords due → bytes ≡ text ++ 10 ∷ after → has_byte 10 text ≡ false → ((words : List (List ℕ)) → IsDue script due words → text ≡ join_with_byte 32 words → ⊥) → IsOut script due bytes
  out_here due bytes text after has begin lacks none rest line =
      none line.words line.is_due (line_is text after rest line.words (due_line script names due line.words has line.is_due) lacks (sym begin ∙ line.begin)).0

-- ---- one part after another

module _ (script : Script) where
  -- the line of these words was got where it was taken
  pub got_line : (words : List (List ℕ)) (text : List ℕ) (before after : List ℕ × ℕ) → text ≡ bare_line words → HasTaken text before after → HasGot script (Exactly words ∷ []) (words ∷ []) before after
  got_line words text before after same taken = record {
    are_due = (refl, tt);
    begin = taken.0 ∙ ap (λ text. text ++ 10 ∷ after.0) same ∙ sym (line_after words after.0) ∙ ap (λ text. text ++ after.0) (sym (append-nil (line_text words)));
    number = taken.1;
  }

  -- what was got of one part and then of another
  pub got_both : (dues others : List Due) (lines more : List (List (List ℕ))) (before middle after : List ℕ × ℕ) → HasGot script dues lines before middle → HasGot script others more middle after → HasGot script (dues ++ others) (lines ++ more) before after
  got_both dues others lines more before middle after got next = record {
    are_due = both_zip (IsDue script) dues others lines more got.are_due next.are_due;
    begin = got.begin ∙ ap (λ bytes. flat_map line_text lines ++ bytes) next.begin ∙ sym (append_assoc (flat_map line_text lines) (flat_map line_text more) after.0) ∙ ap (λ text. text ++ after.0) (sym (flat_map-append line_text lines more));
    number = omega (arith, got.number, next.number, length-append dues others);
  }

  -- what was got was read
  pub got_read : (dues : List Due) (lines : List (List (List ℕ))) (before after : List ℕ × ℕ) → HasGot script dues lines before after → AreLinesRead script dues before.0 after.0
  got_read dues lines before after got = subst (λ bytes. AreLinesRead script dues bytes after.0) (sym got.begin) (lines_read script dues lines after.0 got.are_due)

  -- where the first line that is due is out of form
  pub fault_first : (due : Due) (dues : List Due) (before : List ℕ × ℕ) (line : ℕ) → line ≡ before.1 → IsOut script due before.0 → IsPartFault script (due ∷ dues) before (Form line)
  fault_first due dues before line is out = (0, is ∙ omega arith, out)

  -- a fault of the first part is one of both
  pub fault_before : (dues others : List Due) (before : List ℕ × ℕ) (fault : ReportFault) → IsPartFault script dues before fault → IsPartFault script (dues ++ others) before fault
  fault_before dues others before (Form line) is = (is.0, is.1, out_before script dues others is.0 before.0 is.2)
  fault_before dues others before NoMemory is = tt

  -- and so is one of the second part after the first
  pub fault_after : (dues others : List Due) (lines : List (List (List ℕ))) (before middle : List ℕ × ℕ) (fault : ReportFault) → HasGot script dues lines before middle → IsPartFault script others middle fault → IsPartFault script (dues ++ others) before fault
  fault_after dues others lines before middle (Form line) got is =
      let number : line ≡ before.1 + (length dues + is.0) = omega (arith, got.number, is.1) in
      (length dues + is.0, number, out_after script dues others is.0 before.0 middle.0 (got_read dues lines before middle got) is.2)
  fault_after dues others lines before middle NoMemory got is = tt

-- ---- item by item

-- a list is its first items, the next, and the rest
parts_of : {X : Type 0} (xs : List X) (count : ℕ) (x : X) → count < length xs → x ≡ get_or xs count x → (take count xs ++ x ∷ []) ++ drop (suc count) xs ≡ xs
parts_of xs count x within is =
    ap (λ (front : List _). front ++ drop (suc count) xs) (ap (λ x. take count xs ++ x ∷ []) is ∙ sym (take-suc xs count x within)) ∙ take-append-drop (suc count) xs

-- and so are the images
all_of : {X Y : Type 0} (f : X → Y) (xs : List X) (count : ℕ) (x : X) → count < length xs → x ≡ get_or xs count x → (map f (take count xs) ++ f x ∷ []) ++ map f (drop (suc count) xs) ≡ map f xs
all_of f xs count x within is =
    ap (λ (front : List _). front ++ map f (drop (suc count) xs)) (sym (map-append f (take count xs) (x ∷ []))) ∙ sym (map-append f (take count xs ++ x ∷ []) (drop (suc count) xs)) ∙ ap (map f) (parts_of xs count x within is)

-- one more, place by place
zip_push : {A B : Type 0} (R : A → B → Type 0) (xs : List A) (x : A) (ys : List B) (y : B) → AllZip R xs ys → R x y → AllZip R (xs ++ x ∷ []) (ys ++ y ∷ [])
zip_push R xs x ys y all one = both_zip R xs (x ∷ []) ys (y ∷ []) all (one, tt)

-- the lines of one more answer
answers_push : (script : Script) (R : Line → Answer → Type 0) (xs : List Line) (x : Line) (ys : List Answer) (y : Answer) → AllZip R xs ys → answers_lines script (xs ++ x ∷ []) (ys ++ y ∷ []) ≡ answers_lines script xs ys ++ answer_words script x y ∷ []
answers_push script R [] x [] y all = refl
answers_push script R [] x (b ∷ ys) y all = absurd all
answers_push script R (a ∷ xs) x [] y all = absurd all
answers_push script R (a ∷ xs) x (b ∷ ys) y all = ap (λ lines. answer_words script a b ∷ lines) (answers_push script R xs x ys y all.1)

-- the lines of one more session
sessions_push : (script : Script) (R : SessionPlan → List Answer → Type 0) (xs : List SessionPlan) (x : SessionPlan) (ys : List (List Answer)) (y : List Answer) → AllZip R xs ys → sessions_lines script (xs ++ x ∷ []) (ys ++ y ∷ []) ≡ sessions_lines script xs ys ++ (session_words script x ∷ answers_lines script x.lines y)
sessions_push script R [] x [] y all = ap (λ lines. session_words script x ∷ lines) (append-nil (answers_lines script x.lines y))
sessions_push script R [] x (b ∷ ys) y all = absurd all
sessions_push script R (a ∷ xs) x [] y all = absurd all
sessions_push script R (a ∷ xs) x (b ∷ ys) y all =
    ap (λ lines. session_words script a ∷ lines)
    (ap (λ lines. answers_lines script a.lines b ++ lines) (sessions_push script R xs x ys y all.1) ∙ sym (append_assoc (answers_lines script a.lines b) (sessions_lines script xs ys) (session_words script x ∷ answers_lines script x.lines y)))

-- what is due of one more session
dues_push : (script : Script) (xs : List SessionPlan) (x : SessionPlan) → sessions_dues script (xs ++ x ∷ []) ≡ sessions_dues script xs ++ session_dues script x
dues_push script xs x = flat_map-append (session_dues script) xs (x ∷ []) ∙ ap (λ dues. sessions_dues script xs ++ dues) (append-nil (session_dues script x))

-- the answers to some lines of a session
pub record AreAnswersFor (script : Script) (level : Level) (commands : List Line) (before now : List ℕ × ℕ) (answers : List Answer) : Type 0 where
  pub fit : AllZip (Fits script level) commands answers
  pub got : HasGotAnswers script level commands before now answers

-- those to the first lines
abbrev pub AreAnswersSo : Script → Level → List Line → List ℕ × ℕ → ℕ → List ℕ × ℕ → List Answer → Type 0
AreAnswersSo script level commands before count now answers = AreAnswersFor script level (take count commands) before now answers

-- one more
pub answers_next : (script : Script) (level : Level) (commands : List Line) (before : List ℕ × ℕ) (count : ℕ) (now after : List ℕ × ℕ) (answers pushed : List Answer) (command : Line) (answer : Answer) → count < length commands → command ≡ get_or commands count command → AreAnswersSo script level commands before count now answers → Fits script level command answer → HasGotAnswer script level command now after answer → pushed ≡ answers ++ answer ∷ [] → AreAnswersSo script level commands before (count + 1) after pushed
answers_next script level commands before count now after answers pushed command answer within is so fits got push =
    let first : take count commands ++ command ∷ [] ≡ take (count + 1) commands = ap (λ line. take count commands ++ line ∷ []) is ∙ sym (take_more commands count command within) in
    let dues : answers_dues level (take count commands) ++ Answered level command ∷ [] ≡ answers_dues level (take count commands ++ command ∷ []) = sym (map-append (Answered level) (take count commands) (command ∷ [])) in
    let both = got_both script (answers_dues level (take count commands)) (Answered level command ∷ []) (answers_lines script (take count commands) answers) (answer_words script command answer ∷ []) before now after so.got got in
    let all : HasGot script (answers_dues level (take count commands ++ command ∷ [])) (answers_lines script (take count commands ++ command ∷ []) (answers ++ answer ∷ [])) before after =
    subst (λ lines. HasGot script (answers_dues level (take count commands ++ command ∷ [])) lines before after) (sym (answers_push script (Fits script level) (take count commands) command answers answer so.fit))
    (subst (λ dues. HasGot script dues (answers_lines script (take count commands) answers ++ answer_words script command answer ∷ []) before after) dues both) in
    subst (AreAnswersSo script level commands before (count + 1) after) (sym push)
    (subst (λ front. AreAnswersFor script level front before after (answers ++ answer ∷ [])) first (record { fit = zip_push (Fits script level) (take count commands) command answers answer so.fit fits; got = all }))

-- where one of the lines of a session is out of form
pub answers_fault : (script : Script) (level : Level) (commands : List Line) (before : List ℕ × ℕ) (count : ℕ) (now : List ℕ × ℕ) (answers : List Answer) (command : Line) (fault : ReportFault) → count < length commands → command ≡ get_or commands count command → AreAnswersSo script level commands before count now answers → IsPartFault script (Answered level command ∷ []) now fault → IsPartFault script (answers_dues level commands) before fault
answers_fault script level commands before count now answers command fault within is so out =
    let here = fault_after script (answers_dues level (take count commands)) (Answered level command ∷ []) (answers_lines script (take count commands) answers) before now fault so.got out in
    let more = fault_before script (answers_dues level (take count commands) ++ Answered level command ∷ []) (answers_dues level (drop (suc count) commands)) before fault here in
    subst (λ dues. IsPartFault script dues before fault) (all_of (Answered level) commands count command within is) more

-- ---- session by session

-- the answers of some sessions
pub record AreSessionsFor (script : Script) (plans : List SessionPlan) (before now : List ℕ × ℕ) (answers : List (List Answer)) : Type 0 where
  pub fit : AllZip (AreAnswers script) plans answers
  pub got : HasGotSessions script plans before now answers

-- those of the first ones
abbrev pub AreSessionsSo : Script → List SessionPlan → List ℕ × ℕ → ℕ → List ℕ × ℕ → List (List Answer) → Type 0
AreSessionsSo script plans before count now answers = AreSessionsFor script (take count plans) before now answers

-- one more
pub sessions_next : (script : Script) (plans : List SessionPlan) (before : List ℕ × ℕ) (count : ℕ) (now after : List ℕ × ℕ) (others pushed : List (List Answer)) (plan : SessionPlan) (answers : List Answer) → count < length plans → plan ≡ get_or plans count plan → AreSessionsSo script plans before count now others → AreAnswers script plan answers → HasGotSession script plan now after answers → pushed ≡ others ++ answers ∷ [] → AreSessionsSo script plans before (count + 1) after pushed
sessions_next script plans before count now after others pushed plan answers within is so fit got push =
    let front = take count plans in
    let lines : List (List (List ℕ)) = session_words script plan ∷ answers_lines script plan.lines answers in
    let first : front ++ plan ∷ [] ≡ take (count + 1) plans = ap (λ plan. take count plans ++ plan ∷ []) is ∙ sym (take_more plans count plan within) in
    let both = got_both script (sessions_dues script front) (session_dues script plan) (sessions_lines script front others) lines before now after so.got got in
    let all : HasGot script (sessions_dues script (front ++ plan ∷ [])) (sessions_lines script (front ++ plan ∷ []) (others ++ answers ∷ [])) before after =
    subst (λ lines. HasGot script (sessions_dues script (front ++ plan ∷ [])) lines before after) (sym (sessions_push script (AreAnswers script) front plan others answers so.fit))
    (subst (λ dues. HasGot script dues (sessions_lines script front others ++ lines) before after) (sym (dues_push script front plan)) both) in
    subst (AreSessionsSo script plans before (count + 1) after) (sym push)
    (subst (λ front. AreSessionsFor script front before after (others ++ answers ∷ [])) first (record { fit = zip_push (AreAnswers script) front plan others answers so.fit fit; got = all }))

-- the numbers of the lines of one more stay within those of all
pub sessions_room : (script : Script) (plans : List SessionPlan) (before : List ℕ × ℕ) (count : ℕ) (now : List ℕ × ℕ) (others : List (List Answer)) (plan : SessionPlan) (most : ℕ) → count < length plans → plan ≡ get_or plans count plan → AreSessionsSo script plans before count now others → before.1 + length (sessions_dues script plans) < most → now.1 + length (session_dues script plan) < most
sessions_room script plans before count now others plan most within is so room =
    let dues = ap (λ plan. length (session_dues script plan)) is in
    omega (arith, so.got.number, length-flat_map-take (session_dues script) plans count plan within, dues, room)

-- where one of the lines of a session is out of form
pub sessions_fault : (script : Script) (plans : List SessionPlan) (before : List ℕ × ℕ) (count : ℕ) (now : List ℕ × ℕ) (others : List (List Answer)) (plan : SessionPlan) (fault : ReportFault) → count < length plans → plan ≡ get_or plans count plan → AreSessionsSo script plans before count now others → IsPartFault script (session_dues script plan) now fault → IsPartFault script (sessions_dues script plans) before fault
sessions_fault script plans before count now others plan fault within is so out =
    let front = take count plans in
    let here = fault_after script (sessions_dues script front) (session_dues script plan) (sessions_lines script front others) before now fault so.got out in
    let more = fault_before script (sessions_dues script front ++ session_dues script plan) (sessions_dues script (drop (suc count) plans)) before fault here in
    let dues : (sessions_dues script front ++ session_dues script plan) ++ sessions_dues script (drop (suc count) plans) ≡ sessions_dues script plans =
    ap (λ dues. dues ++ sessions_dues script (drop (suc count) plans)) (sym (dues_push script front plan)) ∙ sym (flat_map-append (session_dues script) (front ++ plan ∷ []) (drop (suc count) plans)) ∙ ap (flat_map (session_dues script)) (parts_of plans count plan within is) in
    subst (λ dues. IsPartFault script dues before fault) dues more

-- ---- cell by cell

-- the final cells at some places
pub record AreFinalsFor (script : Script) (places : List (ℕ × ℕ)) (before now : List ℕ × ℕ) (cells : List FinalCell) : Type 0 where
  pub places_are : map place_of cells ≡ places
  pub in_form : AllByRecursion (IsFinalIn script) cells
  pub got : HasGotFinals script places before now cells

-- those at the first ones
abbrev pub AreFinalsSo : Script → List (ℕ × ℕ) → List ℕ × ℕ → ℕ → List ℕ × ℕ → List FinalCell → Type 0
AreFinalsSo script places before count now cells = AreFinalsFor script (take count places) before now cells

-- one more
pub finals_next : (script : Script) (places : List (ℕ × ℕ)) (before : List ℕ × ℕ) (count : ℕ) (now after : List ℕ × ℕ) (cells pushed : List FinalCell) (place : ℕ × ℕ) (cell : FinalCell) → count < length places → place ≡ get_or places count place → AreFinalsSo script places before count now cells → IsFinalAt script place.0 place.1 cell → HasGotFinal script place.0 place.1 now after cell → pushed ≡ cells ++ cell ∷ [] → AreFinalsSo script places before (count + 1) after pushed
finals_next script places before count now after cells pushed place cell within is so at got push =
    let front = take count places in
    let first : front ++ place ∷ [] ≡ take (count + 1) places = ap (λ place. take count places ++ place ∷ []) is ∙ sym (take_more places count place within) in
    let both = got_both script (finals_dues front) (FinalOf place.0 place.1 ∷ []) (map (final_words script) cells) (final_words script cell ∷ []) before now after so.got got in
    let all : HasGot script (finals_dues (front ++ place ∷ [])) (map (final_words script) (cells ++ cell ∷ [])) before after =
    subst (λ lines. HasGot script (finals_dues (front ++ place ∷ [])) lines before after) (sym (map-append (final_words script) cells (cell ∷ [])))
    (subst (λ dues. HasGot script dues (map (final_words script) cells ++ final_words script cell ∷ []) before after) (sym (map-append (λ (place : ℕ × ℕ). FinalOf place.0 place.1) front (place ∷ []))) both) in
    let here : place_of cell ≡ place = λ i. (at.key_is i, at.worker_is i) in
    let places_are : map place_of (cells ++ cell ∷ []) ≡ front ++ place ∷ [] = map-append place_of cells (cell ∷ []) ∙ (λ i. so.places_are i ++ here i ∷ []) in
    subst (AreFinalsSo script places before (count + 1) after) (sym push)
    (subst (λ front. AreFinalsFor script front before after (cells ++ cell ∷ [])) first (record { places_are = places_are; in_form = both_all (IsFinalIn script) cells (cell ∷ []) so.in_form (at.in_form, tt); got = all }))

-- where one of the final cells is out of form
pub finals_fault : (script : Script) (places : List (ℕ × ℕ)) (before : List ℕ × ℕ) (count : ℕ) (now : List ℕ × ℕ) (cells : List FinalCell) (place : ℕ × ℕ) (fault : ReportFault) → count < length places → place ≡ get_or places count place → AreFinalsSo script places before count now cells → IsPartFault script (FinalOf place.0 place.1 ∷ []) now fault → IsPartFault script (finals_dues places) before fault
finals_fault script places before count now cells place fault within is so out =
    let here = fault_after script (finals_dues (take count places)) (FinalOf place.0 place.1 ∷ []) (map (final_words script) cells) before now fault so.got out in
    let more = fault_before script (finals_dues (take count places) ++ FinalOf place.0 place.1 ∷ []) (finals_dues (drop (suc count) places)) before fault here in
    subst (λ dues. IsPartFault script dues before fault) (all_of (λ (place : ℕ × ℕ). FinalOf place.0 place.1) places count place within is) more

-- ---- lines of which all words are known, one by one

-- one more
pub exact_next : (script : Script) (all : List (List (List ℕ))) (before : List ℕ × ℕ) (count : ℕ) (now after : List ℕ × ℕ) (words : List (List ℕ)) → count < length all → words ≡ get_or all count words → HasGotExactly script (take count all) before now → HasGotExactly script (words ∷ []) now after → HasGotExactly script (take (count + 1) all) before after
exact_next script all before count now after words within is so got =
    let front = take count all in
    let first : front ++ words ∷ [] ≡ take (count + 1) all = ap (λ words. take count all ++ words ∷ []) is ∙ sym (take_more all count words within) in
    let both = got_both script (exact_dues front) (Exactly words ∷ []) front (words ∷ []) before now after so got in
    subst (λ lines. HasGotExactly script lines before after) first (subst (λ dues. HasGot script dues (front ++ words ∷ []) before after) (sym (map-append Exactly front (words ∷ []))) both)

-- where one of them does not stand
pub exact_fault : (script : Script) (all : List (List (List ℕ))) (before : List ℕ × ℕ) (count : ℕ) (now : List ℕ × ℕ) (words : List (List ℕ)) (fault : ReportFault) → count < length all → words ≡ get_or all count words → HasGotExactly script (take count all) before now → IsPartFault script (Exactly words ∷ []) now fault → IsPartFault script (exact_dues all) before fault
exact_fault script all before count now words fault within is so out =
    let here = fault_after script (exact_dues (take count all)) (Exactly words ∷ []) (take count all) before now fault so out in
    let more = fault_before script (exact_dues (take count all) ++ Exactly words ∷ []) (exact_dues (drop (suc count) all)) before fault here in
    subst (λ dues. IsPartFault script dues before fault) (all_of Exactly all count words within is) more
