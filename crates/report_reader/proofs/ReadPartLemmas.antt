-- The parts of a report got one after another, where its final cells stand, and how many lines it has.
use Rattle.std.specs.Prelude.{◌≡◌, ℕ, ◌+◌, ◌*◌, ◌≤◌, ◌==◌, nat_le, Bool, true, false, cond, List, [], ◌∷◌, ◌++◌, filter, length, map, take, get_or, ◌<◌, decimal, codes, sum_by, Option, Some, None, Result, Ok, Err, IfErr}
use Rattle.std.specs.Fmt.{digits}
use Rattle.std.specs.List.{flat_map, join_with_byte, list_any, range_with_len}
use Rattle.std.proofs.Common.{refl, sym, ap, ◌∙◌, arith}
use Rattle.std.proofs.lemmas.Grind.{flat_map-append}
use Rattle.std.proofs.lemmas.List.Elements.{filter-append}
use Rattle.std.proofs.lemmas.List.Filters.{length-filter_both}
use Rattle.std.proofs.lemmas.List.FromFn.{get_or-range_with_len, length-range_with_len}
use Rattle.std.proofs.lemmas.List.Sums.{sum_by-cons}
use Rattle.std.proofs.lemmas.List.{append_assoc, append-nil, get_or-map, length-append, length-map, length-take, map-append, take_more}
use Rattle.composed_value.specs.Keyed.{kind_at}
use Rattle.composed_value.specs.declared.kind.Kind.{Kind}
use Rattle.placement.specs.Config.{placed, replicas_on}
use Rattle.placement.specs.Name.{IsName}
use Rattle.placement.proofs.ConfigLemmas.{placement_is}
use Rattle.placement.proofs.RingPoints.{range_more}
use Rattle.session_known.specs.Form.{final_places, replicas_ascending}
use Rattle.session_known.specs.Script.{IsValidScript, key_name, session_name}
use Rattle.placement.specs.Asked.{replicas_of}
use Rattle.session_known.specs.declared.script.Script.{Script}
use Rattle.session_known.specs.declared.script.SessionPlan.{SessionPlan}
use Rattle.report_lines.proofs.LinesLemmas.{key_line, session_line}
use Rattle.report_lines.proofs.NamesLemmas.{TellsNames}
use Rattle.report_reader.specs.ReadLines.{Due, Exactly, Answered, IsOut, IsNotNext, HasGot, HasGotExactly, IsPartFault, session_dues, sessions_dues, finals_dues, report_dues, exact_dues, replicas_within, places_at}
use Rattle.report_reader.specs.Cuts.{has_byte}
use Rattle.report_lines.proofs.RenderingLemmas.{bare_is, line_after, spaced-append, spaced-one}
use Rattle.report_lines.specs.Text.{head_lines, kind_word, level_word, key_words, placed_words, after_words, session_words, bare_line, spaced}
use Rattle.report_reader.specs.declared.ReportFault.{ReportFault}
use Rattle.report_reader.specs.declared.ReportFault.TheVariants.{Form}
use Rattle.report_reader.proofs.ReadLineLemmas.{is_not, line_lacks, got_both, fault_first, fault_before, fault_after}
use Rattle.report_reader.proofs.ReadRows.{lacks_failing}

-- ---- lines that are wanted

-- where a line that is wanted does not stand, no line that is due does
pub wanted_out : (script : Script) (words : List (List ℕ)) (wanted bytes : List ℕ) → wanted ≡ bare_line words → IsNotNext wanted bytes → IsOut script (Exactly words) bytes
wanted_out script words wanted bytes is none rest line =
    none rest (line.begin ∙ line_after line.words rest ∙ ap (λ text. text ++ 10 ∷ rest) (ap (join_with_byte 32) line.is_due ∙ sym is))

-- the line of a session has no line feed
pub session_lacks : (script : Script) → TellsNames script → (plan : SessionPlan) → IsName plan.name → has_byte 10 (bare_line (session_words script plan)) ≡ false
session_lacks script names plan named =
    lacks_failing (is_not 10) 10 refl (bare_line (session_words script plan)) (line_lacks (session_words script plan) (session_line script names plan named))

-- what follows from what is said of a fault
pub fault_so : {X E : Type 0} (r : Result X E) (P Q : E → Type 0) → IfErr r Q → ((fault : E) → Q fault → P fault) → IfErr r P
fault_so (Ok x) P Q is each = tt
fault_so (Err fault) P Q is each = each fault is

-- ---- where final cells stand

-- a filter of the last
last_out : (p : ℕ → Bool) (n : ℕ) → p n ≡ false → filter p (n ∷ []) ≡ []
last_out p n none = rw none refl

last_in : (p : ℕ → Bool) (n : ℕ) → p n ≡ true → filter p (n ∷ []) ≡ n ∷ []
last_in p n one = rw one refl

-- the next worker is none
pub replicas_skip : (replicas : List ℕ) (workers : ℕ) → list_any (λ replica. replica == workers + 1) replicas ≡ false → replicas_within replicas (workers + 1) ≡ replicas_within replicas workers
replicas_skip replicas workers none =
    let p = λ (worker : ℕ). list_any (λ replica. replica == worker) replicas in
    let next : 1 + workers ≡ workers + 1 = omega arith in
    ap (filter p) (range_more 1 workers) ∙ filter-append p (range_with_len 1 workers) ((1 + workers) ∷ []) ∙ ap (λ rest. replicas_within replicas workers ++ rest) (last_out p (1 + workers) (ap p next ∙ none)) ∙ append-nil (replicas_within replicas workers)

-- the next worker is one
pub replicas_take : (replicas : List ℕ) (workers : ℕ) → list_any (λ replica. replica == workers + 1) replicas ≡ true → replicas_within replicas (workers + 1) ≡ replicas_within replicas workers ++ (workers + 1) ∷ []
replicas_take replicas workers one =
    let p = λ (worker : ℕ). list_any (λ replica. replica == worker) replicas in
    let next : 1 + workers ≡ workers + 1 = omega arith in
    ap (filter p) (range_more 1 workers) ∙ filter-append p (range_with_len 1 workers) ((1 + workers) ∷ []) ∙ ap (λ rest. replicas_within replicas workers ++ rest) (last_in p (1 + workers) (ap p next ∙ one) ∙ ap (λ n. n ∷ []) next)

-- the images of some items after others, with that of one more
pub mapped_more : {X Y : Type 0} (f : X → Y) (before items pushed : List Y) (xs : List X) (count : ℕ) (x : X) → count < length xs → x ≡ get_or xs count x → items ≡ before ++ map f (take count xs) → pushed ≡ items ++ f x ∷ [] → pushed ≡ before ++ map f (take (count + 1) xs)
mapped_more f before items pushed xs count x within is so push =
    push ∙ ap (λ items. items ++ f x ∷ []) so ∙ append_assoc before (map f (take count xs)) (f x ∷ [])
    ∙ ap (λ more. before ++ more) (sym (map-append f (take count xs) (x ∷ [])) ∙ ap (map f) (ap (λ x. take count xs ++ x ∷ []) is ∙ sym (take_more xs count x within)))

-- numbers after spaces, with one more
pub numbers_more : (before text space pushed : List ℕ) (numbers : List ℕ) (count number : ℕ) → count < length numbers → number ≡ get_or numbers count number → text ≡ before ++ spaced (map decimal (take count numbers)) → space ≡ text ++ codes " " → pushed ≡ space ++ decimal number → pushed ≡ before ++ spaced (map decimal (take (count + 1) numbers))
numbers_more before text space pushed numbers count number within is so spacing push =
    push ∙ ap (λ space. space ++ decimal number) spacing ∙ append_assoc text (codes " ") (decimal number) ∙ (λ i. so i ++ spaced-one (decimal number) i)
    ∙ append_assoc before (spaced (map decimal (take count numbers))) (spaced (decimal number ∷ []))
    ∙ ap (λ more. before ++ more) (spaced-append (map decimal (take count numbers)) (decimal number ∷ []) ∙ ap spaced (sym (map-append decimal (take count numbers) (number ∷ [])) ∙ ap (map decimal) (ap (λ n. take count numbers ++ n ∷ []) is ∙ sym (take_more numbers count number within))))

-- the places of the final cells of a key
abbrev pub places_of_key : Script → List (List ℕ) → ℕ → List (ℕ × ℕ)
places_of_key script table key = map (λ worker. (key, worker)) (replicas_ascending script table key)

-- one key more
places_more : (script : Script) (table : List (List ℕ)) (keys : ℕ) → flat_map (places_of_key script table) (range_with_len 1 (keys + 1)) ≡ flat_map (places_of_key script table) (range_with_len 1 keys) ++ places_of_key script table (keys + 1)
places_more script table keys =
    let next : 1 + keys ≡ keys + 1 = omega arith in
    ap (flat_map (places_of_key script table)) (range_more 1 keys) ∙ flat_map-append (places_of_key script table) (range_with_len 1 keys) ((1 + keys) ∷ [])
    ∙ ap (λ places. flat_map (places_of_key script table) (range_with_len 1 keys) ++ places) (append-nil (places_of_key script table (1 + keys)) ∙ ap (places_of_key script table) next)

-- the places of one key more
pub places_next : (script : Script) (table : List (List ℕ)) (keys : ℕ) (items pushed : List (ℕ × ℕ)) (replicas : List ℕ) → items ≡ flat_map (places_of_key script table) (range_with_len 1 keys) → replicas ≡ replicas_of table (keys + 1) → pushed ≡ items ++ places_at (keys + 1) (replicas_within replicas script.config.workers) → pushed ≡ flat_map (places_of_key script table) (range_with_len 1 (keys + 1))
places_next script table keys items pushed replicas so are push =
    push ∙ (λ i. so i ++ places_at (keys + 1) (replicas_within (are i) script.config.workers)) ∙ sym (places_more script table keys)

-- ---- how many lines there are

-- those of the sessions
pub sessions_length : (script : Script) (plans : List SessionPlan) → length (sessions_dues script plans) ≡ length plans + sum_by (λ plan. length plan.lines) plans
sessions_length script [] = omega arith
sessions_length script (plan ∷ plans) =
    omega (arith, length-append (session_dues script plan) (sessions_dues script plans), length-map plan.lines (Answered plan.level), sessions_length script plans, sum_by-cons (λ (plan : SessionPlan). length plan.lines) plan plans)

-- those of the final cells
places_length : (script : Script) (table : List (List ℕ)) → script.config.workers ≤ 8 → (keys : List ℕ) → length (flat_map (places_of_key script table) keys) ≤ length keys * 8
places_length script table few [] = omega arith
places_length script table few (key ∷ keys) =
    let workers = length-range_with_len 1 script.config.workers in
    let replicas = length-filter_both (λ worker. list_any (λ replica. replica == worker) (replicas_of table key)) _ (λ worker. refl) (range_with_len 1 script.config.workers) in
    omega (arith, length-append (places_of_key script table key) (flat_map (places_of_key script table) keys), length-map {B = ℕ × ℕ} (replicas_ascending script table key) (λ worker. (key, worker)), places_length script table few keys, workers, replicas, few)

-- A report has few lines.
pub few_lines : (script : Script) (table : List (List ℕ)) → IsValidScript script table → (length (sessions_dues script script.sessions) ≤ 4112) × (length (final_places script table) ≤ 1024)
few_lines script table valid =
    let keys = length-range_with_len 1 (length script.config.keys) in
    let places = places_length script table valid.config.workers_most (range_with_len 1 (length script.config.keys)) in
    (omega (arith, sessions_length script script.sessions, valid.few_sessions, valid.few_lines), omega (arith, places, keys, valid.config.keys_most))

-- ---- the parts of a report

-- the words of the line before the final cells, and of the last
abbrev pub final_word : List (List ℕ)
final_word = codes "final" ∷ []

abbrev pub end_word : List (List ℕ)
end_word = codes "end" ∷ []

-- ---- the lines before the sessions

-- those of the keys
abbrev pub all_keys : Script → List (List (List ℕ))
all_keys script = map (placed_words script) (range_with_len 1 (length script.config.keys))

-- as many as keys
pub keys_count : (script : Script) → length (all_keys script) ≡ length script.config.keys
keys_count script = length-map (range_with_len 1 (length script.config.keys)) (placed_words script) ∙ length-range_with_len 1 (length script.config.keys)

-- and as many keys as a placement has
pub table_count : (script : Script) (table : List (List ℕ)) → IsValidScript script table → length table ≡ length script.config.keys
table_count script table valid = ap length valid.placed.replicas ∙ length-map script.config.keys (replicas_on valid.placed.ring script.config)

-- the line of a key is the one at its place
pub key_at : (script : Script) (i : ℕ) → i < length script.config.keys → placed_words script (i + 1) ≡ get_or (all_keys script) i (placed_words script (i + 1))
key_at script i within =
    let keys = range_with_len 1 (length script.config.keys) in
    let place : get_or keys i 0 ≡ 1 + i = get_or-range_with_len 1 (length script.config.keys) i 0 within in
    let next : 1 + i ≡ i + 1 = omega arith in
    sym (get_or-map (placed_words script) keys i 0 (placed_words script (i + 1)) (omega (arith, length-range_with_len 1 (length script.config.keys))) ∙ ap (placed_words script) (place ∙ next))

-- how many lines of keys were got
pub keys_before : (script : Script) (before now : List ℕ × ℕ) (count : ℕ) → HasGotExactly script (take count (all_keys script)) before now → now.1 ≤ before.1 + count
keys_before script before now count got = omega (arith, got.number, length-map (take count (all_keys script)) Exactly, length-take count (all_keys script))

-- the line of a key has no line feed
pub key_lacks : (script : Script) → TellsNames script → (key : ℕ) → has_byte 10 (bare_line (placed_words script key)) ≡ false
key_lacks script names key =
    lacks_failing (is_not 10) 10 refl (bare_line (placed_words script key)) (line_lacks (placed_words script key) (key_line script names key (replicas_ascending script (placed script.config) key)))

-- the replicas that a placement has of a key
pub replicas_are : (script : Script) (table : List (List ℕ)) → IsValidScript script table → (key : ℕ) (replicas : List ℕ) → replicas ≡ replicas_of table key → replicas_within replicas script.config.workers ≡ replicas_ascending script (placed script.config) key
replicas_are script table valid key replicas are = ap (λ replicas. replicas_within replicas script.config.workers) (are ∙ ap (λ table. replicas_of table key) (placement_is script.config table valid.placed))

-- the line of a key, piece by piece
pub key_line_is : (script : Script) (key : ℕ) (workers : List ℕ) (kind : Kind) (line : List ℕ) → kind ≡ kind_at script.kinds key → line ≡ ((((codes "key " ++ key_name script key) ++ codes " ") ++ kind_word kind) ++ codes " on") ++ spaced (map decimal workers) → line ≡ bare_line (key_words script key workers)
unfolding spaced
key_line_is script key workers kind line kind_is is =
    let name = key_name script key in
    let numbers = spaced (map decimal workers) in
    is
    ∙ append_assoc (((codes "key " ++ name) ++ codes " ") ++ kind_word kind) (codes " on") numbers
    ∙ append_assoc ((codes "key " ++ name) ++ codes " ") (kind_word kind) (codes " on" ++ numbers)
    ∙ append_assoc (codes "key " ++ name) (codes " ") (kind_word kind ++ (codes " on" ++ numbers))
    ∙ append_assoc (codes "key ") name (codes " " ++ (kind_word kind ++ (codes " on" ++ numbers)))
    ∙ ap (λ kind. codes "key " ++ (name ++ (codes " " ++ (kind_word kind ++ (codes " on" ++ numbers))))) kind_is
    ∙ bare_is (codes "key") (name ∷ kind_word (kind_at script.kinds key) ∷ codes "on" ∷ map decimal workers)

-- what a session comes after, piece by piece
pub after_is : (script : Script) (session : ℕ) (after : Option ℕ) (before line : List ℕ) → after ≡ Some session → line ≡ (before ++ codes " after ") ++ session_name script session → line ≡ before ++ spaced (after_words script after)
unfolding spaced
after_is script session after before line after_some is =
    let name = session_name script session in
    is ∙ append_assoc before (codes " after ") name ∙ ap (λ name. before ++ (codes " after " ++ name)) (sym (append-nil name)) ∙ ap (λ after. before ++ spaced (after_words script after)) (sym after_some)

-- and where it comes after none
pub after_none : (script : Script) (after : Option ℕ) (before : List ℕ) → after ≡ None → before ≡ before ++ spaced (after_words script after)
unfolding spaced
after_none script after before none = sym (append-nil before) ∙ ap (λ after. before ++ spaced (after_words script after)) (sym none)

-- the line of a session
pub session_line_is : (script : Script) (plan : SessionPlan) (line : List ℕ) → line ≡ (((codes "session " ++ plan.name) ++ codes " ") ++ level_word plan.level) ++ spaced (after_words script plan.after) → line ≡ bare_line (session_words script plan)
unfolding spaced
session_line_is script plan line is =
    let level = level_word plan.level in
    let after = spaced (after_words script plan.after) in
    is
    ∙ append_assoc ((codes "session " ++ plan.name) ++ codes " ") level after
    ∙ append_assoc (codes "session " ++ plan.name) (codes " ") (level ++ after)
    ∙ append_assoc (codes "session ") plan.name (codes " " ++ (level ++ after))
    ∙ bare_is (codes "session") (plan.name ∷ level ∷ after_words script plan.after)

-- the first line
abbrev pub first_words : ℕ → List (List ℕ)
first_words version = codes "anna" ∷ codes "report" ∷ decimal version ∷ []

-- as it is written in each version
pub first_one : codes "anna report 1" ≡ bare_line (first_words 1)
unfolding digits
first_one = refl

pub first_two : codes "anna report 2" ≡ bare_line (first_words 2)
unfolding digits
first_two = refl

-- in version 1 it is all
pub head_one : (script : Script) → script.version ≡ 1 → head_lines script ≡ first_words 1 ∷ []
head_one script is = λ i. first_words (is i) ∷ cond (nat_le 2 (is i)) (all_keys script) []

-- in version 2 those of the keys follow
pub head_two : (script : Script) → script.version ≡ 2 → head_lines script ≡ first_words 2 ∷ all_keys script
head_two script is = λ i. first_words (is i) ∷ cond (nat_le 2 (is i)) (all_keys script) []

-- lines that are there or not are no more than these
few_if : (are : Bool) (lines : List (List (List ℕ))) → length (cond are lines []) ≤ length lines
few_if true lines = omega arith
few_if false lines = omega arith

-- The lines before those of the sessions are few.
pub head_few : (script : Script) (table : List (List ℕ)) → IsValidScript script table → length (head_lines script) ≤ 129
head_few script table valid =
    omega (arith, few_if (nat_le 2 script.version) (all_keys script), keys_count script, valid.config.keys_most)

-- the number of the line after them
pub head_count : (script : Script) (table : List (List ℕ)) → IsValidScript script table → (before first : List ℕ × ℕ) → HasGotExactly script (head_lines script) before first → first.1 ≤ before.1 + 129
head_count script table valid before first got = omega (arith, got.number, length-map (head_lines script) Exactly, head_few script table valid)

module _ (script : Script) (table : List (List ℕ)) (before first : List ℕ × ℕ) (head_got : HasGotExactly script (head_lines script) before first) where
  -- what is due after the head, after the sessions, and after the word before the final cells
  abbrev head : List Due
  head = exact_dues (head_lines script)

  abbrev cells_after : List Due
  cells_after = finals_dues (final_places script table) ++ Exactly end_word ∷ []

  abbrev final_after : List Due
  final_after = Exactly final_word ∷ cells_after

  -- a fault after the head
  after_head : (fault : ReportFault) → IsPartFault script (sessions_dues script script.sessions ++ final_after) first fault → IsPartFault script (report_dues script table) before fault
  after_head fault out = fault_after script head (sessions_dues script script.sessions ++ final_after) (head_lines script) before first fault head_got out

  -- where a line of a session is out of form
  pub fault_in_sessions : (fault : ReportFault) → IsPartFault script (sessions_dues script script.sessions) first fault → IsPartFault script (report_dues script table) before fault
  fault_in_sessions fault out = after_head fault (fault_before script (sessions_dues script script.sessions) final_after first fault out)

  module _ (sessions : List (List (List ℕ))) (later : List ℕ × ℕ) (sessions_got : HasGot script (sessions_dues script script.sessions) sessions first later) where
    -- a fault after the sessions
    after_sessions : (fault : ReportFault) → IsPartFault script final_after later fault → IsPartFault script (report_dues script table) before fault
    after_sessions fault out = after_head fault (fault_after script (sessions_dues script script.sessions) final_after sessions first later fault sessions_got out)

    -- where the word before the final cells is out of form
    pub fault_at_final : (line : ℕ) → line ≡ later.1 → IsOut script (Exactly final_word) later.0 → IsPartFault script (report_dues script table) before (Form line)
    fault_at_final line is out = after_sessions (Form line) (fault_first script (Exactly final_word) cells_after later line is out)

    module _ (cells_first : List ℕ × ℕ) (final_got : HasGot script (Exactly final_word ∷ []) (final_word ∷ []) later cells_first) where
      -- where a final cell is out of form
      pub fault_in_finals : (fault : ReportFault) → IsPartFault script (finals_dues (final_places script table)) cells_first fault → IsPartFault script (report_dues script table) before fault
      fault_in_finals fault out =
          after_sessions fault (fault_after script (Exactly final_word ∷ []) cells_after (final_word ∷ []) later cells_first fault final_got (fault_before script (finals_dues (final_places script table)) (Exactly end_word ∷ []) cells_first fault out))

      module _ (cells : List (List (List ℕ))) (last : List ℕ × ℕ) (cells_got : HasGot script (finals_dues (final_places script table)) cells cells_first last) where
        -- where the last word is out of form
        pub fault_at_end : (line : ℕ) → line ≡ last.1 → IsOut script (Exactly end_word) last.0 → IsPartFault script (report_dues script table) before (Form line)
        fault_at_end line is out =
            after_sessions (Form line) (fault_after script (Exactly final_word ∷ []) cells_after (final_word ∷ []) later cells_first (Form line) final_got
            (fault_after script (finals_dues (final_places script table)) (Exactly end_word ∷ []) cells cells_first last (Form line) cells_got (fault_first script (Exactly end_word) [] last line is out)))

        -- where all was got
        pub all_got : (after : List ℕ × ℕ) → HasGot script (Exactly end_word ∷ []) (end_word ∷ []) last after → HasGot script (report_dues script table) (head_lines script ++ (sessions ++ (final_word ∷ (cells ++ end_word ∷ [])))) before after
        all_got after end_got =
            got_both script head (sessions_dues script script.sessions ++ final_after) (head_lines script) (sessions ++ (final_word ∷ (cells ++ end_word ∷ []))) before first after head_got
            (got_both script (sessions_dues script script.sessions) final_after sessions (final_word ∷ (cells ++ end_word ∷ [])) first later after sessions_got
            (got_both script (Exactly final_word ∷ []) cells_after (final_word ∷ []) (cells ++ end_word ∷ []) later cells_first after final_got
            (got_both script (finals_dues (final_places script table)) (Exactly end_word ∷ []) cells (end_word ∷ []) cells_first last after cells_got end_got)))
