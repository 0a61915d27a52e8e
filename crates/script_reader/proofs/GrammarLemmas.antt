-- Lines read one after another.
use Rattle.std.proofs.Common.{◌≡◌, ℕ, suc, ◌+◌, ◌<◌, ◌≤◌, Bool, true, false, cond, not, ◌||◌, List, [], ◌∷◌, ◌++◌, map, length, take, drop, get_or, fold, Option, Some, None, Bor, inl, inr, refl, sym, ap, subst, ◌∙◌, arith}
use Rattle.std.specs.List.{before_first, list_any, list_all, cons_option, prefix_len}
use Rattle.std.proofs.lemmas.Bool.{true≢false}
use Rattle.std.proofs.lemmas.List.{append-nil, map-append, take_more, take_all, length-append, length-take, take-append-drop, get_or-map}
use Rattle.std.proofs.Math.Seq.{drop-cons}
use Rattle.std.proofs.lemmas.List.Elements.{filter_map-append}
use Rattle.std.proofs.lemmas.List.Folds.{list_any-append}
use Rattle.std.proofs.lemmas.List.Sums.{fold-append}
use Rattle.script_reader.specs.Codes.{number_of_code}
use Rattle.script_reader.specs.Faults.{Context, context_of, code_of, code_said, code_after, is_text_byte}
use Rattle.script_reader.specs.Grammar.{AreInOrder, IsFirstFault, IsEndMissing, IsScriptOf, sessions_named}
use Rattle.script_reader.proofs.GrammarLaws.{two_cuts}
use Rattle.script_reader.specs.Keywords.{is_end, is_session}
use Rattle.script_reader.specs.LineReads.{HasReadLine, IsWhyNoLines, named_after, says_end, fault_at}
use Rattle.script_reader.specs.Lines.{Statement, those, word, statement_of, statements_of, is_end_line, has_end}
use Rattle.script_reader.specs.Reader.{so_far, IsKept, IsFaultOf, HasRead}
use Rattle.script_reader.specs.Said.{named_in, with_name, script_said}
use Rattle.script_reader.proofs.SaidLaws.{those_keep, those_skip}
use Rattle.script_reader.specs.Steps.{next_context}
use Rattle.script_reader.proofs.StepsLaws.{context_after}
use Rattle.script_reader.specs.declared.code.Code.{Code}
use Rattle.script_reader.specs.declared.code.Code.TheVariants as codes_of
use Rattle.script_reader.specs.declared.keyword.Keyword.{Keyword}
use Rattle.script_reader.specs.declared.keyword.Keyword.TheVariants.{End}
use Rattle.script_reader.specs.declared.reader.LineFault.{LineFault}
use Rattle.script_reader.specs.declared.reader.LineFault.TheVariants as line_faults
use Rattle.script_reader.specs.declared.reader.Reader.{Reader}

-- ---- statements of lines

-- the statements of lines and one more
pub statements_push : (lines : List (List ℕ)) (line : List ℕ) → statements_of (lines ++ line ∷ []) ≡ statements_of lines ++ cons_option (statement_of line) []
statements_push lines line = filter_map-append statement_of lines (line ∷ [])

one_test : (test : Bool) → (test || false) ≡ test
one_test true = refl
one_test false = refl

any_option : (said : Option Statement) → list_any is_end_line (cons_option said []) ≡ says_end said
any_option None = refl
any_option (Some statement) = one_test (is_end statement.keyword)

-- an end among lines and one more
pub end_push : (lines : List (List ℕ)) (line : List ℕ) → has_end (lines ++ line ∷ []) ≡ (has_end lines || says_end (statement_of line))
end_push lines line =
    ap (list_any is_end_line) (statements_push lines line)
    ∙ list_any-append is_end_line (statements_of lines) (cons_option (statement_of line) [])
    ∙ ap (λ t. has_end lines || t) (any_option (statement_of line))

-- ---- the sessions that an await may name

named_keep : (statements : List Statement) (statement : Statement) (session : Bool) → is_session statement.keyword ≡ session → named_in (statements ++ statement ∷ []) ≡ cond session (with_name (named_in statements) (word 0 statement)) (named_in statements)
named_keep statements statement true is =
    ap (λ lines. fold with_name [] (map (word 0) lines)) (those_keep is_session statements statement is)
    ∙ ap (fold with_name []) (map-append (word 0) (those is_session statements) (statement ∷ []))
    ∙ fold-append with_name [] (map (word 0) (those is_session statements)) (word 0 statement ∷ [])
named_keep statements statement false is = ap (λ lines. fold with_name [] (map (word 0) lines)) (those_skip is_session statements statement is)

named_option : (statements : List Statement) (said : Option Statement) → named_in (statements ++ cons_option said []) ≡ named_after (named_in statements) said
named_option statements None = ap named_in (append-nil statements)
named_option statements (Some statement) = named_keep statements statement (is_session statement.keyword) refl

-- the names of lines and one more
pub named_push : (lines : List (List ℕ)) (line : List ℕ) → named_in (statements_of (lines ++ line ∷ [])) ≡ named_after (named_in (statements_of lines)) (statement_of line)
named_push lines line = ap named_in (statements_push lines line) ∙ named_option (statements_of lines) (statement_of line)

-- an end line begins no session
pub end_no_session : (keyword : Keyword) → is_end keyword ≡ true → is_session keyword ≡ false
end_no_session End end = refl
end_no_session keyword end = absurd (true≢false (sym end))

-- an end line names no session
pub end_names : (names : List (List ℕ)) (said : Option Statement) → says_end said ≡ true → named_after names said ≡ names
end_names names None end = absurd (true≢false (sym end))
end_names names (Some statement) end = ap (λ t. cond t (with_name names (word 0 statement)) names) (end_no_session statement.keyword end)

-- ---- what stands before the first end

before_step : {X : Type 0} (p : X → Bool) (x : X) (xs : List X) (here : Bool) → p x ≡ here → before_first p (x ∷ xs) ≡ cond here [] (x ∷ before_first p xs)
before_step p x xs true is = ap (λ t. take (cond (not t) (1 + prefix_len (λ y. not (p y)) xs) 0) (x ∷ xs)) is
before_step p x xs false is =
    let more : 1 + prefix_len (λ y. not (p y)) xs ≡ suc (prefix_len (λ y. not (p y)) xs) = omega arith in
    ap (λ t. take (cond (not t) (1 + prefix_len (λ y. not (p y)) xs) 0) (x ∷ xs)) is ∙ ap (λ n. take n (x ∷ xs)) more

pub none_parts : (a b : Bool) → (a || b) ≡ false → (a ≡ false) × (b ≡ false)
none_parts true b none = absurd (true≢false none)
none_parts false b none = (refl, none)

-- all of a list without one
pub before_none : {X : Type 0} (p : X → Bool) (xs : List X) → list_any p xs ≡ false → before_first p xs ≡ xs
before_none p [] none = refl
before_none p (x ∷ xs) none =
    let parts = none_parts (p x) (list_any p xs) none in
    before_step p x xs false parts.0 ∙ ap (λ ys. x ∷ ys) (before_none p xs parts.1)

-- what stands before one, where none stands there
pub before_at : {X : Type 0} (p : X → Bool) (xs : List X) (y : X) (ys : List X) → list_any p xs ≡ false → p y ≡ true → before_first p (xs ++ y ∷ ys) ≡ xs
before_at p [] y ys none is = before_step p y ys true is
before_at p (x ∷ xs) y ys none is =
    let parts = none_parts (p x) (list_any p xs) none in
    before_step p x (xs ++ y ∷ ys) false parts.0 ∙ ap (λ zs. x ∷ zs) (before_at p xs y ys parts.1 is)

-- the statements before the first end line
before_end_in : (front : List Statement) (said : Option Statement) (back : List Statement) → list_any is_end_line front ≡ false → says_end said ≡ true → before_first is_end_line (front ++ cons_option said back) ≡ front
before_end_in front None back none end = absurd (true≢false (sym end))
before_end_in front (Some statement) back none end = before_at is_end_line front statement back none end

pub before_end : (lines : List (List ℕ)) (line : List ℕ) (rest : List (List ℕ)) → has_end lines ≡ false → says_end (statement_of line) ≡ true → before_first is_end_line (statements_of (lines ++ line ∷ rest)) ≡ statements_of lines
before_end lines line rest none end =
    ap (before_first is_end_line) (filter_map-append statement_of lines (line ∷ rest))
    ∙ before_end_in (statements_of lines) (statement_of line) (statements_of rest) none end

-- ---- lines in order

-- lines in order and one that is not at fault
pub in_order_push : (named before : List (List ℕ)) (line : List ℕ) → AreInOrder named before → code_after named before line ≡ None → AreInOrder named (before ++ line ∷ [])
in_order_push named before line all is = λ front back each e.
    elim (two_cuts before line [] front each back e) as (λ _. code_after named front each ≡ None) [
      | inl same ↦ subst (λ lines. code_after named lines each ≡ None) same.0 (subst (λ l. code_after named before l ≡ None) same.1 is)
      | inr (inl (between, later)) ↦ absurd (omega (arith, ap length e, ap length later, length-append before (line ∷ []), length-append front (each ∷ back), length-append before (line ∷ between)))
      | inr (inr (between, sooner)) ↦ all front between each sooner
    ]

-- no lines are in order
pub none_in_order : (named : List (List ℕ)) → AreInOrder named []
none_in_order named = λ front back each e. let long = ap length e ∙ length-append front (each ∷ back) in absurd (omega arith)

text_fine : (text : Bool) (code : Option Code) → cond (not text) (Some codes_of.Byte) code ≡ None → code ≡ None
text_fine true code none = none
text_fine false code none = absurd (cc)

-- what a line says that is not at fault
pub said_fine : (context : Context) (ended : Bool) (line : List ℕ) (statement : Statement) → code_said context ended line (Some statement) ≡ None → (ended ≡ false) × (code_of context statement.keyword statement.words ≡ None)
said_fine context true line statement none = absurd (cc)
said_fine context false line statement none = (refl, text_fine (list_all is_text_byte line) _ none)

-- ---- read one after another

-- The first lines were read.
pub record HasReadLines (named lines : List (List ℕ)) (n : ℕ) (reader : Reader) (ended : Bool) : Type 0 where
  pub kept : IsKept reader
  pub holds : so_far reader ≡ context_of named (statements_of (take n lines))
  pub ended_is : ended ≡ has_end (take n lines)
  pub in_order : AreInOrder named (take n lines)

-- what is held after these lines is what they say
code_here : (named lines : List (List ℕ)) (n : ℕ) (reader : Reader) (ended : Bool) (line : List ℕ) → HasReadLines named lines n reader ended → code_said (so_far reader) ended line (statement_of line) ≡ code_after named (take n lines) line
code_here named lines n reader ended line read = λ i. code_said (read.holds i) (read.ended_is i) line (statement_of line)

-- no line was read
pub read_none : (named lines : List (List ℕ)) (reader : Reader) → IsKept reader → so_far reader ≡ context_of named [] → HasReadLines named lines 0 reader false
read_none named lines reader kept holds = record { kept = kept; holds = holds; ended_is = refl; in_order = none_in_order named }

-- what is left begins with the next line
rest_at : (lines : List (List ℕ)) (n : ℕ) (line : List ℕ) → n < length lines → line ≡ get_or lines n [] → drop n lines ≡ line ∷ drop (n + 1) lines
rest_at lines n line within at =
    let next : suc n ≡ n + 1 = omega arith in
    drop-cons lines n [] within ∙ (λ i. sym at i ∷ drop (next i) lines)

length-take_le : (n : ℕ) (lines : List (List ℕ)) → n < length lines → length (take n lines) ≡ n
length-take_le n lines within = omega (arith, length-take n lines)

read_code : (named lines : List (List ℕ)) (n : ℕ) (reader : Reader) (ended : Bool) (line : List ℕ) (why : Code) → HasReadLines named lines n reader ended → n < length lines → line ≡ get_or lines n [] → code_said (so_far reader) ended line (statement_of line) ≡ Some why → IsFirstFault named lines (n + 1) (number_of_code why)
read_code named lines n reader ended line why read within at fault = record {
  before = take n lines;
  line = line;
  after = drop (n + 1) lines;
  place = sym (take-append-drop n lines) ∙ ap (λ back. take n lines ++ back) (rest_at lines n line within at);
  in_order = read.in_order;
  why = why;
  fault = sym (code_here named lines n reader ended line read) ∙ fault;
  counted = ap (λ k. k + 1) (sym (length-take_le n lines within));
  code_is = refl;
}

-- A line is at fault after those that were read.
pub read_fault : (named lines : List (List ℕ)) (n : ℕ) (reader : Reader) (ended : Bool) (line : List ℕ) (fault : LineFault) → HasReadLines named lines n reader ended → n < length lines → line ≡ get_or lines n [] → IsFaultOf (code_said (so_far reader) ended line (statement_of line)) fault → IsWhyNoLines named lines (fault_at (n + 1) fault)
read_fault named lines n reader ended line (line_faults.Code why) read within at fault = inl (read_code named lines n reader ended line why read within at fault)
read_fault named lines n reader ended line line_faults.NoMemory read within at fault = tt

-- what the lines say, whatever the line says
pub held_after : (named front : List (List ℕ)) (reader new : Reader) (ended now : Bool) (line : List ℕ) (said : Option Statement) → statement_of line ≡ said → IsKept reader → so_far reader ≡ context_of named (statements_of front) → ended ≡ has_end front → HasReadLine reader new ended now line said
    → IsKept new × (so_far new ≡ context_of named (statements_of (front ++ line ∷ []))) × (now ≡ has_end (front ++ line ∷ [])) × (code_said (so_far reader) ended line said ≡ None)
held_after named front reader new ended now line None is kept holds ended_is read =
    let more : statements_of (front ++ line ∷ []) ≡ statements_of front = statements_push front line ∙ ap (λ s. statements_of front ++ cons_option s []) is ∙ append-nil (statements_of front) in
    (subst IsKept (sym read.0) kept, ap so_far read.0 ∙ holds ∙ ap (context_of named) (sym more), read.1 ∙ ended_is ∙ ap (list_any is_end_line) (sym more), refl)
held_after named front reader new ended now line (Some statement) is kept holds ended_is read =
    let more : statements_of (front ++ line ∷ []) ≡ statements_of front ++ statement ∷ [] = statements_push front line ∙ ap (λ s. statements_of front ++ cons_option s []) is in
    let fine = said_fine (so_far reader) ended line statement read.0 in
    let code : code_of (context_of named (statements_of front)) statement.keyword statement.words ≡ None = ap (λ context. code_of context statement.keyword statement.words) (sym holds) ∙ fine.1 in (
      read.1,
      read.2 ∙ ap (λ context. next_context context statement.keyword statement.words) holds ∙ sym (context_after named (statements_of front) statement code) ∙ ap (context_of named) (sym more),
      read.3 ∙ ap (λ t. t || says_end (Some statement)) (sym fine.0 ∙ ended_is) ∙ ap (λ s. has_end front || says_end s) (sym is) ∙ sym (end_push front line),
      read.0,
    )

-- One more line was read.
pub read_more : (named lines : List (List ℕ)) (n : ℕ) (reader new : Reader) (ended now : Bool) (line : List ℕ) → HasReadLines named lines n reader ended → n < length lines → line ≡ get_or lines n [] → HasReadLine reader new ended now line (statement_of line) → HasReadLines named lines (n + 1) new now
read_more named lines n reader new ended now line read within at is =
    let next : take (n + 1) lines ≡ take n lines ++ line ∷ [] = take_more lines n [] within ∙ ap (λ l. take n lines ++ l ∷ []) (sym at) in
    let held = held_after named (take n lines) reader new ended now line (statement_of line) refl read.kept read.holds read.ended_is is in
    record {
      kept = held.0;
      holds = held.1 ∙ ap (λ front. context_of named (statements_of front)) (sym next);
      ended_is = held.2 ∙ ap has_end (sym next);
      in_order = subst (AreInOrder named) (sym next) (in_order_push named (take n lines) line read.in_order (sym (code_here named lines n reader ended line read) ∙ held.3));
    }

-- All lines were read, and there is no end.
pub read_missing : (named lines : List (List ℕ)) (n : ℕ) (reader : Reader) (ended : Bool) → HasReadLines named lines n reader ended → n ≡ length lines → ended ≡ false → (at : ℕ) → at ≡ length lines + 1 → IsEndMissing named lines at 10
read_missing named lines n reader ended read all none at counted =
    let whole : take n lines ≡ lines = take_all n lines (omega arith) in
    record { in_order = subst (AreInOrder named) whole read.in_order; no_end = ap has_end (sym whole) ∙ sym read.ended_is ∙ none; counted = counted; code_is = refl }

-- All lines were read, and there is an end.
pub read_script : (named lines : List (List ℕ)) (n : ℕ) (reader : Reader) (ended : Bool) → HasReadLines named lines n reader ended → n ≡ length lines → ended ≡ true → IsScriptOf named lines (so_far reader).script
read_script named lines n reader ended read all end =
    let whole : take n lines ≡ lines = take_all n lines (omega arith) in
    record { in_order = subst (AreInOrder named) whole read.in_order; ended = ap has_end (sym whole) ∙ sym read.ended_is ∙ end; says = ap (λ context. context.script) read.holds ∙ ap (λ front. script_said named (statements_of front)) whole }

-- ---- lines after references

-- a line of lines by reference
pub line_of_references : (lines : List (Bor (List ℕ))) (n : ℕ) (d : Bor (List ℕ)) → n < length lines → (get_or lines n d).now ≡ get_or (map (λ line. line.now) lines) n []
line_of_references lines n d within = sym (get_or-map (λ (line : Bor (List ℕ)). line.now) lines n d [] within)

-- the sessions of the first lines and one more, where none of them is an end line
pub named_more : (lines : List (List ℕ)) (n : ℕ) (line : List ℕ) (names new : List (List ℕ)) (end : Bool) → n < length lines → line ≡ get_or lines n [] → names ≡ named_in (statements_of (take n lines)) → has_end (take n lines) ≡ false → end ≡ says_end (statement_of line) → end ≡ false → new ≡ named_after names (statement_of line)
    → (new ≡ named_in (statements_of (take (n + 1) lines))) × (has_end (take (n + 1) lines) ≡ false)
named_more lines n line names new end within at named none is no_end added =
    let next : take (n + 1) lines ≡ take n lines ++ line ∷ [] = take_more lines n [] within ∙ ap (λ l. take n lines ++ l ∷ []) (sym at) in (
      added ∙ ap (λ ns. named_after ns (statement_of line)) named ∙ sym (named_push (take n lines) line) ∙ ap (λ front. named_in (statements_of front)) (sym next),
      ap has_end next ∙ end_push (take n lines) line ∙ (λ i. none i || (sym is ∙ no_end) i),
    )

-- the sessions up to the first end line
pub named_at_end : (lines : List (List ℕ)) (n : ℕ) (line : List ℕ) (names new : List (List ℕ)) (end : Bool) → n < length lines → line ≡ get_or lines n [] → names ≡ named_in (statements_of (take n lines)) → has_end (take n lines) ≡ false → end ≡ says_end (statement_of line) → end ≡ true → new ≡ named_after names (statement_of line)
    → new ≡ sessions_named lines
named_at_end lines n line names new end within at named none is ends added =
    let whole : take n lines ++ line ∷ drop (n + 1) lines ≡ lines = ap (λ back. take n lines ++ back) (sym (rest_at lines n line within at)) ∙ take-append-drop n lines in
    added ∙ end_names names (statement_of line) (sym is ∙ ends) ∙ named ∙ ap named_in (sym (before_end (take n lines) line (drop (n + 1) lines) none (sym is ∙ ends)) ∙ ap (λ all. before_first is_end_line (statements_of all)) whole)

-- the sessions of lines without an end line
pub named_all : (lines : List (List ℕ)) (n : ℕ) (names : List (List ℕ)) → length lines ≤ n → names ≡ named_in (statements_of (take n lines)) → has_end (take n lines) ≡ false → names ≡ sessions_named lines
named_all lines n names all named none =
    let whole : take n lines ≡ lines = take_all n lines all in
    named ∙ ap (λ front. named_in (statements_of front)) whole ∙ ap named_in (sym (before_none is_end_line (statements_of lines) (ap has_end (sym whole) ∙ none)))

-- ---- one line

-- the code of a line of text that says something, before any end
code_plain : (context : Context) (line : List ℕ) (said : Option Statement) (keyword : Keyword) (words : List (List ℕ)) → said ≡ Some (record { keyword = keyword; words = words }) → list_all is_text_byte line ≡ true → code_said context false line said ≡ code_of context keyword words
code_plain context line said keyword words is text =
    ap (code_said context false line) is ∙ ap (λ t. cond (not t) (Some codes_of.Byte) (code_of context keyword words)) text

-- A line was read.
pub line_read : (reader new : Reader) (line : List ℕ) (said : Option Statement) (keyword : Keyword) (words : List (List ℕ)) (now : Bool) → said ≡ Some (record { keyword = keyword; words = words }) → list_all is_text_byte line ≡ true → HasRead reader new keyword words → now ≡ is_end keyword → HasReadLine reader new false now line said
line_read reader new line said keyword words now is text read end =
    let plain = code_plain (so_far reader) line (Some (record { keyword = keyword; words = words })) keyword words refl text in
    subst (HasReadLine reader new false now line) (sym is) (plain ∙ read.faultless, read.kept, read.added, end)

-- A line is at fault.
pub line_fault : (reader : Reader) (line : List ℕ) (said : Option Statement) (keyword : Keyword) (words : List (List ℕ)) (fault : LineFault) → said ≡ Some (record { keyword = keyword; words = words }) → list_all is_text_byte line ≡ true → IsFaultOf (code_of (so_far reader) keyword words) fault → IsFaultOf (code_said (so_far reader) false line said) fault
line_fault reader line said keyword words fault is text why = subst (λ code. IsFaultOf code fault) (sym (code_plain (so_far reader) line said keyword words is text)) why
