-- The text of a report: lines, each a list of words, and one rendering of them to bytes.
use Rattle.std.specs.Prelude.{◌≡◌, ℕ, ◌==◌, nat_le, if◌then◌else◌, List, [], ◌∷◌, ◌++◌, map, length, codes, Option, Some, None}
use Rattle.std.specs.List.{join_with_byte, flat_map, range_with_len}
use Rattle.std.specs.Fmt.{decimal, signed_decimal}
use Rattle.lattice_laws.specs.declared.maybe.Maybe.TheVariants.{Bottom, Is}
use Rattle.basic_lattices.specs.declared.stamped.Stamped.{Stamped}
use Rattle.version_antichain.specs.declared.version.Version.{Version}
use Rattle.dot_lattices.specs.DotSums.{total_of}
use Rattle.dot_lattices.specs.declared.amounts.Amounts.{Amounts}
use Rattle.dot_lattices.specs.declared.dot.Dot.{Dot}
use Rattle.dot_lattices.specs.declared.insert.Insert.{Insert}
use Rattle.composed_value.specs.Keyed.{kind_at}
use Rattle.composed_value.specs.declared.kind.Kind.{Kind}
use Rattle.composed_value.specs.declared.kind.Kind.TheVariants as kinds
use Rattle.composed_value.specs.declared.value.Value.{Value}
use Rattle.composed_value.specs.declared.value.Value.TheVariants as values
use Rattle.placement.specs.Config.{placed}
use Rattle.session_known.specs.Form.{HasForm, replicas_ascending}
use Rattle.session_known.specs.Script.{IsValidScript, key_name, session_name}
use Rattle.session_known.specs.declared.report.Answer.{Answer}
use Rattle.session_known.specs.declared.report.Answer.TheVariants as answers
use Rattle.session_known.specs.declared.report.FinalCell.{FinalCell}
use Rattle.session_known.specs.declared.report.Report.{Report}
use Rattle.session_known.specs.declared.report.Shown.{Shown}
use Rattle.session_known.specs.declared.script.Level.{Level}
use Rattle.session_known.specs.declared.script.Level.TheVariants.{Eventual, Committed, Causal}
use Rattle.session_known.specs.declared.script.Line.{Line}
use Rattle.session_known.specs.declared.script.Line.TheVariants as lines
use Rattle.session_known.specs.declared.script.Script.{Script}
use Rattle.session_known.specs.declared.script.SessionPlan.{SessionPlan}

-- ---- words

-- items with a byte between each two, or another text where there is none
abbrev pub row_or : List ℕ → ℕ → List (List ℕ) → List ℕ
row_or none byte [] = none
row_or none byte (item ∷ items) = join_with_byte byte (item ∷ items)

-- a list between commas, or a dash where it is empty
abbrev pub listed : List (List ℕ) → List ℕ
listed items = row_or (codes "-") 44 items

-- a list between commas in braces, or `none` where it is empty
abbrev pub braced : List (List ℕ) → List ℕ
braced [] = codes "none"
braced (item ∷ items) = codes "{" ++ (join_with_byte 44 (item ∷ items) ++ codes "}")

-- a session with the number of its puts: `NAME:COUNT`
abbrev pub count_text : Script → ℕ × ℕ → List ℕ
count_text script entry = session_name script entry.0 ++ (codes ":" ++ decimal entry.1)

-- the counts of a clock, between commas
abbrev pub counts_text : Script → List (ℕ × ℕ) → List ℕ
counts_text script clock = join_with_byte 44 (map (count_text script) clock)

abbrev pub clock_word : Script → List (ℕ × ℕ) → List ℕ
clock_word script clock = listed (map (count_text script) clock)

-- a key with the clock that is needed of it: `KEY{CLOCK}`
abbrev pub need_text : Script → ℕ × List (ℕ × ℕ) → List ℕ
need_text script entry = key_name script entry.0 ++ (codes "{" ++ (clock_word script entry.1 ++ codes "}"))

-- the keys that are needed with their clocks, between commas
abbrev pub each_need_text : Script → List (ℕ × List (ℕ × ℕ)) → List ℕ
each_need_text script needs = join_with_byte 44 (map (need_text script) needs)

abbrev pub needs_word : Script → List (ℕ × List (ℕ × ℕ)) → List ℕ
needs_word script needs = listed (map (need_text script) needs)

-- a field with its number: `FIELD=NUMBER`
abbrev pub field_text : List ℕ × ℕ → List ℕ
field_text field = field.0 ++ (codes "=" ++ decimal field.1)

-- the fields of a map, between commas
abbrev pub fields_text : List (List ℕ × ℕ) → List ℕ
fields_text fields = join_with_byte 44 (map field_text fields)

-- a stamped word: `WORD/NUMBER/SESSION/PLACE`
abbrev pub stamped_text : Script → Stamped → List ℕ
stamped_text script stamped = stamped.word ++ (codes "/" ++ (decimal stamped.number ++ (codes "/" ++ (session_name script stamped.session ++ (codes "/" ++ decimal stamped.place)))))

-- a word with a clock: `WORD(CLOCK)`
abbrev pub clocked_text : Script → List ℕ → List (ℕ × ℕ) → List ℕ
clocked_text script word clock = word ++ (codes "(" ++ (clock_word script clock ++ codes ")"))

-- a version: `WORD(CLOCK)`
abbrev pub version_text : Script → Version → List ℕ
version_text script version = clocked_text script version.word version.clock

-- versions between vertical bars
abbrev pub each_version_text : Script → List Version → List ℕ
each_version_text script versions = join_with_byte 124 (map (version_text script) versions)

-- the same, or `none` where there is none
abbrev pub versions_word : Script → List Version → List ℕ
versions_word script versions = row_or (codes "none") 124 (map (version_text script) versions)

-- a dot with what was added and taken there: `SESSION:NUMBER+ADDED-TAKEN`
abbrev pub sum_text : Script → Dot × Amounts → List ℕ
sum_text script entry = count_text script (entry.0.session, entry.0.number) ++ (codes "+" ++ (decimal entry.1.added ++ (codes "-" ++ decimal entry.1.taken)))

-- the dots of a counter, between commas
abbrev pub sums_text : Script → List (Dot × Amounts) → List ℕ
sums_text script sums = join_with_byte 44 (map (sum_text script) sums)

-- the total of a counter, and its dots in braces, or `none` where there is none
abbrev pub counter_word : Script → List (Dot × Amounts) → List ℕ
counter_word script [] = codes "none"
counter_word script (entry ∷ sums) = signed_decimal (total_of (entry ∷ sums)) ++ braced (map (sum_text script) (entry ∷ sums))

-- an insert: `WORD@SESSION:NUMBER`
abbrev pub insert_text : Script → Insert → List ℕ
insert_text script insert = insert.word ++ (codes "@" ++ count_text script (insert.dot.session, insert.dot.number))

-- the inserts of a set, between commas
abbrev pub inserts_text : Script → List Insert → List ℕ
inserts_text script inserts = join_with_byte 44 (map (insert_text script) inserts)

-- a removed word with what its removes had seen: `WORD(CLOCK)`
abbrev pub removal_text : Script → List ℕ × List (ℕ × ℕ) → List ℕ
removal_text script removal = clocked_text script removal.0 removal.1

-- the removed words of a set, between commas
abbrev pub removals_text : Script → List (List ℕ × List (ℕ × ℕ)) → List ℕ
removals_text script removals = join_with_byte 44 (map (removal_text script) removals)

-- the inserts and the removed words in braces, or `none` where there are neither
abbrev pub or_set_word : Script → List Insert → List (List ℕ × List (ℕ × ℕ)) → List ℕ
or_set_word script [] [] = codes "none"
or_set_word script inserts removals = codes "{" ++ (inserts_text script inserts ++ (codes ";" ++ (removals_text script removals ++ codes "}")))

abbrev pub value_word : Script → Value → List ℕ
value_word script (values.Max Bottom) = codes "none"
value_word script (values.Max (Is number)) = decimal number
value_word script (values.Or on) = if on then codes "on" else codes "none"
value_word script (values.Set words) = braced words
value_word script (values.Map fields) = braced (map field_text fields)
value_word script (values.Last Bottom) = codes "none"
value_word script (values.Last (Is stamped)) = stamped_text script stamped
value_word script (values.Versions versions) = versions_word script versions
value_word script (values.Counter sums) = counter_word script sums
value_word script (values.OrSet set) = or_set_word script set.inserts set.removals

abbrev pub worker_word : ℕ → List ℕ
worker_word worker = codes "@" ++ decimal worker

-- the kind of a key, as in the line that declares it
abbrev pub kind_word : Kind → List ℕ
kind_word kinds.Max = codes "max"
kind_word kinds.Or = codes "or"
kind_word kinds.Set = codes "set"
kind_word kinds.Map = codes "map"
kind_word kinds.Last = codes "last"
kind_word kinds.Versions = codes "versions"
kind_word kinds.Counter = codes "counter"
kind_word kinds.OrSet = codes "orset"

abbrev pub level_word : Level → List ℕ
level_word Eventual = codes "eventual"
level_word Committed = codes "committed"
level_word Causal = codes "causal"

-- ---- lines

-- a cell: `clock CLOCK top T value VALUE`
abbrev pub cell_words : Script → List (ℕ × ℕ) → ℕ → Value → List (List ℕ) → List (List ℕ)
cell_words script clock top value later = codes "clock" ∷ clock_word script clock ∷ codes "top" ∷ decimal top ∷ codes "value" ∷ value_word script value ∷ later

abbrev pub needs_words : Script → Option (List (ℕ × List (ℕ × ℕ))) → List (List ℕ)
needs_words script None = []
needs_words script (Some needs) = codes "needs" ∷ needs_word script needs ∷ []

-- what a worker showed: `@W CELL`, and `needs NEEDS` in a causal session
abbrev pub shown_words : Script → ℕ → Shown → List (List ℕ)
shown_words script worker shown = worker_word worker ∷ cell_words script shown.clock shown.top shown.value (needs_words script shown.needs)

-- the clock of an end of asking: `after ASKS @W clock CLOCK`
abbrev pub again_words : Script → ℕ → ℕ → List (ℕ × ℕ) → List (List ℕ)
again_words script asks worker clock = codes "after" ∷ decimal asks ∷ worker_word worker ∷ codes "clock" ∷ clock_word script clock ∷ []

-- an end of asking in the answer to an await: `gave up after ASKS @W clock CLOCK`
abbrev pub gave_up_words : Script → ℕ → ℕ → List (ℕ × ℕ) → List (List ℕ)
gave_up_words script asks worker clock = codes "gave" ∷ codes "up" ∷ again_words script asks worker clock

-- what an answer says of a put: `put K` and more
abbrev pub put_words : Script → ℕ → List (List ℕ) → List (List ℕ)
put_words script key later = codes "put" ∷ key_name script key ∷ later

-- what is awaited, so many puts of a session on a key: `K SESSION COUNT` and more
abbrev pub awaited_words : Script → ℕ → ℕ → ℕ → List (List ℕ) → List (List ℕ)
awaited_words script key session count later = key_name script key ∷ session_name script session ∷ decimal count ∷ later

-- the number of a put or of the puts of a commit, with the Lamport number: `NUMBER at LAMPORT`
abbrev pub number_at : List ℕ → List ℕ → List (List ℕ)
number_at number lamport = number ∷ codes "at" ∷ lamport ∷ []

-- a commit, which has a Lamport number where it has puts
abbrev pub commit_words : ℕ → ℕ → List (List ℕ)
commit_words puts lamport = if puts == 0 then codes "commit" ∷ codes "0" ∷ [] else codes "commit" ∷ number_at (decimal puts) (decimal lamport)

-- the line of an answer
abbrev pub answer_words : Script → Line → Answer → List (List ℕ)
answer_words script (lines.Put key payload) (answers.Put number lamport) = put_words script key (number_at (decimal number) (decimal lamport))
answer_words script (lines.Put key payload) answers.Held = put_words script key (codes "held" ∷ [])
answer_words script (lines.Put key payload) answers.Worn = put_words script key (codes "worn" ∷ [])
answer_words script (lines.Get key named) (answers.Got worker shown) = codes "get" ∷ key_name script key ∷ shown_words script worker shown
answer_words script (lines.Get key named) (answers.Again asks worker clock) = codes "again" ∷ key_name script key ∷ again_words script asks worker clock
answer_words script (lines.Await key session count) (answers.Got worker shown) = codes "await" ∷ awaited_words script key session count (shown_words script worker shown)
answer_words script (lines.Await key session count) (answers.Again asks worker clock) = codes "await" ∷ awaited_words script key session count (gave_up_words script asks worker clock)
answer_words script lines.Begin answers.Begun = codes "begin" ∷ []
answer_words script lines.Commit (answers.Committed puts lamport) = commit_words puts lamport
answer_words script lines.Commit answers.Worn = codes "commit" ∷ codes "worn" ∷ []
answer_words script lines.Abort (answers.Aborted puts) = codes "abort" ∷ decimal puts ∷ []
answer_words script line answer = []

-- the lines of a session's answers
abbrev pub answers_lines : Script → List Line → List Answer → List (List (List ℕ))
answers_lines script (line ∷ lines) (answer ∷ answers) = answer_words script line answer ∷ answers_lines script lines answers
answers_lines script lines answers = []

-- the session that a session comes after, where it comes after one: `after NAME`
abbrev pub after_words : Script → Option ℕ → List (List ℕ)
after_words script None = []
after_words script (Some session) = codes "after" ∷ session_name script session ∷ []

-- the line that a session begins with: `session NAME LEVEL`, and what it comes after
abbrev pub session_words : Script → SessionPlan → List (List ℕ)
session_words script plan = codes "session" ∷ plan.name ∷ level_word plan.level ∷ after_words script plan.after

-- the lines of the sessions
abbrev pub sessions_lines : Script → List SessionPlan → List (List Answer) → List (List (List ℕ))
sessions_lines script (plan ∷ plans) (answers ∷ others) = session_words script plan ∷ (answers_lines script plan.lines answers ++ sessions_lines script plans others)
sessions_lines script plans others = []

-- the line of a final cell: `K @W CELL`
abbrev pub final_words : Script → FinalCell → List (List ℕ)
final_words script cell = key_name script cell.key ∷ worker_word cell.worker ∷ cell_words script cell.clock cell.top cell.value []

-- the short line of a cell: `K clock CLOCK value VALUE`
abbrev pub short_words : Script → FinalCell → List (List ℕ)
short_words script cell = key_name script cell.key ∷ codes "clock" ∷ clock_word script cell.clock ∷ codes "value" ∷ value_word script cell.value ∷ []

-- the line of a key that lives at these workers: `key K KIND on I J ..`
abbrev pub key_words : Script → ℕ → List ℕ → List (List ℕ)
key_words script key workers = codes "key" ∷ key_name script key ∷ kind_word (kind_at script.kinds key) ∷ codes "on" ∷ map decimal workers

-- that of its replicas, ascending
abbrev pub placed_words : Script → ℕ → List (List ℕ)
placed_words script key = key_words script key (replicas_ascending script (placed script.config) key)

-- the lines of the keys, which a report has from version 2 on
abbrev pub keys_lines : Script → List (List (List ℕ))
keys_lines script = if nat_le 2 script.version then map (placed_words script) (range_with_len 1 (length script.config.keys)) else []

-- the lines before those of the sessions: `anna report VERSION`, and the keys
abbrev pub head_lines : Script → List (List (List ℕ))
head_lines script = (codes "anna" ∷ codes "report" ∷ decimal script.version ∷ []) ∷ keys_lines script

-- The lines of a report, each a list of words.
abbrev pub report_lines : Script → Report → List (List (List ℕ))
report_lines script report =
    head_lines script
    ++ (sessions_lines script script.sessions report.answers
    ++ ((codes "final" ∷ []) ∷ (map (final_words script) report.finals
    ++ (codes "end" ∷ []) ∷ [])))

-- words, each after a space
unfoldable pub spaced : List (List ℕ) → List ℕ
spaced [] = []
spaced (word ∷ words) = 32 ∷ (word ++ spaced words)

-- a line without its line feed: its words with one space between each two
abbrev pub bare_line : List (List ℕ) → List ℕ
bare_line words = join_with_byte 32 words

-- a line as it is written, with its line feed
abbrev pub line_text : List (List ℕ) → List ℕ
line_text words = bare_line words ++ 10 ∷ []

-- The text of a report.
abbrev pub text_of : Script → Report → List ℕ
text_of script report = flat_map line_text (report_lines script report)

-- a text is that of one report of the script's form at most
abbrev pub TextsTellReportsApart : Script → List (List ℕ) → Type 0
TextsTellReportsApart script table = (a b : Report) → IsValidScript script table → HasForm script table a → HasForm script table b → text_of script a ≡ text_of script b → a ≡ b
