-- What the program owes, by its status.
use Rattle.std.specs.Prelude.{◌≡◌, ℕ, ◌+◌, ◌<◌, ◌≤◌, ◌⊎◌, List, [], ◌∷◌, ◌++◌, take, drop, length, map, Option, Some, None, Result, Ok, Err, Vec, String, codes, ⊤}
use Rattle.std.specs.Global.{Global}
use Rattle.std.specs.Fmt.{decimal}
use Rattle.lattice_laws.specs.Counts.{Rose}
use Rattle.outside.specs.declared.Sink as sinks
use Rattle.outside.specs.declared.Source as sources
use Rattle.outside.specs.Outside.{Ends, NoneLeft, Took, TookMost}
use Rattle.outside.specs.declared.Failed.{Failed}
use Rattle.placement.specs.Config.{placed}
use Rattle.script_reader.specs.Grammar.{most_bytes, IsScript, IsRefused}
use Rattle.script_reader.specs.Split.{split_place}
use Rattle.session_known.specs.Form.{HasForm}
use Rattle.session_known.specs.Legal.{IsLegal}
use Rattle.session_known.specs.declared.report.Report.{Report}
use Rattle.session_known.specs.declared.script.Script.{Script}
use Rattle.report_reader.specs.Reads.{IsNoReport, IsFirstOutOfForm}
use Rattle.session_known.specs.Script.{session_name, key_name}
use Rattle.report_lines.specs.Text.{text_of}
use Rattle.anna_check.specs.Unlawful.{IsVerdict}
use Rattle.anna_check.specs.declared.judge.Verdict.{Verdict}
use Rattle.anna_check.specs.declared.judge.Verdict.TheVariants as verdicts
use Rattle.big_work.specs.Big.{script_of, summary_text}
use Rattle.mail_contract.specs.declared.gossip.GossipRx as weak
use Rattle.party_run.specs.Drained.{IsDrained, ledger_in}
use Rattle.party_run.specs.DrainedOver.{DrainedOver}
use Rattle.party_run.specs.Ledger.{Ledger}
use Rattle.party_run.specs.Numbers.{AreNumbered, in_order, scrambled_by}
use Rattle.store_msg.specs.Reply.{PlainReply}
use Rattle.store_msg.specs.declared.request.Request.{Request}
use Rattle.worker_core.specs.State.{Entries}
use Rattle.anna_run.specs.Words.{command_in}
use Rattle.anna_run.specs.declared.words.Command.{Command}
use Rattle.anna_run.specs.declared.words.Command.TheVariants.{Big, Check, Run}
use Rattle.anna_run.specs.declared.words.Gossip.{Gossip}
use Rattle.anna_run.specs.declared.words.Gossip.TheVariants.{InOrder, Scrambled}
use Rattle.anna_run.specs.declared.words.WordsFault.{WordsFault}
use Rattle.anna_run.specs.declared.words.WordsFault.TheVariants as faults
use Rattle.anna_run.specs.declared.run.PartsOver.{PartsOver}
use Rattle.anna_run.specs.declared.run.PartsOver.TheVariants as parts
use Rattle.anna_run.specs.declared.run.Status.{Status}
use Rattle.anna_run.specs.declared.run.Status.TheVariants.{Done, Usage, Refused, Unlawful, ReadFault, WriteFault, NoMemory}

-- a source before and after a call: the bytes left, where it tells them, and its count of faults
pub record SourceUse : Type 0 where
  pub left_before : Option (List ℕ)
  pub left_now : Option (List ℕ)
  pub faults_before : ℕ
  pub faults_now : ℕ

abbrev pub use_of : {Source : Type 0} → (Source → Option (List ℕ)) → (Source → ℕ) → Source → Source → SourceUse
use_of left faults old new = record { left_before = left old; left_now = left new; faults_before = faults old; faults_now = faults new }

-- so by all that its trait lets contracts see of it
abbrev pub used : {Source : Type 0} → sources.Ghosts Source → Source → Source → SourceUse
used its = use_of its.left its.faults

-- no byte was taken, and no fault counted
pub record IsUntouched (source : SourceUse) : Type 0 where
  pub left : source.left_now ≡ source.left_before
  pub faults : source.faults_now ≡ source.faults_before

-- a sink before and after a call: the bytes written, where it tells them, and its count of faults
pub record SinkUse : Type 0 where
  pub written_before : Option (List ℕ)
  pub written_now : Option (List ℕ)
  pub faults_before : ℕ
  pub faults_now : ℕ

abbrev pub sink_use_of : {Sink : Type 0} → (Sink → Option (List ℕ)) → (Sink → ℕ) → Sink → Sink → SinkUse
sink_use_of written faults old new = record { written_before = written old; written_now = written new; faults_before = faults old; faults_now = faults new }

-- so by all that its trait lets contracts see of it
abbrev pub wrote : {Sink : Type 0} → sinks.Ghosts Sink → Sink → Sink → SinkUse
wrote its = sink_use_of its.written its.faults

-- no byte was written, and no fault counted
pub record IsUnwritten (sink : SinkUse) : Type 0 where
  pub written : sink.written_now ≡ sink.written_before
  pub faults : sink.faults_now ≡ sink.faults_before

-- neither end failed in the call
abbrev pub IsFaultless : SourceUse → SinkUse → Type 0
IsFaultless source sink = (Rose source.faults_before source.faults_now → ⊥) × (Rose sink.faults_before sink.faults_now → ⊥)

-- the exit number of a status
abbrev pub exit_number : Status → ℕ
exit_number Done = 0
exit_number Usage = 2
exit_number Refused = 3
exit_number ReadFault = 4
exit_number WriteFault = 5
exit_number NoMemory = 6
exit_number Unlawful = 7

-- the status of a text that was written, or not
abbrev pub write_status : Result (Unit {0}) Failed → Status
write_status (Ok done) = Done
write_status (Err failed) = WriteFault

-- the greatest length of an input that is checked, in bytes
abbrev pub most_checked : ℕ
most_checked = 16777216

-- the most bytes that are taken: one more than the input may have, which tells that it is too long; none where the words ask for no
-- input, or are of no accepted form
abbrev pub most_taken : Option Command → ℕ
most_taken (Some (Run gossip)) = most_bytes + 1
most_taken (Some Check) = most_checked + 1
most_taken (Some (Big number)) = 0
most_taken None = 0

-- no more than that was taken
abbrev pub IsBounded : Option Command → SourceUse → Type 0
IsBounded command source = (bytes : List ℕ) × (length bytes ≤ most_taken command) × Took source.left_before source.left_now bytes

-- the words ask for no input
abbrev pub TakesNothing : Option Command → Type 0
TakesNothing (Some (Run gossip)) = ⊥
TakesNothing (Some Check) = ⊥
TakesNothing (Some (Big number)) = ⊤
TakesNothing None = ⊤

-- where they do the source is left alone
abbrev pub LeavesAlone : Option Command → SourceUse → Type 0
LeavesAlone command source = TakesNothing command → IsUntouched source

-- ---- a run

-- A run that was made, as contracts see it: its report, what is in hand of its parties once it is drained, and the numbers that the box of gossip of
-- each worker, in their order, was made with.
pub record Made : Type 0 where
  pub report : Report
  pub ledger : Ledger
  pub numbers : List (List ℕ)

-- what a drained run is, over ends that tell what they handed out
abbrev pub made_of : {Q G R QF QK QFK GF GK GFK RF RK RFK : Type 0} → (Q → List (ℕ × Request)) → weak.Ghosts G Entries GF GK GFK → (R → List (ℕ × PlainReply))
    → DrainedOver Q G R QF QK QFK GF GK GFK RF RK RFK → Made
made_of received batches heard drained = record {
  report = drained.report;
  ledger = ledger_in received batches.got heard drained.workers.items drained.replies.items;
  numbers = map (λ its. batches.made_with (batches.key its.gossip_in)) drained.workers.items;
}

-- what the parts of a run are
abbrev pub ran_of : {D C : Type 0} → (D → Made) → (C → Made) → PartsOver D C → Option Made
ran_of rings scrambled parts.Nothing = None
ran_of rings scrambled (parts.Rings drained) = Some (rings drained)
ran_of rings scrambled (parts.Scrambled drained) = Some (scrambled drained)

-- the numbers of the boxes of gossip, by their owners
abbrev pub numbers_of : Gossip → ℕ → List ℕ
numbers_of InOrder = in_order
numbers_of (Scrambled number) = scrambled_by number

abbrev pub usage_text : List ℕ
usage_text = codes "usage: anna COMMAND" ++ 10 ∷ []

abbrev pub read_fault_text : List ℕ
read_fault_text = codes "read fault" ++ 10 ∷ []

abbrev pub refusal_text : ℕ → ℕ → List ℕ
refusal_text line code = codes "refused line " ++ decimal line ++ codes ": code " ++ decimal code ++ 10 ∷ []

-- The whole input was taken, it is a script, and the report is legal for it: it came from a run of the script, of which this is in hand, with gossip as
-- the words ask for it.
pub record HasServed (source : SourceUse) (gossip : Gossip) (script : Script) (made : Made) : Type 0 where
  pub bytes : List ℕ
  pub taken : TookMost (most_taken (Some (Run gossip))) source.left_before source.left_now bytes
  pub whole : NoneLeft source.left_now
  pub is_script : IsScript bytes script
  pub is_legal : IsLegal script made.report
  pub is_drained : IsDrained script made.report made.ledger
  pub numbered : AreNumbered (numbers_of gossip) made.numbers

-- The text is that of such a report.
pub record IsServed (source : SourceUse) (gossip : Gossip) (made : Made) (text : List ℕ) : Type 0 where
  pub script : Script
  pub served : HasServed source gossip script made
  pub is_text : text ≡ text_of script made.report

-- The report is legal for the script of the large work of a number, and came from a run of it, of which this is in hand.
pub record HasWorked (number : ℕ) (made : Made) : Type 0 where
  pub is_legal : IsLegal (script_of number) made.report
  pub is_drained : IsDrained (script_of number) made.report made.ledger
  pub numbered : AreNumbered in_order made.numbers

-- The text is the summary of such a report.
pub record IsWorked (number : ℕ) (made : Made) (text : List ℕ) : Type 0 where
  pub worked : HasWorked number made
  pub is_text : text ≡ summary_text number (script_of number) made.report

-- The input, or its first bytes where it is too long, is refused, and the text says at which line and with which code.
pub record IsRefusal (source : SourceUse) (text : List ℕ) : Type 0 where
  pub bytes : List ℕ
  pub line : ℕ
  pub code : ℕ
  pub taken : TookMost (most_bytes + 1) source.left_before source.left_now bytes
  pub refused : IsRefused bytes line code
  pub is_text : text ≡ refusal_text line code

-- ---- a check

abbrev pub legal_text : List ℕ
legal_text = codes "legal" ++ 10 ∷ []

abbrev pub report_refusal_text : ℕ → List ℕ
report_refusal_text line = codes "refused report line " ++ decimal line ++ 10 ∷ []

-- the status that goes with a verdict
abbrev pub verdict_status : Verdict → Status
verdict_status verdicts.Legal = Done
verdict_status verdict = Unlawful

-- the text that goes with it: of a report that is not legal, its first place that is not lawful
abbrev pub verdict_text : Script → Verdict → List ℕ
verdict_text script verdicts.Legal = legal_text
verdict_text script (verdicts.Command session command) = codes "unlawful session " ++ (session_name script session ++ (codes " command " ++ (decimal command ++ 10 ∷ [])))
verdict_text script (verdicts.Final key worker) = codes "unlawful final " ++ (key_name script key ++ (codes " @" ++ (decimal worker ++ 10 ∷ [])))

-- The bytes are a script of any form, up to the line end of the first line whose only word is `end`, and after it the text of a report
-- in form.
pub record AreChecked (bytes : List ℕ) (script : Script) (report : Report) : Type 0 where
  pub short : length bytes ≤ most_checked
  pub is_script : IsScript (take (split_place bytes) bytes) script
  pub in_form : HasForm script (placed script.config) report
  pub is_report : drop (split_place bytes) bytes ≡ text_of script report

-- they are, and the report is legal
pub record IsFoundLegal (bytes text : List ℕ) : Type 0 where
  pub script : Script
  pub report : Report
  pub checked : AreChecked bytes script report
  pub is_legal : IsLegal script report
  pub is_text : text ≡ legal_text

-- they are, the report is not legal, and the text names its first place that is not lawful
pub record IsFoundUnlawful (bytes text : List ℕ) : Type 0 where
  pub script : Script
  pub report : Report
  pub checked : AreChecked bytes script report
  pub not_legal : IsLegal script report → ⊥
  pub verdict : Verdict
  pub is_verdict : IsVerdict (placed script.config) script report verdict
  pub is_text : text ≡ verdict_text script verdict

-- those that stand where the script should are none, and the text says at which line and with which code
pub record IsFoundNoScript (bytes text : List ℕ) : Type 0 where
  pub short : length bytes ≤ most_checked
  pub line : ℕ
  pub code : ℕ
  pub refused : IsRefused (take (split_place bytes) bytes) line code
  pub is_text : text ≡ refusal_text line code

-- those are a script, those after it are not the text of a report in form, and the text says at which line of theirs
pub record IsFoundNoReport (bytes text : List ℕ) : Type 0 where
  pub short : length bytes ≤ most_checked
  pub script : Script
  pub is_script : IsScript (take (split_place bytes) bytes) script
  pub line : ℕ
  pub no_report : IsNoReport script (placed script.config) (drop (split_place bytes) bytes)
  pub first : IsFirstOutOfForm script (placed script.config) (drop (split_place bytes) bytes) line
  pub is_text : text ≡ report_refusal_text line

-- What is found of the bytes that were taken, by its status. Too many are refused at line 0, whatever they say.
abbrev pub IsFound : List ℕ → Status → List ℕ → Type 0
IsFound bytes Done text = IsFoundLegal bytes text
IsFound bytes Unlawful text = IsFoundUnlawful bytes text
IsFound bytes Refused text = ((most_checked < length bytes) × (text ≡ refusal_text 0 12)) ⊎ IsFoundNoScript bytes text ⊎ IsFoundNoReport bytes text
IsFound bytes status text = ⊥

-- the input was taken, or its first bytes where it is too long, and this is found of it
pub record IsChecked (source : SourceUse) (status : Status) (text : List ℕ) : Type 0 where
  pub bytes : List ℕ
  pub taken : TookMost (most_taken (Some Check)) source.left_before source.left_now bytes
  pub found : IsFound bytes status text

-- the source failed, and the text says so
abbrev pub IsReadFault : SourceUse → List ℕ → Type 0
IsReadFault source text = Rose source.faults_before source.faults_now × (text ≡ read_fault_text)

-- Which text goes with which status, where these words were given, the source was used so, and this run was made.
abbrev pub Owed : Option Command → SourceUse → Option Made → Status → List ℕ → Type 0
Owed (Some (Run gossip)) source (Some made) Done text = IsServed source gossip made text
Owed (Some (Run gossip)) source None Refused text = IsRefusal source text
Owed (Some (Run gossip)) source None ReadFault text = IsReadFault source text
Owed (Some (Big number)) source (Some made) Done text = IsWorked number made text
Owed (Some Check) source None Done text = IsChecked source Done text
Owed (Some Check) source None Unlawful text = IsChecked source Unlawful text
Owed (Some Check) source None Refused text = IsChecked source Refused text
Owed (Some Check) source None ReadFault text = IsReadFault source text
Owed None source None Usage text = text ≡ usage_text
Owed command source ran status text = ⊥

-- How a run ends: memory ran out, no run is there, and the sink is as it was; or a text that is owed was written, and the run ends with
-- the status that goes with it, or a front of it was, and the run ends as the sink failed.
abbrev pub IsEnd : Option Command → SourceUse → SinkUse → Option Made → Status → Type 0
IsEnd command source sink ran status =
    ((status ≡ NoMemory) × (ran ≡ None) × IsUnwritten sink)
    ⊎ Ends WriteFault (Owed command source ran) (Rose sink.faults_before sink.faults_now) sink.written_before sink.written_now status

-- Where a script was asked to be run, and neither end failed, it was, unless memory ran out.
abbrev pub IsComplete : Option Command → SourceUse → SinkUse → Status → Type 0
IsComplete command source sink status =
    (input : List ℕ) (script : Script) (gossip : Gossip) → command ≡ Some (Run gossip) → source.left_before ≡ Some input → IsScript input script
    → IsFaultless source sink → (status ≡ Done) ⊎ (status ≡ NoMemory)

-- and so the large work of a number
abbrev pub IsWorkComplete : Option Command → SinkUse → Status → Type 0
IsWorkComplete command sink status = (number : ℕ) → command ≡ Some (Big number) → (Rose sink.faults_before sink.faults_now → ⊥) → (status ≡ Done) ⊎ (status ≡ NoMemory)

-- Where a report after its script was asked to be judged, and neither end failed, the status says whether the report is legal, unless
-- memory ran out.
abbrev pub IsJudged : Option Command → SourceUse → SinkUse → Status → Type 0
IsJudged command source sink status =
    (input : List ℕ) (script : Script) (report : Report) → command ≡ Some Check → source.left_before ≡ Some input → AreChecked input script report
    → IsFaultless source sink
    → ((status ≡ Done) × IsLegal script report) ⊎ ((status ≡ Unlawful) × (IsLegal script report → ⊥)) ⊎ (status ≡ NoMemory)

-- neither count of faults fell
pub record KeepsCounts (source : SourceUse) (sink : SinkUse) : Type 0 where
  pub source_count : source.faults_before ≤ source.faults_now
  pub sink_count : sink.faults_before ≤ sink.faults_now

-- All that a run owes to whoever gave these words, by the ends that it used, the run that it made and the status that it ended with.
pub record IsRun (command : Option Command) (source : SourceUse) (sink : SinkUse) (ran : Option Made) (status : Status) : Type 0 where
  pub ends : IsEnd command source sink ran status
  pub bounded : IsBounded command source
  pub untouched : TakesNothing command → IsUntouched source
  pub complete : IsComplete command source sink status
  pub works : IsWorkComplete command sink status
  pub judges : IsJudged command source sink status
  pub counts : KeepsCounts source sink

-- the words that the program was given: some, or none that can be read
abbrev pub IsRunOf : Result (Vec (String Global) Global) WordsFault → SourceUse → SinkUse → Option Made → Status → Type 0
IsRunOf (Ok words) source sink ran status = IsRun (command_in words.items) source sink ran status
IsRunOf (Err faults.NotText) source sink ran status = IsRun None source sink ran status
IsRunOf (Err faults.NoMemory) source sink ran status = (status ≡ NoMemory) × (ran ≡ None) × IsUntouched source × IsUnwritten sink

-- The program ends with the number of a status with which such a run ends.
abbrev pub IsExitOf : Result (Vec (String Global) Global) WordsFault → SourceUse → SinkUse → ℕ → Type 0
IsExitOf words source sink number = (ran : Option Made) × (status : Status) × (number ≡ exit_number status) × IsRunOf words source sink ran status
