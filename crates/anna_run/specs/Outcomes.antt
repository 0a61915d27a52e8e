-- What a run owes, before it is written.
use Rattle.std.specs.Prelude.{◌≡◌, ℕ, List, Option, Some, None, Result, IfOk, ⊤}
use Rattle.lattice_laws.specs.Counts.{Rose}
use Rattle.big_work.specs.Big.{script_of}
use Rattle.placement.specs.Config.{placed}
use Rattle.session_known.specs.Legal.{IsLegal}
use Rattle.session_known.specs.declared.report.Report as reports
use Rattle.session_known.specs.declared.script.Script.{Script}
use Rattle.anna_check.specs.Unlawful.{IsVerdict}
use Rattle.anna_check.specs.declared.judge.Verdict.{Verdict}
use Rattle.script_reader.specs.Grammar.{IsScript}
use Rattle.anna_run.specs.Run.{AreChecked, Made, SourceUse, HasServed, HasWorked, IsFound, Owed, verdict_status, verdict_text}
use Rattle.anna_run.specs.declared.run.OutcomeOver.{OutcomeOver}
use Rattle.anna_run.specs.declared.run.OutcomeOver.TheVariants.{Line, Report, ScrambledReport, Summary}
use Rattle.anna_run.specs.declared.run.Status.{Status}
use Rattle.anna_run.specs.declared.run.Status.TheVariants.{Done, Unlawful}
use Rattle.anna_run.specs.declared.words.Command.{Command}
use Rattle.anna_run.specs.declared.words.Command.TheVariants.{Big, Check, Run}
use Rattle.anna_run.specs.declared.words.Gossip.{Gossip}

module _ {D C : Type 0} (rings : D → Made) (scrambled : C → Made) where
  -- it is the report of a script that was read and run, or another line that is owed then
  abbrev pub IsOwedByRun : SourceUse → Gossip → OutcomeOver D C → Type 0
  IsOwedByRun source gossip (Report script drained) = HasServed source gossip script (rings drained)
  IsOwedByRun source gossip (ScrambledReport script drained) = HasServed source gossip script (scrambled drained)
  IsOwedByRun source gossip (Summary number script drained) = ⊥
  IsOwedByRun source gossip (Line status text) = Owed (Some (Run gossip)) source None status text.items

  -- it is the summary of the large work of a number
  abbrev pub IsOwedByWork : ℕ → OutcomeOver D C → Type 0
  IsOwedByWork asked (Summary number script drained) = (number ≡ asked) × (script ≡ script_of asked) × HasWorked asked (rings drained)
  IsOwedByWork asked outcome = ⊥

  -- it is a line that is owed without a run
  abbrev pub IsOwedLine : (Status → List ℕ → Type 0) → OutcomeOver D C → Type 0
  IsOwedLine owed (Line status text) = owed status text.items
  IsOwedLine owed outcome = ⊥

  -- The outcome is one that is owed where these words were given and the source was used so.
  abbrev pub IsOwed : Option Command → SourceUse → OutcomeOver D C → Type 0
  IsOwed (Some (Run gossip)) source outcome = IsOwedByRun source gossip outcome
  IsOwed (Some (Big number)) source outcome = IsOwedByWork number outcome
  IsOwed (Some Check) source outcome = IsOwedLine (Owed (Some Check) source None) outcome
  IsOwed None source outcome = IsOwedLine (Owed None source None) outcome

  -- so by the answer
  abbrev pub Owes : {E : Type 0} → Option Command → SourceUse → Result (OutcomeOver D C) E → Type 0
  Owes command source result = IfOk result (IsOwed command source)

module _ {D C : Type 0} where
  -- it is a line of text that is owed where this was found of the bytes
  abbrev pub IsOwedOf : List ℕ → OutcomeOver D C → Type 0
  IsOwedOf bytes (Line status text) = IsFound bytes status text.items
  IsOwedOf bytes outcome = ⊥

  -- it is the line of the report's verdict
  abbrev pub TellsVerdict : Script → reports.Report → OutcomeOver D C → Type 0
  TellsVerdict script report (Line status text) =
      (verdict : Verdict) × IsVerdict (placed script.config) script report verdict × (status ≡ verdict_status verdict) × (text.items ≡ verdict_text script verdict)
  TellsVerdict script report outcome = ⊥

  -- it says of the report whether it is legal
  abbrev pub TellsOf : Script → reports.Report → OutcomeOver D C → Type 0
  TellsOf script report (Line Done text) = IsLegal script report
  TellsOf script report (Line Unlawful text) = IsLegal script report → ⊥
  TellsOf script report outcome = ⊥

  -- it is a report
  abbrev pub IsReport : OutcomeOver D C → Type 0
  IsReport (Report script drained) = ⊤
  IsReport (ScrambledReport script drained) = ⊤
  IsReport outcome = ⊥

-- what holds where a source that does not fail holds a script,
abbrev pub OnScript : SourceUse → Type 0 → Type 0
OnScript source holds = (input : List ℕ) (script : Script) → source.left_before ≡ Some input → IsScript input script → (Rose source.faults_before source.faults_now → ⊥) → holds

-- and where the words ask to run it
abbrev pub OnScriptOf : Option Command → SourceUse → Type 0 → Type 0
OnScriptOf command source holds =
    (input : List ℕ) (script : Script) (gossip : Gossip) → command ≡ Some (Run gossip) → source.left_before ≡ Some input → IsScript input script → (Rose source.faults_before source.faults_now → ⊥) → holds

-- what holds where bytes say a script and a report after it,
abbrev pub WhereChecked : List ℕ → (Script → reports.Report → Type 0) → Type 0
WhereChecked bytes holds = (script : Script) (report : reports.Report) → AreChecked bytes script report → holds script report

-- where a source that does not fail holds them,
abbrev pub OnReport : SourceUse → (Script → reports.Report → Type 0) → Type 0
OnReport source holds =
    (input : List ℕ) (script : Script) (report : reports.Report) → source.left_before ≡ Some input → AreChecked input script report
    → (Rose source.faults_before source.faults_now → ⊥) → holds script report

-- and where the words ask to judge the report
abbrev pub OnReportOf : Option Command → SourceUse → (Script → reports.Report → Type 0) → Type 0
OnReportOf command source holds =
    (input : List ℕ) (script : Script) (report : reports.Report) → command ≡ Some Check → source.left_before ≡ Some input → AreChecked input script report
    → (Rose source.faults_before source.faults_now → ⊥) → holds script report

-- the answer says of the report whether it is legal
abbrev pub Judges : {D C E : Type 0} → Result (OutcomeOver D C) E → Script → reports.Report → Type 0
Judges result script report = IfOk result (TellsOf script report)
