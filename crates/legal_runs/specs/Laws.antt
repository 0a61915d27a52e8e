-- What the lists of the parties of a run make of its report.
use Rattle.std.specs.Prelude.{◌≢◌, ℕ, ◌+◌, ◌≤◌, List, All, Contains}
use Rattle.session_known.specs.Accepted.{accepted}
use Rattle.session_known.specs.Laws.{lamports}
use Rattle.session_known.specs.Legal.{IsLegalAt}
use Rattle.session_known.specs.Script.{IsValidScript}
use Rattle.session_known.specs.declared.report.Answer.TheVariants as answers
use Rattle.session_known.specs.declared.report.Report.{Report}
use Rattle.session_known.specs.declared.script.Script.{Script}
use Rattle.run_ledger.specs.Came.{Came, IsSettled}
use Rattle.run_ledger.specs.Causality.{AreCausal}
use Rattle.run_ledger.specs.Ledger.{Ledger}
use Rattle.run_ledger.specs.Parties.{AreDrained, Parties, ledger_of}

-- What a report that came so is: it is legal; its puts depend on puts with smaller Lamport numbers alone; for each put with a Lamport number above 1 there
-- is one with the number one less; and no put or commit was answered that the Lamport numbers are used up.
pub record IsLegalAndCausal (script : Script) (table : List (List ℕ)) (report : Report) : Type 0 where
  pub legal : IsLegalAt table script report
  pub causal : AreCausal (accepted script report)
  pub dense : (n : ℕ) → 1 ≤ n → Contains (lamports script report) (n + 1) → Contains (lamports script report) n
  pub never_worn : All (All (λ answer. answer ≢ answers.Worn)) report.answers

-- A report of a valid script that came from a ledger whose gossip has settled is so.
abbrev pub LedgersMakeLegalReports : Type 0
LedgersMakeLegalReports =
    (script : Script) (table : List (List ℕ)) (report : Report) (ledger : Ledger) → IsValidScript script table → Came script table report ledger
    → IsSettled table ledger → IsLegalAndCausal script table report

-- a report that came from a ledger whose gossip has settled
pub record CameSettled (script : Script) (table : List (List ℕ)) (report : Report) (ledger : Ledger) : Type 0 where
  pub came : Came script table report ledger
  pub settled : IsSettled table ledger

-- So did the report of parties that are drained.
abbrev pub DrainedPartiesMakeLedgers : Type 0
DrainedPartiesMakeLedgers =
    (script : Script) (table : List (List ℕ)) (report : Report) (parties : Parties) → IsValidScript script table → AreDrained script table report parties
    → CameSettled script table report (ledger_of parties)
