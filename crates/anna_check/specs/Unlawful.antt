-- Where a report is unlawful first: inside a session, else in what it says of all accepted puts, else in a final cell.
use Rattle.std.specs.Prelude.{◌≡◌, ℕ, zero, suc, ◌+◌, List, [], ◌∷◌, ◌++◌, All}
use Rattle.std.specs.List.{AllZip}
use Rattle.std.proofs.Common.{◌⊎◌}
use Rattle.composed_value.specs.declared.kind.Kind.{Kind}
use Rattle.composed_value.specs.declared.put.Put as puts
use Rattle.session_known.specs.Accepted.{accepted, client_of, ends_of, start_of}
use Rattle.session_known.specs.Lawful.{IsLawful, AreLawful, IsTrueOf}
use Rattle.session_known.specs.Legal.{AreLawfulFrom, IsLawfulFinal, IsLegalAt}
use Rattle.session_known.specs.Script.{IsValidScript}
use Rattle.session_known.specs.Session.{Client, Knowledge, State, after}
use Rattle.session_known.specs.declared.report.Answer.{Answer}
use Rattle.session_known.specs.declared.report.FinalCell.{FinalCell}
use Rattle.session_known.specs.declared.report.Report.{Report}
use Rattle.session_known.specs.declared.script.Line.{Line}
use Rattle.session_known.specs.declared.script.Script.{Script}
use Rattle.session_known.specs.declared.script.SessionPlan.{SessionPlan}
use Rattle.anna_check.specs.declared.judge.Verdict.{Verdict}
use Rattle.anna_check.specs.declared.judge.Verdict.TheVariants.{Legal, Command, Final}

-- ---- inside a session

-- The answer to this command of a session, counted from 1, is the first that is not lawful there, from a state and the answers
-- before it on.
abbrev pub IsFirstUnlawful : List (List ℕ) → Client → State → List (Line × Answer) → List Line → List Answer → ℕ → Type 0
IsFirstUnlawful table client state earlier (line ∷ lines) (answer ∷ answers) (suc zero) = IsLawful table client state earlier line answer → ⊥
IsFirstUnlawful table client state earlier (line ∷ lines) (answer ∷ answers) (suc (suc command)) =
    IsLawful table client state earlier line answer × IsFirstUnlawful table client (after client state line answer) (earlier ++ (line, answer) ∷ []) lines answers (suc command)
IsFirstUnlawful table client state earlier lines answers command = ⊥

-- of the sessions from a number on, where `ends` is what each knows after its last line, the first that has such a command, and the command
abbrev pub IsFirstUnlawfulFrom : List (List ℕ) → List Knowledge → ℕ → List SessionPlan → List (List Answer) → ℕ → ℕ → Type 0
IsFirstUnlawfulFrom table ends number (plan ∷ plans) (answers ∷ others) session command =
    ((session ≡ number) × IsFirstUnlawful table (client_of number plan) (start_of ends plan) [] plan.lines answers command)
    ⊎ (AreLawful table (client_of number plan) (start_of ends plan) [] plan.lines answers × IsFirstUnlawfulFrom table ends (number + 1) plans others session command)
IsFirstUnlawfulFrom table ends number plans others session command = ⊥

-- ---- of all accepted puts

-- what the answers of a session say of the accepted puts is true
abbrev pub AreTrueOf : List Kind → List (ℕ × puts.Put) → SessionPlan → List Answer → Type 0
AreTrueOf kinds accepted plan answers = AllZip (IsTrueOf kinds accepted) plan.lines answers

-- the answer to this command, counted from 1, is the first of which that is not so
abbrev pub IsFirstUntrue : List Kind → List (ℕ × puts.Put) → List Line → List Answer → ℕ → Type 0
IsFirstUntrue kinds accepted (line ∷ lines) (answer ∷ answers) (suc zero) = IsTrueOf kinds accepted line answer → ⊥
IsFirstUntrue kinds accepted (line ∷ lines) (answer ∷ answers) (suc (suc command)) = IsTrueOf kinds accepted line answer × IsFirstUntrue kinds accepted lines answers (suc command)
IsFirstUntrue kinds accepted lines answers command = ⊥

-- of the sessions from a number on, the first that has such a command, and the command
abbrev pub IsFirstUntrueFrom : List Kind → List (ℕ × puts.Put) → ℕ → List SessionPlan → List (List Answer) → ℕ → ℕ → Type 0
IsFirstUntrueFrom kinds accepted number (plan ∷ plans) (answers ∷ others) session command =
    ((session ≡ number) × IsFirstUntrue kinds accepted plan.lines answers command)
    ⊎ (AreTrueOf kinds accepted plan answers × IsFirstUntrueFrom kinds accepted (number + 1) plans others session command)
IsFirstUntrueFrom kinds accepted number plans others session command = ⊥

-- ---- final cells

-- the first final cell that is not lawful is that of the key at the worker
abbrev pub IsFirstUnlawfulFinal : List Kind → List (ℕ × puts.Put) → List FinalCell → ℕ → ℕ → Type 0
IsFirstUnlawfulFinal kinds accepted [] key worker = ⊥
IsFirstUnlawfulFinal kinds accepted (cell ∷ cells) key worker =
    ((cell.key ≡ key) × (cell.worker ≡ worker) × (IsLawfulFinal kinds accepted cell → ⊥))
    ⊎ (IsLawfulFinal kinds accepted cell × IsFirstUnlawfulFinal kinds accepted cells key worker)

-- ---- the verdict

-- every answer is lawful inside its session
abbrev pub IsLawfulInside : List (List ℕ) → Script → Report → Type 0
IsLawfulInside table script report = AreLawfulFrom table (ends_of script report) 1 script.sessions report.answers

-- what every answer says of the accepted puts is true
abbrev pub IsTrueOfPuts : Script → Report → Type 0
IsTrueOfPuts script report = AllZip (AreTrueOf script.kinds (accepted script report)) script.sessions report.answers

-- What a report in form whose answers are all lawful inside their sessions is judged.
abbrev pub IsVerdictOfPuts : Script → Report → Verdict → Type 0
IsVerdictOfPuts script report Legal = IsTrueOfPuts script report × All (IsLawfulFinal script.kinds (accepted script report)) report.finals
IsVerdictOfPuts script report (Command session command) = IsFirstUntrueFrom script.kinds (accepted script report) 1 script.sessions report.answers session command
IsVerdictOfPuts script report (Final key worker) = IsTrueOfPuts script report × IsFirstUnlawfulFinal script.kinds (accepted script report) report.finals key worker

-- What a report in form is judged, where the keys live as the table says: legal, or the first place that is not.
abbrev pub IsVerdict : List (List ℕ) → Script → Report → Verdict → Type 0
IsVerdict table script report Legal = IsLegalAt table script report
IsVerdict table script report (Command session command) =
    IsFirstUnlawfulFrom table (ends_of script report) 1 script.sessions report.answers session command
    ⊎ (IsLawfulInside table script report × IsFirstUntrueFrom script.kinds (accepted script report) 1 script.sessions report.answers session command)
IsVerdict table script report (Final key worker) =
    IsLawfulInside table script report × IsTrueOfPuts script report × IsFirstUnlawfulFinal script.kinds (accepted script report) report.finals key worker

-- ---- wherever the keys live

-- the verdict is that of the report wherever the script is valid
abbrev pub IsVerdictWherever : Script → Report → Verdict → Type 0
IsVerdictWherever script report verdict = (table : List (List ℕ)) → IsValidScript script table → IsVerdict table script report verdict

-- a report has one verdict
abbrev pub VerdictsAreSingle : Type 0
VerdictsAreSingle = (table : List (List ℕ)) (script : Script) (report : Report) (one other : Verdict) → IsVerdict table script report one → IsVerdict table script report other → one ≡ other
