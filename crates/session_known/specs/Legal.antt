-- Legal reports: what a store with these consistency levels owes whoever runs a script.
use Rattle.std.specs.Prelude.{ℕ, ◌+◌, ◌≤◌, List, [], ◌∷◌, All, ⊤}
use Rattle.std.specs.List.{AllZip}
use Rattle.placement.specs.Config.{IsPlacement}
use Rattle.clock_lattice.specs.Clock.{count_of}
use Rattle.composed_value.specs.Sound.{IsSound}
use Rattle.composed_value.specs.declared.kind.Kind.{Kind}
use Rattle.composed_value.specs.declared.put.Put as puts
use Rattle.composed_value.specs.Keyed.{puts_on, kind_at}
use Rattle.session_known.specs.Accepted.{client_of, start_of, ends_of, accepted}
use Rattle.session_known.specs.Form.{HasForm}
use Rattle.session_known.specs.Lawful.{AreLawful, IsTrueOf}
use Rattle.session_known.specs.Session.{Knowledge}
use Rattle.session_known.specs.declared.report.Answer.{Answer}
use Rattle.session_known.specs.declared.report.FinalCell.{FinalCell}
use Rattle.session_known.specs.declared.report.Report.{Report}
use Rattle.session_known.specs.declared.script.Script.{Script}
use Rattle.session_known.specs.declared.script.SessionPlan.{SessionPlan}

-- the answers of each session are lawful, of the sessions from a number on, where `ends` is what each knows after its last line
abbrev pub AreLawfulFrom : List (List ℕ) → List Knowledge → ℕ → List SessionPlan → List (List Answer) → Type 0
AreLawfulFrom table ends number [] [] = ⊤
AreLawfulFrom table ends number (plan ∷ plans) (answers ∷ others) = AreLawful table (client_of number plan) (start_of ends plan) [] plan.lines answers × AreLawfulFrom table ends (number + 1) plans others
AreLawfulFrom table ends number plans answers = ⊥

-- the final cell of a replica is sound, and counts every accepted put of its key
pub record IsLawfulFinal (kinds : List Kind) (accepted : List (ℕ × puts.Put)) (cell : FinalCell) : Type 0 where
  pub sound : IsSound (kind_at kinds cell.key) (puts_on cell.key accepted) cell.clock cell.top cell.value
  pub counts_all : All (λ put. put.number ≤ count_of put.session cell.clock) (puts_on cell.key accepted)

-- A legal report of a script, where the keys live as the table says: it has the script's form; the answers of each session are lawful;
-- what they say of the accepted puts is true; and the final cell of every replica is the join of all accepted puts of its key.
pub record IsLegalAt (table : List (List ℕ)) (script : Script) (report : Report) : Type 0 where
  pub form : HasForm script table report
  pub answers : AreLawfulFrom table (ends_of script report) 1 script.sessions report.answers
  pub true_of_puts : AllZip (λ plan answers. AllZip (IsTrueOf script.kinds (accepted script report)) plan.lines answers) script.sessions report.answers
  pub finals : All (IsLawfulFinal script.kinds (accepted script report)) report.finals

-- A legal report of a script.
pub record IsLegal (script : Script) (report : Report) : Type 0 where
  pub table : List (List ℕ)
  pub placed : IsPlacement script.config table
  pub legal : IsLegalAt table script report
