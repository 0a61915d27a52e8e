-- A small script, of one key with two replicas and one session whose transaction puts once, and a legal report of it, for the tests.
use Rattle.std.specs.Prelude.{ℕ, [], ◌∷◌, codes, None}
use Rattle.lattice_laws.specs.declared.maybe.Maybe.TheVariants.{Is}
use Rattle.composed_value.specs.declared.kind.Kind.TheVariants as kinds
use Rattle.composed_value.specs.declared.payload.Payload.TheVariants as payloads
use Rattle.composed_value.specs.declared.value.Value.TheVariants as values
use Rattle.session_known.specs.declared.report.Answer.TheVariants as answers
use Rattle.session_known.specs.declared.report.FinalCell.{FinalCell}
use Rattle.session_known.specs.declared.report.Report.{Report}
use Rattle.session_known.specs.declared.script.Level.TheVariants.{Committed}
use Rattle.session_known.specs.declared.script.Line.TheVariants as lines
use Rattle.session_known.specs.declared.script.Script.{Script}
use Rattle.session_known.specs.declared.script.SessionPlan.{SessionPlan}

abbrev pub small_plan : SessionPlan
small_plan = record { name = codes "s"; level = Committed; after = None; lines = lines.Begin ∷ lines.Put 1 (payloads.Max 7) ∷ lines.Commit ∷ [] }

abbrev pub small_script : Script
small_script = record {
  version = 1;
  config = record { workers = 2; factor = 1; keys = record { name = codes "a"; pins = 2 ∷ 1 ∷ []; factor = None } ∷ [] };
  round = 4;
  kinds = kinds.Max ∷ [];
  sessions = small_plan ∷ [];
}

-- the cell of each replica in the end
abbrev pub small_cell : ℕ → FinalCell
small_cell worker = record { key = 1; worker = worker; clock = (1, 1) ∷ []; top = 1; value = values.Max (Is 7) }

abbrev pub small_report : Report
small_report = record { answers = (answers.Begun ∷ answers.Held ∷ answers.Committed 1 1 ∷ []) ∷ []; finals = small_cell 1 ∷ small_cell 2 ∷ [] }
