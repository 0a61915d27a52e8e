use Rattle.std.proofs.Common.{ℕ, List, Result, Ok, Err, IfOk, IfErr}
use Rattle.placement.specs.Config.{placed}
use Rattle.session_known.specs.Script.{IsValidScript}
use Rattle.session_known.specs.declared.script.Script.{Script}
use Rattle.script_reader.specs.Grammar.{IsScript, IsRefused, IsWhyNoScript, IsReadAs, IsRefusedAs}
use Rattle.script_reader.proofs.GrammarLaws.{script_not_refused, one_script, one_refusal}
use Rattle.script_reader.proofs.ValidLaws.{script_is_valid}
use Rattle.script_reader.specs.declared.fault.ScriptFault.{ScriptFault}
use Rattle.script_reader.specs.declared.fault.ScriptFault.TheVariants.{Refused, NoMemory}
use Rattle.script_reader.proofs.grammar.read_script.Goals as goal

valid : (text : List ℕ) (result : Result Script ScriptFault) → IfOk result (IsScript text) → IfOk result (λ script. IsValidScript script (placed script.config))
valid text (Ok script) is = script_is_valid text script is
valid text (Err fault) is = tt

accepted : (text : List ℕ) (result : Result Script ScriptFault) → IfOk result (IsScript text) → IfErr result (IsWhyNoScript text) → (script : Script) → IsScript text script → IsReadAs script result
accepted text (Ok found) ok err script is = one_script text found script ok is
accepted text (Err (Refused line code)) ok err script is = script_not_refused text script line code is err
accepted text (Err NoMemory) ok err script is = tt

rejected : (text : List ℕ) (result : Result Script ScriptFault) → IfOk result (IsScript text) → IfErr result (IsWhyNoScript text) → (line code : ℕ) → IsRefused text line code → IsRefusedAs line code result
rejected text (Ok found) ok err line code is = script_not_refused text found line code ok is
rejected text (Err (Refused line' code')) ok err line code is = one_refusal text line' code' line code err is
rejected text (Err NoMemory) ok err line code is = tt

pub returns-clause-valid : goal.returns-clause-valid
returns-clause-valid c = valid c.args.bytes.now c.read_text.result c.read_text.ensures.script

pub returns-clause-accepts : goal.returns-clause-accepts
returns-clause-accepts c = accepted c.args.bytes.now c.read_text.result c.read_text.ensures.script c.read_text.ensures.refused

pub returns-clause-refuses : goal.returns-clause-refuses
returns-clause-refuses c = rejected c.args.bytes.now c.read_text.result c.read_text.ensures.script c.read_text.ensures.refused
