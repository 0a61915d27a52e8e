use Rattle.std.proofs.Common.{ℕ, List, Option, Some, Err, sym, subst, ◌∙◌, arith}
use Rattle.script_reader.specs.Grammar.{IsScript, IsReadAs}
use Rattle.script_reader.specs.declared.fault.ScriptFault.{ScriptFault}
use Rattle.outside.specs.Outside.{TookMost}
use Rattle.anna_run.specs.Run.{most_taken}
use Rattle.anna_run.specs.declared.words.Command.TheVariants.{Run}
use Rattle.anna_run.proofs.Taking.{took_whole}
use Rattle.anna_run.proofs.run.run_script.Goals as goal

pub returns-in-Err-Refused-clause-complete : goal.returns-in-Err-Refused-clause-complete
returns-in-Err-Refused-clause-complete g c = λ input script told is rose.
    let most : ℕ = most_taken (Some (Run c.args.gossip)) in
    let P : Option (List ℕ) → Type 0 = λ left. TookMost most left (g.S.Source.left c.read_all.new.src) c.in-Ok.bytes.items in
    let same = took_whole most (g.S.Source.left c.read_all.new.src) input c.in-Ok.bytes.items (subst P told c.in-Ok.ensures.ok) (omega (arith, is.short)) in
    let Q : List ℕ → Type 0 = λ text. IsScript text script in
    let never = c.in-Err-Refused.ensures.accepts script (subst Q (sym (c.deref.ensures.value ∙ same)) is) in
    let R : ScriptFault → Type 0 = λ fault. IsReadAs script (Err fault) in
    absurd (subst R c.in-Err-Refused.field-0-is never)
