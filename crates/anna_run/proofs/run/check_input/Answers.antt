use Rattle.std.proofs.Common.{ℕ, List, Option, Some, sym, subst, ◌∙◌, arith}
use Rattle.outside.specs.Outside.{TookMost}
use Rattle.anna_run.specs.Run.{most_taken, AreChecked}
use Rattle.anna_run.specs.declared.words.Command.TheVariants.{Check}
use Rattle.anna_run.proofs.Taking.{took_whole}
use Rattle.anna_run.proofs.run.check_input.Goals as goal

pub returns-clause-complete : goal.returns-clause-complete
returns-clause-complete g c = λ input script report told checked rose.
    let P : Option (List ℕ) → Type 0 = λ left. TookMost (most_taken (Some Check)) left (g.S.Source.left c.read_all.new.src) c.in-Ok.bytes.items in
    let same = took_whole (most_taken (Some Check)) (g.S.Source.left c.read_all.new.src) input c.in-Ok.bytes.items (subst P told c.in-Ok.ensures.ok) (omega (arith, checked.short)) in
    c.check_bytes.ensures.complete script report (subst (λ bytes. AreChecked bytes script report) (sym (c.deref.ensures.value ∙ same)) checked)
