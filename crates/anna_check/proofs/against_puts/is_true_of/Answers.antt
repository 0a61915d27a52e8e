use Rattle.std.proofs.Common.{◌↔◌, IsTrue, IfOk, sym, subst}
use Rattle.session_known.specs.Lawful.{IsTrueOf}
use Rattle.session_known.specs.declared.report.Answer.{Answer}
use Rattle.session_known.specs.declared.script.Line.{Line}
use Rattle.anna_check.proofs.against_puts.is_true_of.Goals as goal

pub returns-in-Get-Got-clause-true_of : goal.returns-in-Get-Got-clause-true_of
returns-in-Get-Got-clause-true_of c kinds workers puts stand =
    subst (λ (at : Line × Answer). IfOk c.is_sound_reply.result (λ yes. IsTrue yes ↔ IsTrueOf kinds puts at.0 at.1)) (λ i. (sym c.in-Get-Got.is-0 i, sym c.in-Get-Got.is-1 i)) (c.is_sound_reply.ensures.sound kinds workers puts stand)

pub returns-in-Get-Got-clause-stand : goal.returns-in-Get-Got-clause-stand
returns-in-Get-Got-clause-stand c = c.is_sound_reply.ensures.stand

pub returns-in-Await-Got-clause-true_of : goal.returns-in-Await-Got-clause-true_of
returns-in-Await-Got-clause-true_of c kinds workers puts stand =
    subst (λ (at : Line × Answer). IfOk c.is_sound_reply-in-Await-Got.result (λ yes. IsTrue yes ↔ IsTrueOf kinds puts at.0 at.1)) (λ i. (sym c.in-Await-Got.is-0 i, sym c.in-Await-Got.is-1 i)) (c.is_sound_reply-in-Await-Got.ensures.sound kinds workers puts stand)

pub returns-in-Await-Got-clause-stand : goal.returns-in-Await-Got-clause-stand
returns-in-Await-Got-clause-stand c = c.is_sound_reply-in-Await-Got.ensures.stand

pub returns-in-Get-Again-clause-true_of : goal.returns-in-Get-Again-clause-true_of
returns-in-Get-Again-clause-true_of c kinds workers puts stand =
    subst (λ (at : Line × Answer). IsTrue c.counts_accepted.result ↔ IsTrueOf kinds puts at.0 at.1) (λ i. (sym c.in-Get-Again.is-0 i, sym c.in-Get-Again.is-1 i)) (c.counts_accepted.ensures kinds puts stand.puts)

pub returns-in-Await-Again-clause-true_of : goal.returns-in-Await-Again-clause-true_of
returns-in-Await-Again-clause-true_of c kinds workers puts stand =
    subst (λ (at : Line × Answer). IsTrue c.counts_accepted-in-Await-Again.result ↔ IsTrueOf kinds puts at.0 at.1) (λ i. (sym c.in-Await-Again.is-0 i, sym c.in-Await-Again.is-1 i)) (c.counts_accepted-in-Await-Again.ensures kinds puts stand.puts)
