use Rattle.std.proofs.Common.{◌↔◌, IsTrue, None, sym, subst}
use Rattle.session_known.specs.Lawful.{IsLawful, IsLawfulReply, IsLawfulAgain}
use Rattle.session_known.specs.Session.{Client, Knowledge}
use Rattle.session_known.specs.declared.report.Answer.{Answer}
use Rattle.session_known.specs.declared.report.Answer.TheVariants as answers
use Rattle.session_known.specs.declared.script.Line.{Line}
use Rattle.session_known.specs.declared.script.Line.TheVariants as lines
use Rattle.anna_check.proofs.lawful.is_lawful.Goals as goal

pub returns-in-Get-Got : goal.returns-in-Get-Got
returns-in-Get-Got c workers earlier joined =
    let table = c.args.placement.now in
    let client = c.args.session.now.client in
    let state = c.args.session.now.state in
    let is : IsTrue c.is_lawful_reply.result ↔ IsLawful table client state earlier (lines.Get c.in-Get-Got.key c.in-Get-Got.named) (answers.Got c.in-Get-Got.worker c.in-Get-Got.shown) =
    subst (λ (at : Client × Knowledge × Line). IsTrue c.is_lawful_reply.result ↔ IsLawfulReply table at.0 at.1 earlier at.2 c.in-Get-Got.key (c.in-Get-Got.named) c.in-Get-Got.worker c.in-Get-Got.shown.clock)
    (λ i. ((c.known-known.ensures i).client, (c.known-known.ensures i).knows, c.in-Get-Got.is-0 i)) (c.is_lawful_reply.ensures workers earlier joined) in
    subst (λ (at : Line × Answer). IsTrue c.is_lawful_reply.result ↔ IsLawful table client state earlier at.0 at.1) (λ i. (sym c.in-Get-Got.is-0 i, sym c.in-Get-Got.is-1 i)) is

pub returns-in-Await-Got : goal.returns-in-Await-Got
returns-in-Await-Got c workers earlier joined =
    let table = c.args.placement.now in
    let client = c.args.session.now.client in
    let state = c.args.session.now.state in
    let is : IsTrue c.is_lawful_reply-in-Await-Got.result ↔ IsLawful table client state earlier (lines.Await c.in-Await-Got.key c.in-Await-Got.session-0 c.in-Await-Got.count-0) (answers.Got c.in-Await-Got.worker c.in-Await-Got.shown) =
    subst (λ (at : Client × Knowledge × Line). IsTrue c.is_lawful_reply-in-Await-Got.result ↔ IsLawfulReply table at.0 at.1 earlier at.2 c.in-Await-Got.key (None) c.in-Await-Got.worker c.in-Await-Got.shown.clock)
    (λ i. ((c.known-known.ensures i).client, (c.known-known.ensures i).knows, c.in-Await-Got.is-0 i)) (c.is_lawful_reply-in-Await-Got.ensures workers earlier joined) in
    subst (λ (at : Line × Answer). IsTrue c.is_lawful_reply-in-Await-Got.result ↔ IsLawful table client state earlier at.0 at.1) (λ i. (sym c.in-Await-Got.is-0 i, sym c.in-Await-Got.is-1 i)) is

pub returns-in-Get-Again : goal.returns-in-Get-Again
returns-in-Get-Again c workers earlier joined =
    let table = c.args.placement.now in
    let client = c.args.session.now.client in
    let state = c.args.session.now.state in
    let is : IsTrue c.is_lawful_again.result ↔ IsLawful table client state earlier (lines.Get c.in-Get-Again.key c.in-Get-Again.worker-0) (answers.Again c.in-Get-Again.asks c.in-Get-Again.worker c.in-Get-Again.clock) =
    subst (λ (at : Client × Knowledge × Line). IsTrue c.is_lawful_again.result ↔ IsLawfulAgain table at.0 at.1 earlier at.2 c.in-Get-Again.key c.in-Get-Again.asks c.in-Get-Again.worker c.in-Get-Again.clock)
    (λ i. ((c.known-known.ensures i).client, (c.known-known.ensures i).knows, c.in-Get-Again.is-0 i)) (c.is_lawful_again.ensures workers earlier joined) in
    subst (λ (at : Line × Answer). IsTrue c.is_lawful_again.result ↔ IsLawful table client state earlier at.0 at.1) (λ i. (sym c.in-Get-Again.is-0 i, sym c.in-Get-Again.is-1 i)) is

pub returns-in-Await-Again : goal.returns-in-Await-Again
returns-in-Await-Again c workers earlier joined =
    let table = c.args.placement.now in
    let client = c.args.session.now.client in
    let state = c.args.session.now.state in
    let is : IsTrue c.is_lawful_again-in-Await-Again.result ↔ IsLawful table client state earlier (lines.Await c.in-Await-Again.key c.in-Await-Again.session-0 c.in-Await-Again.count-0) (answers.Again c.in-Await-Again.asks c.in-Await-Again.worker c.in-Await-Again.clock) =
    subst (λ (at : Client × Knowledge × Line). IsTrue c.is_lawful_again-in-Await-Again.result ↔ IsLawfulAgain table at.0 at.1 earlier at.2 c.in-Await-Again.key c.in-Await-Again.asks c.in-Await-Again.worker c.in-Await-Again.clock)
    (λ i. ((c.known-known.ensures i).client, (c.known-known.ensures i).knows, c.in-Await-Again.is-0 i)) (c.is_lawful_again-in-Await-Again.ensures workers earlier joined) in
    subst (λ (at : Line × Answer). IsTrue c.is_lawful_again-in-Await-Again.result ↔ IsLawful table client state earlier at.0 at.1) (λ i. (sym c.in-Await-Again.is-0 i, sym c.in-Await-Again.is-1 i)) is
