use Rattle.std.proofs.Common.{[]}
use Rattle.outside.proofs.GatheringLemmas.{Adds-as}
use Rattle.report_lines.specs.Text.{awaited_words}
use Rattle.report_text.proofs.ReportLemmas.{answer_line, got_few}
use Rattle.report_text.proofs.WritesLemmas.{Adds-line, Adds-words}
use Rattle.report_text.proofs.answers.write_answer.Goals as goal

pub write_got-requires : goal.write_got-requires
write_got-requires g c = got_few c.args.script.now c.args.line.now c.args.answer.now _ _ c.requires c.in-Get-Got.is-1

pub write_shown-requires : goal.write_shown-requires
write_shown-requires g c = got_few c.args.script.now c.args.line.now c.args.answer.now _ _ c.requires c.in-Await-Got.is-1

pub returns-in-Put-Put : goal.returns-in-Put-Put
returns-in-Put-Put g c =
    Adds-as (answer_line c.args.script.now c.args.line.now _ c.args.answer.now _ c.in-Put-Put.is-0 c.in-Put-Put.is-1) c.write_put.ensures

pub returns-in-Put-Held : goal.returns-in-Put-Held
returns-in-Put-Held g c =
    Adds-as (answer_line c.args.script.now c.args.line.now _ c.args.answer.now _ c.in-Put-Held.is-0 c.in-Put-Held.is-1) c.write_other_put.ensures

pub returns-in-Put-Worn : goal.returns-in-Put-Worn
returns-in-Put-Worn g c =
    Adds-as (answer_line c.args.script.now c.args.line.now _ c.args.answer.now _ c.in-Put-Worn.is-0 c.in-Put-Worn.is-1) c.write_other_put-in-Put-Worn.ensures

pub returns-in-Get-Got : goal.returns-in-Get-Got
returns-in-Get-Got g c =
    Adds-as (answer_line c.args.script.now c.args.line.now _ c.args.answer.now _ c.in-Get-Got.is-0 c.in-Get-Got.is-1) c.write_got.ensures

pub returns-in-Get-Again : goal.returns-in-Get-Again
returns-in-Get-Again g c =
    Adds-as (answer_line c.args.script.now c.args.line.now _ c.args.answer.now _ c.in-Get-Again.is-0 c.in-Get-Again.is-1) c.write_get_again.ensures

pub returns-in-Await-Got : goal.returns-in-Await-Got
returns-in-Await-Got g c =
    let script = c.args.script.now in
    let got = c.in-Await-Got in
    Adds-as (answer_line c.args.script.now c.args.line.now _ c.args.answer.now _ c.in-Await-Got.is-0 c.in-Await-Got.is-1) (Adds-line _ _ c.write.ensures (Adds-words (awaited_words script got.key got.session got.count []) _ c.write_awaited.ensures c.write_shown.ensures) c.write-in-Await-Got.ensures)

pub returns-in-Await-Again : goal.returns-in-Await-Again
returns-in-Await-Again g c =
    let script = c.args.script.now in
    let got = c.in-Await-Again in
    Adds-as (answer_line c.args.script.now c.args.line.now _ c.args.answer.now _ c.in-Await-Again.is-0 c.in-Await-Again.is-1) (Adds-line _ _ c.write-in-Await-Again.ensures (Adds-words (awaited_words script got.key got.session got.count []) _ c.write_awaited-in-Await-Again.ensures c.write_gave_up.ensures) c.write-in-Await-Again-2.ensures)

pub returns-in-Commit-Committed : goal.returns-in-Commit-Committed
returns-in-Commit-Committed g c =
    Adds-as (answer_line c.args.script.now c.args.line.now _ c.args.answer.now _ c.in-Commit-Committed.is-0 c.in-Commit-Committed.is-1) c.write_commit.ensures

pub returns-in-Abort-Aborted : goal.returns-in-Abort-Aborted
returns-in-Abort-Aborted g c =
    Adds-as (answer_line c.args.script.now c.args.line.now _ c.args.answer.now _ c.in-Abort-Aborted.is-0 c.in-Abort-Aborted.is-1) c.write_abort.ensures
