use Rattle.std.proofs.Common.{ℕ, List, [], Option, MatchOption, IfNone, subst}
use Rattle.std.proofs.lemmas.Result.{IfOk-weaker}
use Rattle.session_known.specs.Accepted.{accepted_from, ends_from, ends_of}
use Rattle.session_known.specs.Legal.{AreLawfulFrom}
use Rattle.session_known.proofs.NumberedLemmas.{accepted_are_next}
use Rattle.session_known.specs.declared.report.Answer.{Answer}
use Rattle.anna_check.specs.ByKey.{AreByKey}
use Rattle.anna_check.specs.Unlawful.{IsFirstUnlawfulFrom}
use Rattle.anna_check.proofs.FormLemmas.{report_can_be_held, finals_can_be_held}
use Rattle.anna_check.proofs.VerdictLemmas.{verdict_of_puts}
use Rattle.anna_check.proofs.judge.judge.Goals as goal

pub hold_against-requires-clause-answers : goal.hold_against-requires-clause-answers
hold_against-requires-clause-answers c = report_can_be_held c.args.script.now c.args.placement.now c.args.report.now c.requires.valid c.requires.form

pub hold_against-requires-clause-finals : goal.hold_against-requires-clause-finals
hold_against-requires-clause-finals c = finals_can_be_held c.args.script.now c.args.placement.now c.args.report.now c.requires.valid c.requires.form

pub hold_against-requires-clause-numbered : goal.hold_against-requires-clause-numbered
hold_against-requires-clause-numbered c =
    let script = c.args.script.now in
    let report = c.args.report.now in
    let table = c.args.placement.now in
    let lawful = subst (λ (at : Option (ℕ × ℕ) × List (List Answer)). MatchOption at.0 (AreLawfulFrom table (ends_from [] 1 script.sessions at.1) 1 script.sessions at.1) (λ place. IsFirstUnlawfulFrom table (ends_from [] 1 script.sessions at.1) 1 script.sessions at.1 place.0 place.1)) (λ j. (c.in-None.is j, c.as_slice-answers.ensures j)) c.in_ok-session.ensures.lawful in
    accepted_are_next table (ends_of script report) 1 script.sessions report.answers lawful

pub hold_against-requires-clause-puts : goal.hold_against-requires-clause-puts
hold_against-requires-clause-puts c =
    let script = c.args.script.now in
    let none = subst (λ kinds. AreByKey kinds [] c.in_ok-accepted.accepted) c.as_slice.ensures c.in_ok-accepted.ensures in
    subst (λ (at : Option (ℕ × ℕ) × List (List Answer)). IfNone at.0 (AreByKey script.kinds (accepted_from (ends_from [] 1 script.sessions at.1) 1 script.sessions at.1) c.find_unlawful.new.accepted)) (λ j. (c.in-None.is j, c.as_slice-answers.ensures j)) (c.in_ok-session.ensures.puts script.kinds [] none)

pub returns : goal.returns
returns c =
    let script = c.args.script.now in
    let report = c.args.report.now in
    let table = c.args.placement.now in
    let lawful = subst (λ (at : Option (ℕ × ℕ) × List (List Answer)). MatchOption at.0 (AreLawfulFrom table (ends_from [] 1 script.sessions at.1) 1 script.sessions at.1) (λ place. IsFirstUnlawfulFrom table (ends_from [] 1 script.sessions at.1) 1 script.sessions at.1 place.0 place.1)) (λ j. (c.in-None.is j, c.as_slice-answers.ensures j)) c.in_ok-session.ensures.lawful in
    IfOk-weaker c.hold_against.result _ _ (verdict_of_puts table script report c.requires.form lawful) c.hold_against.ensures
