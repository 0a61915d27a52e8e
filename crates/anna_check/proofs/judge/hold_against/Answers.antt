use Rattle.std.proofs.Common.{rules, ◌≡◌, List, Some, None, All, sym, subst}
use Rattle.std.specs.List.{AllZip}
use Rattle.composed_value.specs.declared.kind.Kind.{Kind}
use Rattle.session_known.specs.Accepted.{accepted}
use Rattle.session_known.specs.declared.report.Answer.{Answer}
use Rattle.session_known.specs.declared.report.FinalCell.{FinalCell}
use Rattle.session_known.specs.declared.script.SessionPlan.{SessionPlan}
use Rattle.anna_check.specs.AgainstPuts.{StandFor, CanAllBeHeldAgainst, CanBeFinal}
use Rattle.anna_check.proofs.VerdictLemmas.{all_stand, same_untrue, same_unlawful}
use Rattle.anna_check.proofs.judge.hold_against.Goals as goal

pub find_untrue-requires-clause-held : goal.find_untrue-requires-clause-held
find_untrue-requires-clause-held c =
    let kinds = c.args.script.now.kinds in
    let workers = c.args.script.now.config.workers in
    let made = accepted c.args.script.now c.args.report.now in
    let stand = all_stand kinds c.as_slice.result.now workers made c.args.accepted.now c.in_ok-cells.cells c.requires.puts c.requires.numbered c.as_slice.ensures (c.in_ok-cells.ensures.of_their_puts made c.requires.numbered) in (
      workers,
      made,
      subst (λ kinds. StandFor kinds workers made c.args.accepted.now c.in_ok-cells.cells) (sym c.requires.puts.kinds_are) stand,
      subst (λ (at : List Kind × List SessionPlan × List (List Answer)). AllZip (λ plan answers. CanAllBeHeldAgainst at.0 workers plan.lines answers) at.1 at.2) (λ j. (sym c.requires.puts.kinds_are j, sym c.as_slice-sessions.ensures j, sym c.as_slice-answers.ensures j)) c.requires.answers,
    )

pub returns-in-Some : goal.returns-in-Some
returns-in-Some c =
    let kinds = c.args.script.now.kinds in
    let workers = c.args.script.now.config.workers in
    let made = accepted c.args.script.now c.args.report.now in
    let stand = all_stand kinds c.as_slice.result.now workers made c.args.accepted.now c.in_ok-cells.cells c.requires.puts c.requires.numbered c.as_slice.ensures (c.in_ok-cells.ensures.of_their_puts made c.requires.numbered) in
    let place_is : c.in_ok-session.field-0 ≡ Some (c.in-Some.session, c.in-Some.command) = search rules in
    same_untrue kinds made place_is c.as_slice-sessions.ensures c.as_slice-answers.ensures (c.in_ok-session.ensures.true_of kinds workers made stand)

pub find_unlawful_final-requires : goal.find_unlawful_final-requires
find_unlawful_final-requires c =
    let kinds = c.args.script.now.kinds in
    let workers = c.args.script.now.config.workers in
    let made = accepted c.args.script.now c.args.report.now in
    let stand = all_stand kinds c.as_slice.result.now workers made c.args.accepted.now c.in_ok-cells.cells c.requires.puts c.requires.numbered c.as_slice.ensures (c.in_ok-cells.ensures.of_their_puts made c.requires.numbered) in (
      workers,
      made,
      subst (λ kinds. StandFor kinds workers made c.args.accepted.now c.find_untrue.new.cells) (sym c.requires.puts.kinds_are) (c.find_untrue.ensures.stand kinds workers made stand),
      subst (λ (at : List Kind × List FinalCell). All (CanBeFinal at.0 workers) at.1) (λ j. (sym c.requires.puts.kinds_are j, sym c.as_slice-finals.ensures j)) c.requires.finals,
    )

pub returns-in-Some-2 : goal.returns-in-Some-2
returns-in-Some-2 c =
    let kinds = c.args.script.now.kinds in
    let workers = c.args.script.now.config.workers in
    let made = accepted c.args.script.now c.args.report.now in
    let stand = all_stand kinds c.as_slice.result.now workers made c.args.accepted.now c.in_ok-cells.cells c.requires.puts c.requires.numbered c.as_slice.ensures (c.in_ok-cells.ensures.of_their_puts made c.requires.numbered) in
    let all_true : c.in_ok-session.field-0 ≡ None = search rules in
    let last_is : c.in_ok-key.field-0 ≡ Some (c.in-Some-2.key, c.in-Some-2.worker) = search rules in
    let untrue = same_untrue kinds made all_true c.as_slice-sessions.ensures c.as_slice-answers.ensures (c.in_ok-session.ensures.true_of kinds workers made stand) in
    let finals = same_unlawful kinds made last_is c.as_slice-finals.ensures (c.in_ok-key.ensures kinds workers made (c.find_untrue.ensures.stand kinds workers made stand)) in
    (untrue, finals)

pub returns : goal.returns
returns c =
    let kinds = c.args.script.now.kinds in
    let workers = c.args.script.now.config.workers in
    let made = accepted c.args.script.now c.args.report.now in
    let stand = all_stand kinds c.as_slice.result.now workers made c.args.accepted.now c.in_ok-cells.cells c.requires.puts c.requires.numbered c.as_slice.ensures (c.in_ok-cells.ensures.of_their_puts made c.requires.numbered) in
    let all_true : c.in_ok-session.field-0 ≡ None = search rules in
    let all_lawful : c.in_ok-key.field-0 ≡ None = search rules in
    let untrue = same_untrue kinds made all_true c.as_slice-sessions.ensures c.as_slice-answers.ensures (c.in_ok-session.ensures.true_of kinds workers made stand) in
    let finals = same_unlawful kinds made all_lawful c.as_slice-finals.ensures (c.in_ok-key.ensures kinds workers made (c.find_untrue.ensures.stand kinds workers made stand)) in
    (untrue, finals)
