use Rattle.std.proofs.Common.{rules, ◌≡◌, ℕ, List, Option, None, MatchOption, sym, subst, arith}
use Rattle.std.specs.List.{AllZip}
use Rattle.std.proofs.lemmas.Slice.Zip.{AllZip-long}
use Rattle.session_known.specs.Lawful.{IsTrueOf}
use Rattle.session_known.specs.declared.report.Answer.{Answer}
use Rattle.session_known.specs.declared.script.Line.{Line}
use Rattle.session_known.specs.declared.script.SessionPlan.{SessionPlan}
use Rattle.anna_check.specs.ByKey.{kinds_of}
use Rattle.anna_check.specs.AgainstPuts.{CanAllBeHeldAgainst}
use Rattle.anna_check.specs.Unlawful.{IsFirstUntrue}
use Rattle.anna_check.proofs.SessionsLemmas.{zip_at}
use Rattle.anna_check.proofs.TrueLemmas.{session_untrue, session_true, sessions_true}
use Rattle.anna_check.proofs.against_puts.find_untrue.Goals as goal

pub bounds-answers-i : goal.bounds-answers-i
bounds-answers-i c =
    let each = AllZip-long (λ (plan : SessionPlan) (answers : List Answer). CanAllBeHeldAgainst (kinds_of c.args.accepted.now) c.requires.held.0 plan.lines answers) c.args.sessions.now c.args.answers.now c.requires.held.3 in
    omega (arith, each, c.loop-i-test.true)

pub first_untrue-requires : goal.first_untrue-requires
first_untrue-requires c =
    let kinds = kinds_of c.args.accepted.now in
    let workers = c.requires.held.0 in
    let Can : SessionPlan → List Answer → Type 0 = λ plan answers. CanAllBeHeldAgainst kinds workers plan.lines answers in
    let plan = c.index-sessions-i.result in
    let theirs = c.index-answers-i.result in
    let can : Can plan theirs = subst (λ (at : SessionPlan × List Answer). Can at.0 at.1) (λ j. (sym c.index-sessions-i.is j, sym c.index-answers-i.is j)) (zip_at Can c.args.sessions.now c.args.answers.now c.requires.held.3 c.loop-i.i plan theirs c.loop-i-test.true) in (
      workers,
      c.requires.held.1,
      c.loop-i.invariant.stand kinds workers c.requires.held.1 c.requires.held.2,
      subst (λ (at : List Line × List Answer). CanAllBeHeldAgainst kinds workers at.0 at.1) (λ j. (sym c.as_slice-lines.ensures j, sym c.as_slice.ensures j)) can,
    )

pub returns-in_err-found-clause-stand : goal.returns-in_err-found-clause-stand
returns-in_err-found-clause-stand c kinds workers puts stand = c.first_untrue.ensures.stand kinds workers puts (c.loop-i.invariant.stand kinds workers puts stand)

pub returns-in-Some-clause-true_of : goal.returns-in-Some-clause-true_of
returns-in-Some-clause-true_of c kinds workers puts stand =
    let each = AllZip-long (λ (plan : SessionPlan) (answers : List Answer). CanAllBeHeldAgainst (kinds_of c.args.accepted.now) c.requires.held.0 plan.lines answers) c.args.sessions.now c.args.answers.now c.requires.held.3 in
    let first = subst (λ (at : Option ℕ × List Line × List Answer). MatchOption at.0 (AllZip (IsTrueOf kinds puts) at.1 at.2) (IsFirstUntrue kinds puts at.1 at.2)) (λ j. (c.in-Some.is j, c.as_slice-lines.ensures j, c.as_slice.ensures j)) (c.in_ok-found.ensures.true_of kinds workers puts (c.loop-i.invariant.stand kinds workers puts stand)) in
    session_untrue kinds puts c.args.sessions.now c.args.answers.now c.loop-i.i (c.loop-i.invariant.true_of kinds workers puts stand) each c.index-sessions-i.result c.index-answers-i.result c.loop-i-test.true c.index-sessions-i.is c.index-answers-i.is c.in-Some.command first

pub returns-in-Some-clause-stand : goal.returns-in-Some-clause-stand
returns-in-Some-clause-stand c kinds workers puts stand = c.first_untrue.ensures.stand kinds workers puts (c.loop-i.invariant.stand kinds workers puts stand)

pub loop-i-preserved : goal.loop-i-preserved
loop-i-preserved c =
    let each = AllZip-long (λ (plan : SessionPlan) (answers : List Answer). CanAllBeHeldAgainst (kinds_of c.args.accepted.now) c.requires.held.0 plan.lines answers) c.args.sessions.now c.args.answers.now c.requires.held.3 in
    let none : c.in_ok-found.found ≡ None = search rules in
    record {
      stand = λ kinds workers puts stand. c.first_untrue.ensures.stand kinds workers puts (c.loop-i.invariant.stand kinds workers puts stand);
      true_of = λ kinds workers puts stand.
          session_true kinds puts c.args.sessions.now c.args.answers.now c.loop-i.i (c.loop-i.invariant.true_of kinds workers puts stand) each c.index-sessions-i.result c.index-answers-i.result c.loop-i-test.true c.index-sessions-i.is c.index-answers-i.is
          (subst (λ (at : Option ℕ × List Line × List Answer). MatchOption at.0 (AllZip (IsTrueOf kinds puts) at.1 at.2) (IsFirstUntrue kinds puts at.1 at.2)) (λ j. (none j, c.as_slice-lines.ensures j, c.as_slice.ensures j)) (c.in_ok-found.ensures.true_of kinds workers puts (c.loop-i.invariant.stand kinds workers puts stand)));
    }

pub returns-clause-true_of : goal.returns-clause-true_of
returns-clause-true_of c kinds workers puts stand =
    let each = AllZip-long (λ (plan : SessionPlan) (answers : List Answer). CanAllBeHeldAgainst (kinds_of c.args.accepted.now) c.requires.held.0 plan.lines answers) c.args.sessions.now c.args.answers.now c.requires.held.3 in
    sessions_true kinds puts c.args.sessions.now c.args.answers.now c.loop-i.i (c.loop-i.invariant.true_of kinds workers puts stand) each (search rules)
