use Rattle.std.proofs.Common.{rules, ◌≡◌, true, false, sym, subst, ◌∙◌, arith}
use Rattle.std.proofs.lemmas.Bool.{true≢false}
use Rattle.std.proofs.lemmas.Slice.Zip.{AllZip-long}
use Rattle.session_known.specs.declared.report.Answer.{Answer}
use Rattle.session_known.specs.declared.script.Line.{Line}
use Rattle.anna_check.specs.ByKey.{kinds_of}
use Rattle.anna_check.specs.AgainstPuts.{CanBeHeldAgainst}
use Rattle.anna_check.proofs.SessionsLemmas.{zip_at}
use Rattle.anna_check.proofs.TrueLemmas.{held_untrue, held_true, held_all}
use Rattle.anna_check.proofs.against_puts.first_untrue.Goals as goal

pub bounds-answers-i : goal.bounds-answers-i
bounds-answers-i c =
    let each = AllZip-long (CanBeHeldAgainst (kinds_of c.args.accepted.now) c.requires.0) c.args.lines.now c.args.answers.now c.requires.3.each in
    omega (arith, each, c.loop-i-test.true)

pub is_true_of-requires : goal.is_true_of-requires
is_true_of-requires c =
    let Can : Line → Answer → Type 0 = CanBeHeldAgainst (kinds_of c.args.accepted.now) c.requires.0 in
    let line = c.index-lines-i.result in
    let answer = c.index-answers-i.result in (
      c.requires.0,
      c.requires.1,
      c.loop-i.invariant.stand (kinds_of c.args.accepted.now) c.requires.0 c.requires.1 c.requires.2,
      subst (λ (at : Line × Answer). Can at.0 at.1) (λ j. (sym c.index-lines-i.is j, sym c.index-answers-i.is j)) (zip_at Can c.args.lines.now c.args.answers.now c.requires.3.each c.loop-i.i line answer c.loop-i-test.true),
    )

pub returns-in_err-is_true_of-clause-stand : goal.returns-in_err-is_true_of-clause-stand
returns-in_err-is_true_of-clause-stand c kinds workers puts stand = c.is_true_of.ensures.stand kinds workers puts (c.loop-i.invariant.stand kinds workers puts stand)

pub returns-then-not-branch-clause-true_of : goal.returns-then-not-branch-clause-true_of
returns-then-not-branch-clause-true_of c kinds workers puts stand =
    let each = AllZip-long (CanBeHeldAgainst (kinds_of c.args.accepted.now) c.requires.0) c.args.lines.now c.args.answers.now c.requires.3.each in
    let refused : c.in_ok-is_true_of.field-0 ≡ false = search rules in
    held_untrue kinds puts c.args.lines.now c.args.answers.now c.loop-i.i (c.loop-i.invariant.true_of kinds workers puts stand) each c.index-lines-i.result c.index-answers-i.result c.loop-i-test.true c.index-lines-i.is c.index-answers-i.is
    (λ is. true≢false (sym ((c.in_ok-is_true_of.ensures.true_of kinds workers puts (c.loop-i.invariant.stand kinds workers puts stand)).1 is) ∙ refused))

pub returns-then-not-branch-clause-stand : goal.returns-then-not-branch-clause-stand
returns-then-not-branch-clause-stand c kinds workers puts stand = c.is_true_of.ensures.stand kinds workers puts (c.loop-i.invariant.stand kinds workers puts stand)

pub loop-i-preserved : goal.loop-i-preserved
loop-i-preserved c =
    let each = AllZip-long (CanBeHeldAgainst (kinds_of c.args.accepted.now) c.requires.0) c.args.lines.now c.args.answers.now c.requires.3.each in
    let passes : c.in_ok-is_true_of.field-0 ≡ true = search rules in
    record {
      stand = λ kinds workers puts stand. c.is_true_of.ensures.stand kinds workers puts (c.loop-i.invariant.stand kinds workers puts stand);
      true_of = λ kinds workers puts stand.
          held_true kinds puts c.args.lines.now c.args.answers.now c.loop-i.i (c.loop-i.invariant.true_of kinds workers puts stand) each c.index-lines-i.result c.index-answers-i.result c.loop-i-test.true c.index-lines-i.is c.index-answers-i.is
          ((c.in_ok-is_true_of.ensures.true_of kinds workers puts (c.loop-i.invariant.stand kinds workers puts stand)).0 passes);
    }

pub returns-clause-true_of : goal.returns-clause-true_of
returns-clause-true_of c kinds workers puts stand =
    let each = AllZip-long (CanBeHeldAgainst (kinds_of c.args.accepted.now) c.requires.0) c.args.lines.now c.args.answers.now c.requires.3.each in
    held_all kinds puts c.args.lines.now c.args.answers.now c.loop-i.i (c.loop-i.invariant.true_of kinds workers puts stand) each (search rules)
