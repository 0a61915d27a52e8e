use Rattle.std.proofs.Common.{rules, ◌≡◌, true, false, sym, subst, ◌∙◌}
use Rattle.std.proofs.lemmas.Bool.{true≢false}
use Rattle.anna_check.specs.ByKey.{kinds_of}
use Rattle.anna_check.specs.AgainstPuts.{CanBeFinal}
use Rattle.anna_check.proofs.TrueLemmas.{final_unlawful, final_lawful, finals_lawful}
use Rattle.anna_check.proofs.against_puts.find_unlawful_final.Goals as goal

pub is_lawful_final-requires : goal.is_lawful_final-requires
is_lawful_final-requires c = (
  c.requires.0,
  c.requires.1,
  c.loop-last.invariant.stand (kinds_of c.args.accepted.now) c.requires.0 c.requires.1 c.requires.2,
  subst (CanBeFinal (kinds_of c.args.accepted.now) c.requires.0) (sym c.last-item.is) (c.requires.3 c.loop-last.last-index c.last-item.result c.loop-last-test.true),
)

pub returns-then-not-branch : goal.returns-then-not-branch
returns-then-not-branch c kinds workers puts stand =
    let refused : c.in_ok-is_lawful_final.field-0 ≡ false = search rules in
    final_unlawful kinds puts c.args.finals.now c.loop-last.last-index (c.loop-last.invariant.lawful kinds workers puts stand) c.last-item.result c.loop-last-test.true c.last-item.is
    (λ lawful. true≢false (sym ((c.in_ok-is_lawful_final.ensures.lawful kinds workers puts (c.loop-last.invariant.stand kinds workers puts stand)).1 lawful) ∙ refused))

pub loop-last-preserved : goal.loop-last-preserved
loop-last-preserved c =
    let passes : c.in_ok-is_lawful_final.field-0 ≡ true = search rules in
    record {
      stand = λ kinds workers puts stand. c.is_lawful_final.ensures.stand kinds workers puts (c.loop-last.invariant.stand kinds workers puts stand);
      lawful = λ kinds workers puts stand.
          final_lawful kinds puts c.args.finals.now c.loop-last.last-index (c.loop-last.invariant.lawful kinds workers puts stand) c.last-item.result c.loop-last-test.true c.last-item.is
          ((c.in_ok-is_lawful_final.ensures.lawful kinds workers puts (c.loop-last.invariant.stand kinds workers puts stand)).0 passes);
    }

pub returns : goal.returns
returns c kinds workers puts stand = finals_lawful kinds puts c.args.finals.now c.loop-last.last-index (c.loop-last.invariant.lawful kinds workers puts stand) (search rules)
