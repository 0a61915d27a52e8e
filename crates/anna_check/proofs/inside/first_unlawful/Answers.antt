use Rattle.std.proofs.Common.{rules, ◌≡◌, true, false, sym, ◌∙◌}
use Rattle.std.proofs.lemmas.Bool.{true≢false}
use Rattle.anna_check.proofs.LinesLemmas.{judged_unlawful, judged_lawful, judged_all}
use Rattle.anna_check.proofs.inside.first_unlawful.Goals as goal

pub returns-then-not-is_lawful-clause-lawful : goal.returns-then-not-is_lawful-clause-lawful
returns-then-not-is_lawful-clause-lawful c =
    let are = c.loop-i.invariant in
    let refused : c.is_lawful.result ≡ false = search rules in
    judged_unlawful c.args.placement.now c.args.judged.now c.args.workers c.args.lines.now c.args.answers.now c.args.accepted.now c.loop-i.i c.loop-i.judged c.loop-i.seen c.loop-i.accepted are c.index-lines-i.result c.index-answers-i.result c.loop-i-test.true c.requires.judged.each c.index-lines-i.is c.index-answers-i.is
    (λ lawful. true≢false (sym ((c.is_lawful.ensures c.args.workers are.earlier are.joined).1 lawful) ∙ refused))

pub take_in-requires-clause-lawful : goal.take_in-requires-clause-lawful
take_in-requires-clause-lawful c =
    let are = c.loop-i.invariant in
    let passes : c.is_lawful.result ≡ true = search rules in
    (c.args.placement.now, are.earlier, (c.is_lawful.ensures c.args.workers are.earlier are.joined).0 passes)

pub loop-i-preserved : goal.loop-i-preserved
loop-i-preserved c =
    let are = c.loop-i.invariant in
    let passes : c.is_lawful.result ≡ true = search rules in
    judged_lawful c.args.placement.now c.args.judged.now c.args.workers c.args.lines.now c.args.answers.now c.args.accepted.now c.loop-i.i c.loop-i.judged c.loop-i.seen c.loop-i.accepted are c.index-lines-i.result c.index-answers-i.result c.loop-i-test.true c.requires.judged.each c.index-lines-i.is c.index-answers-i.is
    c.take_in.new.session c.take_in-in-loop-i.new.self c.take_in.new.accepted ((c.is_lawful.ensures c.args.workers are.earlier are.joined).0 passes) (search rules) c.take_in.ensures.client c.in_ok-take_in.ensures.state
    (c.in_ok-take_in-2.ensures c.args.workers are.earlier are.joined) c.in_ok-take_in.ensures.kinds c.in_ok-take_in.ensures.puts

pub returns-clause-puts : goal.returns-clause-puts
returns-clause-puts c =
    (judged_all c.args.placement.now c.args.judged.now c.args.workers c.args.lines.now c.args.answers.now c.args.accepted.now c.loop-i.i c.loop-i.judged c.loop-i.seen c.loop-i.accepted c.loop-i.invariant (search rules) c.requires.judged.each).1
