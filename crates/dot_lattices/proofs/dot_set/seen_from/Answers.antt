use Rattle.std.proofs.Common.{IsTrue, sym, subst, arith}
use Rattle.std.specs.FinMap.{is_sorted}
use Rattle.basic_lattices.specs.Word.{word_cmp}
use Rattle.dot_lattices.proofs.DotSetLemmas.{found_nowhere, found_past, found_there, plain_same}
use Rattle.dot_lattices.proofs.dot_set.seen_from.Goals as goal

pub returns-in-Equal-clause-seen : goal.returns-in-Equal-clause-seen
returns-in-Equal-clause-seen c =
    found_there c.args.word.now c.args.removals.now c.loop-place.place (c.in-Some.removed.now, c.in-Some.seen.now) c.loop-place.invariant (sym c.in-Some.ensures) (sym c.in-Equal.ensures)

pub returns-in-Greater-clause-seen : goal.returns-in-Greater-clause-seen
returns-in-Greater-clause-seen c =
    let rises = subst (λ removals. IsTrue (is_sorted word_cmp removals)) (plain_same c.args.removals.now) c.attest.ensures.ascending in
    found_past c.args.word.now c.args.removals.now c.loop-place.place (c.in-Some.removed.now, c.in-Some.seen.now) rises c.loop-place.invariant (sym c.in-Some.ensures) (sym c.in-Greater.ensures)

pub returns-clause-seen : goal.returns-clause-seen
returns-clause-seen c = found_nowhere c.args.word.now c.args.removals.now c.loop-place.place (let long = c.len-place-end.ensures in omega (arith, long, c.loop-place-test.false)) c.loop-place.invariant
