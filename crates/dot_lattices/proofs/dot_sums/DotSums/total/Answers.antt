use Rattle.std.proofs.Common.{sym, ap, ◌∙◌, arith}
use Rattle.dot_lattices.proofs.DotSumsLemmas.{one_more, told_at}
use Rattle.dot_lattices.proofs.dot_sums.DotSums.total.Goals as goal

pub loop-i-preserved : goal.loop-i-preserved
loop-i-preserved c =
    let entry = told_at c.args.self.now c.loop-i.i _ c.attest.ensures c.in-Some.ensures in
    let added = ap (λ told. told.2) entry.2 ∙ sym c.from-added.ensures in
    let taken = ap (λ told. told.3) entry.2 ∙ sym c.from-taken.ensures in (
      one_more (λ entry. entry.1.added) c.args.self.now c.loop-i.i entry.0 c.loop-i.added c.from-added.result entry.1 added (omega (arith, added, entry.3.added_fits)) c.loop-i.invariant.0,
      one_more (λ entry. entry.1.taken) c.args.self.now c.loop-i.i entry.0 c.loop-i.taken c.from-taken.result entry.1 taken (omega (arith, taken, entry.3.taken_fits)) c.loop-i.invariant.1,
    )
