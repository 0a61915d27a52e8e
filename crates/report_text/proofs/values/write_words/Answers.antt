use Rattle.std.proofs.Common.{sym}
use Rattle.outside.proofs.GatheringLemmas.{Adds-then}
use Rattle.report_text.proofs.WritesLemmas.{Adds-item}
use Rattle.report_text.proofs.values.write_words.Goals as goal

pub loop-i-preserved : goal.loop-i-preserved
loop-i-preserved g c = Adds-item 44 (λ word. word) c.args.words.now c.loop-i.i c.in-Some.word.now (sym c.in-Some.ensures) c.loop-i.invariant (Adds-then c.write_separator.ensures c.write_word.ensures)
