use Rattle.std.proofs.Common.{subst, sym}
use Rattle.outside.specs.Gathering.{Adds}
use Rattle.report_lines.specs.Text.{after_words, spaced}
use Rattle.report_text.proofs.WritesLemmas.{Adds-no_words, Adds-spaced, Adds-word}
use Rattle.report_text.proofs.report.write_after.Goals as goal

pub returns-in-None : goal.returns-in-None
returns-in-None g c =
    subst (λ after. Adds g.K.Sink.written g.K.Sink.faults c.args.out.now c.args.out.now (spaced (after_words c.args.script.now after))) (sym c.in-None.is) Adds-no_words

pub returns-in-Some : goal.returns-in-Some
returns-in-Some g c =
    subst (λ after. Adds g.K.Sink.written g.K.Sink.faults c.args.out.now c.write_spaced_session.new.out (spaced (after_words c.args.script.now after))) (sym c.in-Some.is)
    (Adds-word _ _ (Adds-spaced c.write.ensures c.write-in-Some.ensures) c.write_spaced_session.ensures)
