use Rattle.placement.specs.Config.{placed}
use Rattle.tests_texts.proofs.tests.judged.Goals as goal

pub check-requires : goal.check-requires
check-requires c =
    let table = placed c.in-Ok.script.config in
    record { form = (table, c.in-Ok.ensures.valid, (c.in-Ok-read_report.ensures.reading table c.in-Ok.ensures.valid).0) }
