use Rattle.placement.specs.Config.{placed}
use Rattle.tests_texts.proofs.writing_tests.write_back.Goals as goal

pub write_report-requires : goal.write_report-requires
write_report-requires g c =
    let table = placed c.in_ok-script.script.config in
    record { valid = (table, c.in_ok-script.ensures.valid, (c.in_ok-report.ensures.reading table c.in_ok-script.ensures.valid).0) }
