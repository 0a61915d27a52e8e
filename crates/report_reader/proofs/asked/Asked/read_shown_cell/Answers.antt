use Rattle.report_reader.proofs.ReadCellLemmas.{no_shown}
use Rattle.report_reader.proofs.asked.Asked.read_shown_cell.Goals as goal

pub returns-in_default-2 : goal.returns-in_default-2
returns-in_default-2 c =
    let cut = c.in-Some.ensures in
    no_shown c.args.self.now.script.now c.args.self.now.level c.args.self.now.key c.args.words.now c.in-Some.cell.now c.in_ok-cell.field-0 c.in_default-2.is cut.cases.1 c.in_ok-cell.ensures
