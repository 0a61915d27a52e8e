use Rattle.std.proofs.Common.{arith}
use Rattle.report_reader.proofs.ReadWords.{number_told}
use Rattle.report_reader.proofs.words.read_small_number.Goals as goal

pub returns-in_default : goal.returns-in_default
returns-in_default c = λ x small same.
    let read = c.in_ok-number.ensures in
    let number = number_told c.in_ok-number.number x c.args.text.now read.0 (omega arith) read.1 same in
    c.in_default.ensures (omega arith)
