use Rattle.std.proofs.Common.{arith}
use Rattle.report_reader.proofs.ReadWords.{worker_told}
use Rattle.report_reader.proofs.words.read_worker.Goals as goal
use Rattle.report_reader.proofs.words.read_worker.Goals.{then-number-lt1-via-then-number-lt1, then-number-lt1-via-else-number-lt1+then-script-number}

pub returns-in_default-try_from : goal.returns-in_default-try_from
returns-in_default-try_from c = λ x is same.
    let read = c.in_ok-number.ensures in
    let few = c.requires.1.config.workers_most in
    let number = worker_told c.args.script.now.config.workers x c.in_ok-number.number c.args.text.now few is same read.0 read.1 in
    c.in_default-try_from.ensures (omega (arith, is.1))

pub returns-then-number-lt1 : goal.returns-then-number-lt1
returns-then-number-lt1 c = λ x is same.
    let read = c.in_ok-number.ensures in
    let few = c.requires.1.config.workers_most in
    let told = worker_told c.args.script.now.config.workers x c.in_ok-number.number c.args.text.now few is same read.0 read.1 in
    elim c.then-number-lt1.branch [ then-number-lt1-via-then-number-lt1 w ↦ omega (arith, is.0) | then-number-lt1-via-else-number-lt1+then-script-number w ↦ omega (arith, is.1) ]
