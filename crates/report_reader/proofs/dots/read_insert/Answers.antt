use Rattle.report_reader.proofs.ReadDots.{insert_cut}
use Rattle.report_reader.proofs.dots.read_insert.Goals as goal

pub returns-in_err-session : goal.returns-in_err-session
returns-in_err-session c =
    rw c.from_residual-in_err-session.ensures
    (λ insert is same. c.in_err-session.ensures (insert.dot.session, insert.dot.number) is.1 (insert_cut c.args.script.now insert c.args.text.now c.in_ok-word.word.now c.in_ok-word.dot.now c.in_ok-word.ensures is same).1)

pub returns-in_err-word-2 : goal.returns-in_err-word-2
returns-in_err-word-2 c =
    rw c.from_residual-in_err-word-2.ensures
    (λ insert is same. c.in_err-word-2.ensures insert.word is.0 (insert_cut c.args.script.now insert c.args.text.now c.in_ok-word.word.now c.in_ok-word.dot.now c.in_ok-word.ensures is same).0)
