use Rattle.report_lines.proofs.NamesLemmas.{tells_names}
use Rattle.report_reader.proofs.ReadDots.{amounts_cut, sum_cut}
use Rattle.report_reader.proofs.ReadRows.{no_cut}
use Rattle.report_reader.proofs.dots.read_sum.Goals as goal

pub returns-in_err-added : goal.returns-in_err-added
returns-in_err-added c =
    rw c.from_residual-in_err-added.ensures
    (λ entry is same. no_cut 45 c.in_ok-dot.amounts.now _ _ c.in_err-added.ensures (sum_cut c.args.script.now (tells_names _ _ c.requires.1) entry c.args.text.now c.in_ok-dot.dot.now c.in_ok-dot.amounts.now c.in_ok-dot.ensures is same).1)

pub returns-in_err-session : goal.returns-in_err-session
returns-in_err-session c =
    rw c.from_residual-in_err-session.ensures
    (λ entry is same. c.in_err-session.ensures (entry.0.session, entry.0.number) is.0 (sum_cut c.args.script.now (tells_names _ _ c.requires.1) entry c.args.text.now c.in_ok-dot.dot.now c.in_ok-dot.amounts.now c.in_ok-dot.ensures is same).0)

pub returns-in_err-added-2 : goal.returns-in_err-added-2
returns-in_err-added-2 c =
    rw c.from_residual-in_err-added-2.ensures
    (λ entry is same.
    let cut = sum_cut c.args.script.now (tells_names _ _ c.requires.1) entry c.args.text.now c.in_ok-dot.dot.now c.in_ok-dot.amounts.now c.in_ok-dot.ensures is same in
    c.in_err-added-2.ensures entry.1.added is.1.added_fits (amounts_cut entry.1.added entry.1.taken c.in_ok-dot.amounts.now c.in_ok-added.added.now c.in_ok-added.taken.now c.in_ok-added.ensures cut.1).0)

pub returns-in_err-taken : goal.returns-in_err-taken
returns-in_err-taken c =
    rw c.from_residual-in_err-taken.ensures
    (λ entry is same.
    let cut = sum_cut c.args.script.now (tells_names _ _ c.requires.1) entry c.args.text.now c.in_ok-dot.dot.now c.in_ok-dot.amounts.now c.in_ok-dot.ensures is same in
    c.in_err-taken.ensures entry.1.taken is.1.taken_fits (amounts_cut entry.1.added entry.1.taken c.in_ok-dot.amounts.now c.in_ok-added.added.now c.in_ok-added.taken.now c.in_ok-added.ensures cut.1).1)
