use Rattle.report_lines.proofs.NamesLemmas.{tells_names}
use Rattle.report_reader.proofs.ReadRows.{no_cut}
use Rattle.report_reader.proofs.ReadValueParts.{stamp_parts, stamp_ends}
use Rattle.report_reader.proofs.values.read_stamp.Goals as goal

pub returns-in_err-session : goal.returns-in_err-session
returns-in_err-session c =
    rw c.from_residual-in_err-session.ensures
    (λ stamp is same. no_cut 47 c.in_ok-number.later.now _ _ c.in_err-session.ensures (stamp_parts c.args.script.now c.args.text.now c.in_ok-number.number.now c.in_ok-number.later.now stamp c.in_ok-number.ensures same).1)

pub returns-in_err-number-2 : goal.returns-in_err-number-2
returns-in_err-number-2 c =
    rw c.from_residual-in_err-number-2.ensures
    (λ stamp is same. c.in_err-number-2.ensures stamp.0 is.0 (stamp_parts c.args.script.now c.args.text.now c.in_ok-number.number.now c.in_ok-number.later.now stamp c.in_ok-number.ensures same).0)

pub returns-in_err-session-2 : goal.returns-in_err-session-2
returns-in_err-session-2 c =
    rw c.from_residual-in_err-session-2.ensures
    (λ stamp is same. c.in_err-session-2.ensures stamp.1 is.1
    (stamp_ends c.args.script.now (tells_names _ _ c.requires.1) c.args.text.now c.in_ok-number.number.now c.in_ok-number.later.now c.in_ok-session.session.now c.in_ok-session.place.now stamp c.in_ok-number.ensures c.in_ok-session.ensures same).0)

pub returns-in_err-place : goal.returns-in_err-place
returns-in_err-place c =
    rw c.from_residual-in_err-place.ensures
    (λ stamp is same. c.in_err-place.ensures stamp.2 is.2
    (stamp_ends c.args.script.now (tells_names _ _ c.requires.1) c.args.text.now c.in_ok-number.number.now c.in_ok-number.later.now c.in_ok-session.session.now c.in_ok-session.place.now stamp c.in_ok-number.ensures c.in_ok-session.ensures same).1)
