use Rattle.std.proofs.Common.{sym, subst}
use Rattle.report_reader.specs.Reads.{Reads}
use Rattle.report_lines.specs.Parts.{IsCounted}
use Rattle.report_lines.specs.Text.{count_text}
use Rattle.report_reader.proofs.ReadClocks.{count_cut}
use Rattle.report_lines.proofs.NamesLemmas.{tells_names}
use Rattle.report_reader.proofs.clocks.read_count.Goals as goal

pub returns-in_err-session : goal.returns-in_err-session
returns-in_err-session c =
    let script = c.args.script.now in
    subst (Reads (IsCounted script) (count_text script) c.args.text.now) (sym c.from_residual-in_err-session.ensures) (λ entry is same.
    let cut = count_cut script (tells_names script c.requires.0 c.requires.1) entry c.args.text.now c.in_ok-name.name.now c.in_ok-name.digits.now c.in_ok-name.ensures same in
    c.in_err-session.ensures entry.0 is.0 cut.0)

pub returns-in_err-count : goal.returns-in_err-count
returns-in_err-count c =
    let script = c.args.script.now in
    subst (Reads (IsCounted script) (count_text script) c.args.text.now) (sym c.from_residual-in_err-count.ensures) (λ entry is same.
    let cut = count_cut script (tells_names script c.requires.0 c.requires.1) entry c.args.text.now c.in_ok-name.name.now c.in_ok-name.digits.now c.in_ok-name.ensures same in
    c.in_err-count.ensures entry.1 is.1 cut.1)
