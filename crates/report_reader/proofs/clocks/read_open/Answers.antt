use Rattle.report_reader.proofs.ReadClocks.{open_cut}
use Rattle.report_lines.proofs.NamesLemmas.{tells_names}
use Rattle.report_reader.proofs.clocks.read_open.Goals as goal

pub returns-in_default-read_key : goal.returns-in_default-read_key
returns-in_default-read_key c = λ entry is same.
    let script = c.args.script.now in
    let cut = open_cut script (tells_names script c.requires.0 c.requires.1) entry c.args.text.now c.in-Some.name.now c.in-Some.word.now c.in-Some.ensures same in
    c.in_default-read_key.ensures entry.0 is.0 cut.0

pub returns-in_default-2 : goal.returns-in_default-2
returns-in_default-2 c = λ entry is same.
    let script = c.args.script.now in
    let cut = open_cut script (tells_names script c.requires.0 c.requires.1) entry c.args.text.now c.in-Some.name.now c.in-Some.word.now c.in-Some.ensures same in
    (rw c.in_default-2.is at c.in_ok-clock.ensures) entry.1 is.1 cut.1
