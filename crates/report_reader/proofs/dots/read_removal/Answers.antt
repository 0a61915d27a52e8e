use Rattle.std.proofs.Common.{length, ap, sym, ◌∙◌, arith}
use Rattle.report_lines.proofs.NamesLemmas.{tells_names}
use Rattle.report_reader.proofs.ReadDots.{clocked_single}
use Rattle.report_reader.proofs.dots.read_removal.Goals as goal

pub returns-then-is_empty : goal.returns-then-is_empty
returns-then-is_empty c = λ removal is same.
    let script = c.args.script.now in
    let read = rw c.in-Some.is at c.in_ok-word.ensures in
    let single = clocked_single script (tells_names _ _ c.requires.1) removal (c.in-Some.word, c.in-Some.seen) is.0 read.0 (sym same ∙ read.1) in
    let none = c.is_empty.ensures.0 c.if-is_empty.true in
    omega (arith, is.1, ap (λ clocked. length clocked.1) single, ap length none)
