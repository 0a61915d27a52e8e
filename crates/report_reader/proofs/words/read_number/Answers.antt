use Rattle.std.proofs.Common.{◌≡◌, rules, sym, ap, ◌∙◌}
use Rattle.std.specs.Fmt.{decimal}
use Rattle.report_reader.proofs.ReadWords.{decimal_is_text, decimal_parsed}
use Rattle.report_reader.proofs.words.read_number.Goals as goal

pub returns-in_default : goal.returns-in_default
returns-in_default c = λ x small same. c.in_default.ensures.cases.0 (decimal_is_text x c.args.text.now small same)

pub returns-in_default-parse : goal.returns-in_default-parse
returns-in_default-parse c = λ x small same.
    let read : c.in-Ok.written.now ≡ c.args.text.now = search rules in
    let parsed = decimal_parsed x c.args.text.now c.in-Ok.written.now c.parse.result small same read c.parse.ensures.value.0 in
    cc

pub returns-then-not-is_written : goal.returns-then-not-is_written
returns-then-not-is_written c = λ x small same.
    let read : c.in-Ok.written.now ≡ c.args.text.now = search rules in
    let parsed = decimal_parsed x c.args.text.now c.in-Ok.written.now c.parse.result small same read c.parse.ensures.value.0 in
    let number : c.in-Ok-parse.number ≡ x = cc in
    let written = c.is_written.ensures.1 (same ∙ ap decimal (sym number)) in
    cc
