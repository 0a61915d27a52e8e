use Rattle.std.proofs.Common.{sym, ap, ◌∙◌, ◌++◌, map, decimal, get_or}
use Rattle.std.proofs.lemmas.List.{append-nil, take_all, get_or_default}
use Rattle.report_lines.proofs.RenderingLemmas.{spaced-nil}
use Rattle.report_lines.specs.Text.{spaced}
use Rattle.report_reader.proofs.ReadPartLemmas.{numbers_more}
use Rattle.report_reader.proofs.lines.push_numbers.Goals as goal

pub loop-number-init : goal.loop-number-init
loop-number-init c = sym (append-nil c.args.line.now.items) ∙ ap (λ more. c.args.line.now.items ++ more) spaced-nil

pub loop-number-preserved : goal.loop-number-preserved
loop-number-preserved c =
    numbers_more c.args.line.now.items c.loop-number.line.items c.extend_from_slice.new.self.items c.extend_from_slice-in-loop-number.new.self.items c.args.numbers.now c.loop-number.number-index (get_or c.args.numbers.now c.loop-number.number-index 0) c.loop-number-test.true (get_or_default c.args.numbers.now c.loop-number.number-index 0 _ c.loop-number-test.true) c.loop-number.invariant
    c.in_ok-extend_from_slice.ensures.items (c.in_ok-extend_from_slice-2.ensures.items ∙ ap (λ text. c.extend_from_slice.new.self.items ++ text) (c.as_bytes.ensures.value ∙ c.format.ensures.text))

pub returns : goal.returns
returns c = c.loop-number.invariant ∙ ap (λ numbers. c.args.line.now.items ++ spaced (map decimal numbers)) (take_all c.loop-number.number-index c.args.numbers.now c.loop-number-test.false)
