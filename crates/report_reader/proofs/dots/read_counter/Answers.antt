use Rattle.std.proofs.Common.{rules, ◌≡◌, codes, length, sym, ap, ◌∙◌, w64, arith}
use Rattle.std.specs.Fmt.{signed_decimal}
use mir.Val.{SFits}
use Rattle.std.proofs.lemmas.Int.{to_z-of_z}
use Rattle.std.proofs.lemmas.List.{append_cancel_right}
use Rattle.dot_lattices.specs.DotSums.{total_of}
use Rattle.report_lines.proofs.NamesLemmas.{tells_names}
use Rattle.report_lines.specs.Text.{sums_text}
use Rattle.report_reader.specs.ReadDots.{AreSumsIn}
use Rattle.report_reader.proofs.ReadDots.{counter_parts, sums_row}
use Rattle.report_reader.proofs.ReadRows.{none_reads, row_laws, row_of, row_told}
use Rattle.report_reader.proofs.ReadValueParts.{not_said}
use Rattle.report_reader.proofs.dots.read_counter.Goals.{then-len-gt-MOST_DOTS-via-then-len-gt-MOST_DOTS, then-len-gt-MOST_DOTS-via-else-len-gt-MOST_DOTS+then-not-is_written}
use Rattle.report_reader.proofs.dots.read_counter.Goals as goal

pub returns-in_default-before_brace : goal.returns-in_default-before_brace
returns-in_default-before_brace c = λ sums is same.
    let parts = counter_parts c.args.script.now sums c.args.text.now c.in-Some.total.now c.in-Some.later.now c.in-Some.ensures (not_said _ c.is_none.result c.is_none.ensures c.if-is_none.false) same in
    c.in_default-before_brace.ensures (sums_text c.args.script.now sums) parts.2

pub returns-in_default-2 : goal.returns-in_default-2
returns-in_default-2 c = λ sums is same.
    let script = c.args.script.now in
    let parts = counter_parts script sums c.args.text.now c.in-Some.total.now c.in-Some.later.now c.in-Some.ensures (not_said _ c.is_none.result c.is_none.ensures c.if-is_none.false) same in
    none_reads _ _ _ _ c.in_ok-sums.ensures c.in_default-2.is sums (row_of (AreSumsIn script) sums parts.0 is.0) (append_cancel_right _ _ (codes "}") (sym c.in-Some-before_brace.ensures ∙ parts.2))

pub returns-then-len-gt-MOST_DOTS : goal.returns-then-len-gt-MOST_DOTS
returns-then-len-gt-MOST_DOTS c = λ sums is same.
    let script = c.args.script.now in
    let names = tells_names _ _ c.requires.1 in
    let parts = counter_parts script sums c.args.text.now c.in-Some.total.now c.in-Some.later.now c.in-Some.ensures (not_said _ c.is_none.result c.is_none.ensures c.if-is_none.false) same in
    let read = rw c.in-Some-2.is at c.in_ok-sums.ensures in
    let dots = append_cancel_right _ _ (codes "}") (sym c.in-Some-before_brace.ensures ∙ parts.2) in
    let single : sums ≡ c.in-Some-2.sums = row_told (row_laws (sums_row script names)) sums c.in-Some-2.sums (row_of (AreSumsIn script) sums parts.0 is.0) read.0 (sym dots ∙ read.1) in
    elim c.then-len-gt-MOST_DOTS.branch [
      | then-len-gt-MOST_DOTS-via-then-len-gt-MOST_DOTS w ↦ omega (arith, is.1, ap length single, c.len.ensures, w.if-len-gt-MOST_DOTS.true)
      | then-len-gt-MOST_DOTS-via-else-len-gt-MOST_DOTS+then-not-is_written w ↦
          let fits : SFits w64 w.total.result = search rules in
          not_said _ w.is_written.result w.is_written.ensures w.if-not-is_written.true (parts.1 ∙ ap (λ sums. signed_decimal (total_of sums)) single ∙ ap signed_decimal (sym w.total.ensures ∙ sym (to_z-of_z w64 w.total.result fits)))
    ]
