use Rattle.std.proofs.Common.{◌++◌, None, codes, refl, sym, subst, arith}
use Rattle.std.specs.List.{All, flat_map}
use Rattle.outside.specs.Gathering.{Wrote}
use Rattle.outside.specs.Outside.{GrewByFront}
use Rattle.report_text.proofs.ReportLemmas.{finals_few}
use Rattle.session_known.specs.Form.{HasFewDots}
use Rattle.big_work.specs.Parts.{first_cells, head_text}
use Rattle.big_work.proofs.TextLemmas.{few_puts, summary_is, short_line}
use Rattle.big_work.proofs.WroteLemmas.{front_of_more, front_then, wrote_failed, wrote_then}
use Rattle.big_work.proofs.summary.write_summary.Goals as goal

pub count_puts-puts-requires : goal.count_puts-puts-requires
count_puts-puts-requires g c =
    let legal = c.requires.legal in
    omega (arith, few_puts c.args.script.now c.args.report.now legal.table legal.legal c.as_slice.result.now c.as_slice.ensures, c.count_commands-commands.ensures)

pub write_cells-requires : goal.write_cells-requires
write_cells-requires g c =
    let legal = c.requires.legal in
    record { few = subst (All (λ cell. HasFewDots cell.value)) (sym c.as_slice-2.ensures) (finals_few c.args.script.now legal.table c.args.report.now legal.legal.form) }

pub returns-in_err-write_head-clause-wrote : goal.returns-in_err-write_head-clause-wrote
returns-in_err-write_head-clause-wrote g c =
    let legal = c.requires.legal in
    let script = c.args.script.now in
    let report = c.args.report.now in
    let head = head_text c.args.number c.count_commands-commands.result c.count_puts-puts.result in
    let cells = flat_map (short_line script) (first_cells None report.finals) in
    let before = g.K.Sink.written c.args.sink.now in
    let now = g.K.Sink.written c.write_head.new.sink in
    let whole =
    summary_is script report legal.table legal.legal c.as_slice.result.now c.as_slice.ensures c.args.number _ _ report.finals c.count_commands-commands.ensures c.count_puts-puts.ensures refl in
    wrote_failed before now _ c.from_residual.result c.from_residual.ensures.0
    (subst (GrewByFront before now) whole (front_of_more before now head (cells ++ codes "end\n") c.in_err-write_head.ensures.wrote))

pub returns-in_err-write_cells-clause-wrote : goal.returns-in_err-write_cells-clause-wrote
returns-in_err-write_cells-clause-wrote g c =
    let legal = c.requires.legal in
    let script = c.args.script.now in
    let head = head_text c.args.number c.count_commands-commands.result c.count_puts-puts.result in
    let cells = flat_map (short_line script) (first_cells None c.as_slice-2.result.now) in
    let before = g.K.Sink.written c.args.sink.now in
    let headed = g.K.Sink.written c.write_head.new.sink in
    let now = g.K.Sink.written c.write_cells.new.sink in
    let whole =
    summary_is script c.args.report.now legal.table legal.legal c.as_slice.result.now c.as_slice.ensures c.args.number _ _ c.as_slice-2.result.now
    c.count_commands-commands.ensures c.count_puts-puts.ensures c.as_slice-2.ensures in
    let front = front_of_more headed now cells (codes "end\n") c.in_err-write_cells.ensures.wrote in
    wrote_failed before now _ c.from_residual-in_err-write_cells.result c.from_residual-in_err-write_cells.ensures.0
    (subst (GrewByFront before now) whole (front_then before headed now head (cells ++ codes "end\n") c.in_ok-write_head.ensures.wrote front))

pub returns-clause-wrote : goal.returns-clause-wrote
returns-clause-wrote g c =
    let legal = c.requires.legal in
    let script = c.args.script.now in
    let head = head_text c.args.number c.count_commands-commands.result c.count_puts-puts.result in
    let cells = flat_map (short_line script) (first_cells None c.as_slice-2.result.now) in
    let before = g.K.Sink.written c.args.sink.now in
    let headed = g.K.Sink.written c.write_head.new.sink in
    let listed = g.K.Sink.written c.write_cells.new.sink in
    let now = g.K.Sink.written c.write_end.new.sink in
    let whole =
    summary_is script c.args.report.now legal.table legal.legal c.as_slice.result.now c.as_slice.ensures c.args.number _ _ c.as_slice-2.result.now
    c.count_commands-commands.ensures c.count_puts-puts.ensures c.as_slice-2.ensures in
    subst (λ text. Wrote before now text c.write_end.result) whole
    (wrote_then before headed now head (cells ++ codes "end\n") c.write_end.result c.in_ok-write_head.ensures.wrote
    (wrote_then headed listed now cells (codes "end\n") c.write_end.result c.in_ok-write_cells.ensures.wrote c.write_end.ensures.wrote))
