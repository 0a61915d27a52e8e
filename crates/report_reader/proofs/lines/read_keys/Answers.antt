use Rattle.std.proofs.Common.{◌+◌, ◌<◌, [], length, refl, ap, subst, ◌∙◌, arith}
use Rattle.std.proofs.lemmas.List.{take_all}
use Rattle.report_lines.proofs.NamesLemmas.{tells_names}
use Rattle.report_lines.specs.Text.{bare_line, key_words, placed_words}
use Rattle.report_reader.specs.Cuts.{has_byte}
use Rattle.report_reader.specs.declared.ReportFault.TheVariants.{Form}
use Rattle.report_reader.specs.ReadLines.{Exactly, HasGotExactly, IsPartFault, exact_dues}
use Rattle.report_reader.proofs.ReadLineLemmas.{exact_next, exact_fault, fault_first, fault_told, got_line}
use Rattle.report_reader.proofs.ReadPartLemmas.{all_keys, key_at, key_lacks, keys_before, keys_count, replicas_are, table_count, wanted_out}
use Rattle.report_reader.proofs.lines.read_keys.Goals as goal

pub read_exactly-requires-clause-room : goal.read_exactly-requires-clause-room
read_exactly-requires-clause-room c =
    omega (arith, keys_before c.args.script.now c.args.lines.now c.loop-i.lines c.loop-i.i c.loop-i.invariant, c.requires.room, c.loop-i-test.true, c.keys-i-end.ensures.keys, table_count c.args.script.now c.args.placement.now c.requires.valid)

pub read_exactly-requires-clause-line : goal.read_exactly-requires-clause-line
read_exactly-requires-clause-line c =
    let names = tells_names c.args.script.now c.args.placement.now c.requires.valid in
    ap (has_byte 10) (c.deref-in-loop-i.ensures.value ∙ c.in_ok-line.ensures ∙ ap (λ workers. bare_line (key_words c.args.script.now (c.loop-i.i + 1) workers)) (c.deref.ensures.value ∙ c.in_ok-workers.ensures ∙ replicas_are c.args.script.now c.args.placement.now c.requires.valid (c.loop-i.i + 1) c.replicas.result.now c.replicas.ensures.replicas)) ∙ key_lacks c.args.script.now names (c.loop-i.i + 1)

pub returns-in_err-read_exactly-clause-fault : goal.returns-in_err-read_exactly-clause-fault
returns-in_err-read_exactly-clause-fault c =
    let script = c.args.script.now in
    let words = placed_words script (c.loop-i.i + 1) in
    let within : c.loop-i.i < length script.config.keys = omega (arith, c.loop-i-test.true, c.keys-i-end.ensures.keys, table_count script c.args.placement.now c.requires.valid) in
    let out = wanted_out script words c.deref-in-loop-i.result.now c.loop-i.lines.0 (c.deref-in-loop-i.ensures.value ∙ c.in_ok-line.ensures ∙ ap (λ workers. bare_line (key_words c.args.script.now (c.loop-i.i + 1) workers)) (c.deref.ensures.value ∙ c.in_ok-workers.ensures ∙ replicas_are c.args.script.now c.args.placement.now c.requires.valid (c.loop-i.i + 1) c.replicas.result.now c.replicas.ensures.replicas)) c.in_err-read_exactly.ensures.fault.1 in
    let fault = exact_fault script (all_keys script) c.args.lines.now c.loop-i.i c.loop-i.lines words (Form c.loop-i.lines.1) (omega (arith, keys_count script, within)) (key_at script c.loop-i.i within) c.loop-i.invariant (fault_first script (Exactly words) [] c.loop-i.lines c.loop-i.lines.1 refl out) in
    fault_told c.from_residual-in_err-read_exactly.result (IsPartFault script (exact_dues (all_keys script)) c.args.lines.now) c.from_residual-in_err-read_exactly.ensures.1 c.in_err-read_exactly.ensures.fault.0 fault

pub loop-i-preserved : goal.loop-i-preserved
loop-i-preserved c =
    let script = c.args.script.now in
    let words = placed_words script (c.loop-i.i + 1) in
    let within : c.loop-i.i < length script.config.keys = omega (arith, c.loop-i-test.true, c.keys-i-end.ensures.keys, table_count script c.args.placement.now c.requires.valid) in
    exact_next script (all_keys script) c.args.lines.now c.loop-i.i c.loop-i.lines c.read_exactly.new.lines words (omega (arith, keys_count script, within)) (key_at script c.loop-i.i within) c.loop-i.invariant
    (got_line script words c.deref-in-loop-i.result.now c.loop-i.lines c.read_exactly.new.lines (c.deref-in-loop-i.ensures.value ∙ c.in_ok-line.ensures ∙ ap (λ workers. bare_line (key_words c.args.script.now (c.loop-i.i + 1) workers)) (c.deref.ensures.value ∙ c.in_ok-workers.ensures ∙ replicas_are c.args.script.now c.args.placement.now c.requires.valid (c.loop-i.i + 1) c.replicas.result.now c.replicas.ensures.replicas)) c.in_ok-read_exactly.ensures.ok)

pub returns-clause-got : goal.returns-clause-got
returns-clause-got c = subst (λ lines. HasGotExactly c.args.script.now lines c.args.lines.now c.loop-i.lines) (take_all c.loop-i.i (all_keys c.args.script.now) (omega (arith, c.loop-i-test.false, c.keys-i-end.ensures.keys, keys_count c.args.script.now, table_count c.args.script.now c.args.placement.now c.requires.valid))) c.loop-i.invariant
