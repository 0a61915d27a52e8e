use Rattle.std.proofs.Common.{◌≡◌, ◌∷◌, [], codes, length, refl, sym, ap, subst, arith}
use Rattle.report_lines.specs.Text.{head_lines}
use Rattle.report_reader.specs.declared.ReportFault.TheVariants.{Form}
use Rattle.report_reader.specs.ReadLines.{Exactly, HasGotExactly, IsPartFault, exact_dues}
use Rattle.report_reader.proofs.ReadLineLemmas.{fault_first, fault_after, fault_told, got_both, got_line}
use Rattle.report_reader.proofs.ReadPartLemmas.{all_keys, first_one, first_two, first_words, head_one, head_two, keys_count, wanted_out}
use Rattle.report_reader.proofs.lines.read_head.Goals as goal

pub returns-in_err-read_exactly-clause-fault : goal.returns-in_err-read_exactly-clause-fault
returns-in_err-read_exactly-clause-fault c =
    let script = c.args.script.now in
    let before = c.args.lines.now in
    let one : script.version ≡ 1 = omega (arith, c.if-script-lt2.true, c.requires.valid.version) in
    let out = wanted_out script (first_words 1) (codes "anna report 1") before.0 first_one c.in_err-read_exactly.ensures.fault.1 in
    let fault = subst (λ lines. IsPartFault script (exact_dues lines) before (Form before.1)) (sym (head_one script one)) (fault_first script (Exactly (first_words 1)) [] before before.1 refl out) in
    fault_told c.from_residual.result (IsPartFault script (exact_dues (head_lines script)) before) c.from_residual.ensures.1 c.in_err-read_exactly.ensures.fault.0 fault

pub returns-then-script-lt2-clause-got : goal.returns-then-script-lt2-clause-got
returns-then-script-lt2-clause-got c =
    let script = c.args.script.now in
    let one : script.version ≡ 1 = omega (arith, c.if-script-lt2.true, c.requires.valid.version) in
    let first = got_line script (first_words 1) (codes "anna report 1") c.args.lines.now c.read_exactly.new.lines first_one c.in_ok-read_exactly.ensures.ok in
    subst (λ lines. HasGotExactly script lines c.args.lines.now c.read_exactly.new.lines) (sym (head_one script one)) first

pub returns-in_err-read_exactly-2-clause-fault : goal.returns-in_err-read_exactly-2-clause-fault
returns-in_err-read_exactly-2-clause-fault c =
    let script = c.args.script.now in
    let before = c.args.lines.now in
    let two : script.version ≡ 2 = omega (arith, c.if-script-lt2.false, c.requires.valid.version) in
    let out = wanted_out script (first_words 2) (codes "anna report 2") before.0 first_two c.in_err-read_exactly-2.ensures.fault.1 in
    let fault = subst (λ lines. IsPartFault script (exact_dues lines) before (Form before.1)) (sym (head_two script two)) (fault_first script (Exactly (first_words 2)) (exact_dues (all_keys script)) before before.1 refl out) in
    fault_told c.from_residual-in_err-read_exactly-2.result (IsPartFault script (exact_dues (head_lines script)) before) c.from_residual-in_err-read_exactly-2.ensures.1 c.in_err-read_exactly-2.ensures.fault.0 fault

pub read_keys-requires-clause-room : goal.read_keys-requires-clause-room
read_keys-requires-clause-room c =
    let script = c.args.script.now in
    let two : script.version ≡ 2 = omega (arith, c.if-script-lt2.false, c.requires.valid.version) in
    omega (arith, c.requires.room, c.in_ok-read_exactly-2.ensures.ok.1, ap length (head_two script two), keys_count script)

pub returns-in_err-read_keys-clause-fault : goal.returns-in_err-read_keys-clause-fault
returns-in_err-read_keys-clause-fault c =
    let script = c.args.script.now in
    let before = c.args.lines.now in
    let two : script.version ≡ 2 = omega (arith, c.if-script-lt2.false, c.requires.valid.version) in
    let first = got_line script (first_words 2) (codes "anna report 2") before c.read_exactly-2.new.lines first_two c.in_ok-read_exactly-2.ensures.ok in
    let later = fault_after script (Exactly (first_words 2) ∷ []) (exact_dues (all_keys script)) (first_words 2 ∷ []) before c.read_exactly-2.new.lines c.in_err-read_keys.field-0.0 first c.in_err-read_keys.ensures.fault in
    let fault = subst (λ lines. IsPartFault script (exact_dues lines) before c.in_err-read_keys.field-0.0) (sym (head_two script two)) later in
    fault_told c.from_residual-in_err-read_keys.result (IsPartFault script (exact_dues (head_lines script)) before) c.from_residual-in_err-read_keys.ensures.1 refl fault

pub returns-clause-got : goal.returns-clause-got
returns-clause-got c =
    let script = c.args.script.now in
    let before = c.args.lines.now in
    let two : script.version ≡ 2 = omega (arith, c.if-script-lt2.false, c.requires.valid.version) in
    let first = got_line script (first_words 2) (codes "anna report 2") before c.read_exactly-2.new.lines first_two c.in_ok-read_exactly-2.ensures.ok in
    let both = got_both script (Exactly (first_words 2) ∷ []) (exact_dues (all_keys script)) (first_words 2 ∷ []) (all_keys script) before c.read_exactly-2.new.lines c.read_keys.new.lines first c.in_ok-read_keys.ensures.got in
    subst (λ lines. HasGotExactly script lines before c.read_keys.new.lines) (sym (head_two script two)) both
