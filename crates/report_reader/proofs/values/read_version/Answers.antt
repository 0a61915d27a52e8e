use Rattle.std.proofs.lemmas.List.{append_cancel_right}
use Rattle.std.proofs.Common.{codes, sym, ap, ◌∙◌, ◌++◌}
use Rattle.report_reader.proofs.ReadClocks.{clocked_closed}
use Rattle.report_reader.proofs.ReadRows.{none_reads}
use Rattle.report_reader.proofs.ReadValueForms.{version_clocked}
use Rattle.report_reader.proofs.values.read_version.Goals as goal

pub returns-in_default : goal.returns-in_default
returns-in_default c version is same = c.in_default.ensures _ (same ∙ clocked_closed c.args.script.now (version.word, version.clock))

pub returns-in_default-2 : goal.returns-in_default-2
returns-in_default-2 c version is same =
    none_reads _ _ _ _ c.in_ok-word.ensures c.in_default-2.is (version.word, version.clock) (version_clocked c.args.script.now version is)
    (append_cancel_right _ _ (codes ")") (sym c.in-Some.ensures ∙ same ∙ clocked_closed c.args.script.now (version.word, version.clock)))

pub returns : goal.returns
returns c =
    let script = c.args.script.now in
    let read = rw c.in-Some-2.is at c.in_ok-word.ensures in (
      (record { is_clock = read.0.1.is_clock; is_word = read.0.0 }, read.0.1.sessions),
      c.in-Some.ensures ∙ ap (λ opened. opened ++ codes ")") read.1 ∙ sym (clocked_closed script (c.in-Some-2.word, c.in-Some-2.clock)),
    )
