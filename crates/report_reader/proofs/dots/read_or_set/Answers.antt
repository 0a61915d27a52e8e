use Rattle.std.proofs.Common.{◌≡◌, ◌<◌, ◌⊎◌, ◌++◌, ◌∷◌, length, inl, inr, sym, subst, ◌∙◌}
use Rattle.lattice_laws.proofs.EntriesLemmas.{plain_itself}
use Rattle.dot_lattices.specs.DotSet.{PlainDotSet, AreUnseen, IsDotSet}
use Rattle.report_lines.proofs.NamesLemmas.{tells_names}
use Rattle.report_lines.specs.Text.{or_set_word}
use Rattle.report_reader.specs.Cuts.{with_braces}
use Rattle.report_reader.specs.ReadDots.{IsOrSetIn, set_word}
use Rattle.report_reader.proofs.ReadDots.{inner_text, inserts_single, removals_single, set_braced, set_is_braced, set_parts, some_item}
use Rattle.report_reader.proofs.ReadRows.{no_cut, none_reads}
use Rattle.report_reader.proofs.ReadValueParts.{braced_both, not_said}
use Rattle.report_reader.proofs.dots.read_or_set.Goals.{else-is_empty-via-then-is_empty+else-is_empty-2, else-is_empty-via-else-is_empty}
use Rattle.report_reader.proofs.dots.read_or_set.Goals as goal

pub returns-in_default : goal.returns-in_default
returns-in_default c = λ set is same. c.in_default.ensures _ (set_is_braced c.args.script.now set c.args.text.now (not_said _ c.is_none.result c.is_none.ensures c.if-is_none.false) same)

pub returns-in_default-cut_at : goal.returns-in_default-cut_at
returns-in_default-cut_at c = λ set is same.
    let script = c.args.script.now in
    let some = not_said _ c.is_none.result c.is_none.ensures c.if-is_none.false in
    let inner = (braced_both _ _ (inner_text script set.inserts set.removals) c.in-Some.ensures).1 (set_is_braced script set c.args.text.now some same) in
    no_cut 59 c.in-Some.inner.now _ _ c.in_default-cut_at.ensures inner

pub returns-in_default-2 : goal.returns-in_default-2
returns-in_default-2 c = λ set is same.
    let script = c.args.script.now in
    let names = tells_names _ _ c.requires.1 in
    let some = not_said _ c.is_none.result c.is_none.ensures c.if-is_none.false in
    let inner = (braced_both _ _ (inner_text script set.inserts set.removals) c.in-Some.ensures).1 (set_is_braced script set c.args.text.now some same) in
    let parts = set_parts script names set.inserts set.removals _ _ _ (is.0.inserts, is.1) c.in-Some-cut_at.ensures inner in
    none_reads _ _ _ _ c.in_ok-inserts.ensures c.in_default-2.is set.inserts (is.0.inserts, is.1) parts.0

pub returns-in_default-3 : goal.returns-in_default-3
returns-in_default-3 c = λ set is same.
    let script = c.args.script.now in
    let names = tells_names _ _ c.requires.1 in
    let some = not_said _ c.is_none.result c.is_none.ensures c.if-is_none.false in
    let inner = (braced_both _ _ (inner_text script set.inserts set.removals) c.in-Some.ensures).1 (set_is_braced script set c.args.text.now some same) in
    let parts = set_parts script names set.inserts set.removals _ _ _ (is.0.inserts, is.1) c.in-Some-cut_at.ensures inner in
    none_reads _ _ _ _ c.in_ok-removals.ensures c.in_default-3.is set.removals (is.0.removals, is.2) parts.1

pub returns-then-is_empty-2 : goal.returns-then-is_empty-2
returns-then-is_empty-2 c = λ set is same.
    let script = c.args.script.now in
    let names = tells_names _ _ c.requires.1 in
    let some = not_said _ c.is_none.result c.is_none.ensures c.if-is_none.false in
    let inner = (braced_both _ _ (inner_text script set.inserts set.removals) c.in-Some.ensures).1 (set_is_braced script set c.args.text.now some same) in
    let parts = set_parts script names set.inserts set.removals _ _ _ (is.0.inserts, is.1) c.in-Some-cut_at.ensures inner in
    let inserted = rw c.in-Some-2.is at c.in_ok-inserts.ensures in
    let removed = rw c.in-Some-3.is at c.in_ok-removals.ensures in
    let inserts : set.inserts ≡ c.in-Some-2.inserts = inserts_single script names set.inserts c.in-Some-2.inserts (is.0.inserts, is.1) inserted.0 (sym parts.0 ∙ inserted.1) in
    let removals : set.removals ≡ c.in-Some-3.removals = removals_single script names set.removals c.in-Some-3.removals (is.0.removals, is.2) removed.0 (sym parts.1 ∙ removed.1) in
    let no_inserts = inserts ∙ c.is_empty.ensures.0 c.if-is_empty.true in
    let no_removals = removals ∙ c.is_empty-then-is_empty.ensures.0 c.if-is_empty-2.true in
    some (same ∙ (λ i. or_set_word script (no_inserts i) (no_removals i)))

pub returns-in_default-of_parts : goal.returns-in_default-of_parts
returns-in_default-of_parts c = λ set is same.
    let script = c.args.script.now in
    let names = tells_names _ _ c.requires.1 in
    let some = not_said _ c.is_none.result c.is_none.ensures c.if-is_none.false in
    let inner = (braced_both _ _ (inner_text script set.inserts set.removals) c.in-Some.ensures).1 (set_is_braced script set c.args.text.now some same) in
    let parts = set_parts script names set.inserts set.removals _ _ _ (is.0.inserts, is.1) c.in-Some-cut_at.ensures inner in
    let inserted = rw c.in-Some-2.is at c.in_ok-inserts.ensures in
    let removed = rw c.in-Some-3.is at c.in_ok-removals.ensures in
    let inserts : set.inserts ≡ c.in-Some-2.inserts = inserts_single script names set.inserts c.in-Some-2.inserts (is.0.inserts, is.1) inserted.0 (sym parts.0 ∙ inserted.1) in
    let removals : set.removals ≡ c.in-Some-3.removals = removals_single script names set.removals c.in-Some-3.removals (is.0.removals, is.2) removed.0 (sym parts.1 ∙ removed.1) in
    let made : PlainDotSet = record { inserts = c.in-Some-2.inserts; removals = c.in-Some-3.removals } in
    let same_set : set ≡ made = λ i. record { inserts = inserts i; removals = removals i } in
    c.in_default-of_parts.ensures (subst AreUnseen (same_set ∙ (λ i. record { inserts = c.in-Some-2.inserts; removals = sym (plain_itself c.in-Some-3.removals) i })) is.0.unseen)

pub returns : goal.returns
returns c =
    let script = c.args.script.now in
    let inserted = rw c.in-Some-2.is at c.in_ok-inserts.ensures in
    let removed = rw c.in-Some-3.is at c.in_ok-removals.ensures in
    let made : PlainDotSet = record { inserts = c.in-Some-2.inserts; removals = c.in-Some-3.removals } in
    let set_is : made ≡ c.in-Some-of_parts.set = sym (c.in-Some-of_parts.ensures ∙ (λ i. record { inserts = c.in-Some-2.inserts; removals = plain_itself c.in-Some-3.removals i })) in
    let some : (0 < length c.in-Some-2.inserts) ⊎ (0 < length c.in-Some-3.removals) = elim c.else-is_empty.branch [
      | else-is_empty-via-then-is_empty+else-is_empty-2 w ↦ inr (some_item c.in-Some-3.removals (not_said _ w.is_empty-then-is_empty.result w.is_empty-then-is_empty.ensures w.if-is_empty-2.false))
      | else-is_empty-via-else-is_empty w ↦ inl (some_item c.in-Some-2.inserts (not_said _ c.is_empty.result c.is_empty.ensures w.if-is_empty.false))
    ] in
    let text = c.in-Some.ensures ∙ (λ i. with_braces ((c.in-Some-cut_at.ensures.0 ∙ (λ j. inserted.1 j ++ 59 ∷ removed.1 j)) i)) ∙ sym (set_braced script c.in-Some-2.inserts c.in-Some-3.removals some) in
    let is : IsOrSetIn script made = (subst IsDotSet (sym set_is) c.attest.ensures, inserted.0.1, removed.0.1) in
    (subst (IsOrSetIn script) set_is is, text ∙ (λ i. set_word script (set_is i)))
