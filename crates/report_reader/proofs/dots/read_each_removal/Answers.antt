use Rattle.std.proofs.Common.{ℕ, List, [], sym, ap, subst, ◌∙◌, ◌++◌, IsTrue, arith}
use Rattle.std.specs.FinMap.{is_sorted}
use Rattle.std.proofs.lemmas.List.{append-nil}
use Rattle.lattice_laws.proofs.EntriesLemmas.{plain_itself}
use Rattle.basic_lattices.specs.Word.{word_cmp}
use Rattle.dot_lattices.specs.DotSet.{AreRemovals}
use Rattle.report_lines.proofs.NamesLemmas.{tells_names}
use Rattle.report_lines.specs.Text.{removal_text}
use Rattle.report_reader.specs.ReadClocks.{open_clocked}
use Rattle.report_reader.specs.ReadDots.{AreRemovalsIn}
use Rattle.report_reader.proofs.ReadDots.{removals_end, removals_named, removals_row}
use Rattle.report_reader.proofs.ReadRows.{all_read, byte_first, closed_read, empty_below, next_closed, no_item, no_place, none_closed, none_parted, opened_told, other_first}
use Rattle.report_reader.proofs.ReadValueParts.{plain_pushed}
use Rattle.report_reader.proofs.dots.read_each_removal.Goals as goal

pub returns-in_default-2 : goal.returns-in_default-2
returns-in_default-2 c =
    let script = c.args.script.now in
    let names = tells_names script c.requires.0 c.requires.1 in
    no_item (removals_row script names) c.loop-entry.invariant (open_clocked script) c.in-Some.entry.now (next_closed (removals_row script names) (removals_end script names) _ _ _ c.in-Some.ensures) c.in_ok-word.ensures c.in_default-2.is

pub returns-then-not-branch : goal.returns-then-not-branch
returns-then-not-branch c =
    let script = c.args.script.now in
    let names = tells_names script c.requires.0 c.requires.1 in
    let read = rw c.in-Some-2.is at c.in_ok-word.ensures in
    let pushed = plain_pushed (λ entries. IsTrue (is_sorted word_cmp entries)) c.loop-entry.removals (c.in-Some-2.word, c.in-Some-2.seen) c.push.new.self c.in_ok-push.field-0 c.in_ok-push.ensures.pushed in
    no_place (removals_row script names) c.loop-entry.invariant (λ entries. IsTrue (is_sorted word_cmp entries)) (open_clocked script) c.in-Some.entry.now (c.in-Some-2.word, c.in-Some-2.seen) c.push.new.self (λ removals are. are.0.ascending) (opened_told (removals_row script names) (removals_end script names))
    (next_closed (removals_row script names) (removals_end script names) _ _ _ c.in-Some.ensures) read.0 read.1 pushed c.if-not-branch.true

pub returns-in-empty : goal.returns-in-empty
returns-in-empty c =
    let script = c.args.script.now in
    let names = tells_names script c.requires.0 c.requires.1 in
    let entry : List ℕ × List (ℕ × ℕ) = (c.in-Some-2.word, c.in-Some-2.seen) in
    let pushed = plain_pushed (λ entries. IsTrue (is_sorted word_cmp entries)) c.loop-entry.removals entry c.push.new.self c.in_ok-push.field-0 c.in_ok-push.ensures.pushed in
    let none = sym (append-nil (removal_text script entry)) ∙ ap (λ rest. removal_text script entry ++ rest) (sym (empty_below c.in-Some.later.now c.in-empty.len_below)) in
    let read = closed_read (removals_row script names) (removals_end script names) c.loop-entry.invariant _ _ entry [] c.in-Some.ensures (rw c.in-Some-2.is at c.in_ok-word.ensures) none (rw c.if-not-branch.false at pushed) in
    all_read (AreRemovalsIn script) read (subst AreRemovals (plain_itself c.push.new.self) c.attest.ensures, removals_named script c.push.new.self read.are_items)

pub loop-entry-preserved : goal.loop-entry-preserved
loop-entry-preserved c =
    let script = c.args.script.now in
    let names = tells_names script c.requires.0 c.requires.1 in
    let entry : List ℕ × List (ℕ × ℕ) = (c.in-Some-2.word, c.in-Some-2.seen) in
    let pushed = plain_pushed (λ entries. IsTrue (is_sorted word_cmp entries)) c.loop-entry.removals entry c.push.new.self c.in_ok-push.field-0 c.in_ok-push.ensures.pushed in
    let comma = sym (ap (λ rest. removal_text script entry ++ rest) (byte_first 44 c.in-Some.later.now c.in-44.len_at_least (omega arith))) in
    closed_read (removals_row script names) (removals_end script names) c.loop-entry.invariant _ _ entry _ c.in-Some.ensures (rw c.in-Some-2.is at c.in_ok-word.ensures) comma (rw c.if-not-branch.false at pushed)

pub returns-in_default-later : goal.returns-in_default-later
returns-in_default-later c =
    let script = c.args.script.now in
    let names = tells_names script c.requires.0 c.requires.1 in
    none_parted (removals_row script names) (removals_end script names) c.loop-entry.invariant _ _ c.in-Some.ensures (other_first 44 c.in-Some.later.now c.in_default-later.len_at_least (λ comma. omega (arith, comma)))

pub returns : goal.returns
returns c =
    let script = c.args.script.now in
    let names = tells_names script c.requires.0 c.requires.1 in
    none_closed (removals_row script names) (removals_end script names) c.loop-entry.invariant c.in_default.ensures
