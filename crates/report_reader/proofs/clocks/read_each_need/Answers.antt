use Rattle.std.proofs.Common.{ℕ, List, [], sym, ap, ◌∙◌, ◌++◌, arith}
use Rattle.std.proofs.lemmas.List.{append-nil}
use Rattle.clock_lattice.specs.Needs.{IsNeeds}
use Rattle.session_known.specs.Form.{AreNeedsIn}
use Rattle.report_lines.proofs.NamesLemmas.{tells_names}
use Rattle.report_lines.specs.Text.{need_text}
use Rattle.report_reader.specs.ReadClocks.{open_need}
use Rattle.report_reader.proofs.ReadClocks.{needs_end, needs_formed, needs_row}
use Rattle.report_reader.proofs.ReadRows.{all_read, byte_first, closed_read, empty_below, next_closed, no_item, no_place, none_closed, none_parted, opened_told, other_first}
use Rattle.report_reader.proofs.clocks.read_each_need.Goals as goal

pub returns-in_default-2 : goal.returns-in_default-2
returns-in_default-2 c =
    let script = c.args.script.now in
    let names = tells_names script c.requires.0 c.requires.1 in
    no_item (needs_row script names) c.loop-entry.invariant (open_need script) c.in-Some.entry.now (next_closed (needs_row script names) (needs_end script names) _ _ _ c.in-Some.ensures) c.in_ok-key.ensures c.in_default-2.is

pub returns-then-not-branch : goal.returns-then-not-branch
returns-then-not-branch c =
    let script = c.args.script.now in
    let names = tells_names script c.requires.0 c.requires.1 in
    let read = rw c.in-Some-2.is at c.in_ok-key.ensures in
    no_place (needs_row script names) c.loop-entry.invariant IsNeeds (open_need script) c.in-Some.entry.now (c.in-Some-2.key, c.in-Some-2.clock) c.push.new.self (λ needs are. are.are_needs) (opened_told (needs_row script names) (needs_end script names))
    (next_closed (needs_row script names) (needs_end script names) _ _ _ c.in-Some.ensures) read.0 read.1 c.in_ok-push.ensures.pushed c.if-not-branch.true

pub returns-in-empty : goal.returns-in-empty
returns-in-empty c =
    let script = c.args.script.now in
    let names = tells_names script c.requires.0 c.requires.1 in
    let entry : ℕ × List (ℕ × ℕ) = (c.in-Some-2.key, c.in-Some-2.clock) in
    let none = sym (append-nil (need_text script entry)) ∙ ap (λ rest. need_text script entry ++ rest) (sym (empty_below c.in-Some.later.now c.in-empty.len_below)) in
    let read = closed_read (needs_row script names) (needs_end script names) c.loop-entry.invariant _ _ entry [] c.in-Some.ensures (rw c.in-Some-2.is at c.in_ok-key.ensures) none (rw c.if-not-branch.false at c.in_ok-push.ensures.pushed) in
    all_read (AreNeedsIn script) read (needs_formed script c.push.new.self c.attest.ensures read.are_items)

pub loop-entry-preserved : goal.loop-entry-preserved
loop-entry-preserved c =
    let script = c.args.script.now in
    let names = tells_names script c.requires.0 c.requires.1 in
    let entry : ℕ × List (ℕ × ℕ) = (c.in-Some-2.key, c.in-Some-2.clock) in
    let comma = sym (ap (λ rest. need_text script entry ++ rest) (byte_first 44 c.in-Some.later.now c.in-44.len_at_least (omega arith))) in
    closed_read (needs_row script names) (needs_end script names) c.loop-entry.invariant _ _ entry _ c.in-Some.ensures (rw c.in-Some-2.is at c.in_ok-key.ensures) comma (rw c.if-not-branch.false at c.in_ok-push.ensures.pushed)

pub returns-in_default-later : goal.returns-in_default-later
returns-in_default-later c =
    let script = c.args.script.now in
    let names = tells_names script c.requires.0 c.requires.1 in
    none_parted (needs_row script names) (needs_end script names) c.loop-entry.invariant _ _ c.in-Some.ensures (other_first 44 c.in-Some.later.now c.in_default-later.len_at_least (λ comma. omega (arith, comma)))

pub returns : goal.returns
returns c =
    let script = c.args.script.now in
    let names = tells_names script c.requires.0 c.requires.1 in
    none_closed (needs_row script names) (needs_end script names) c.loop-entry.invariant c.in_default.ensures
