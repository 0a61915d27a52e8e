use Rattle.std.specs.Cmp.{tied_back}
use Rattle.std.proofs.Common.{◌+◌, ◌-◌, ◌/◌, slice_get, sym, ap, subst, ◌∙◌, arith}
use Rattle.std.specs.Ordering.{eq_by_cmp, is_eq}
use Rattle.lattice_laws.specs.Sets.{IsSet}
use Rattle.lattice_laws.specs.SpellingLaws.{spelled_total}
use Rattle.basic_lattices.specs.Word.{word_cmp}
use Rattle.dot_lattices.specs.DotSet.{PlainDotSet}
use Rattle.dot_lattices.specs.Insert.{insert_cmp, IsInsert}
use Rattle.dot_lattices.proofs.DotSetLemmas.{any_here, none_at_all, none_from, none_to}
use Rattle.dot_lattices.proofs.dot_set.DotSet.has.Goals as goal

pub loop-low-preserved-in-Less : goal.loop-low-preserved-in-Less
loop-low-preserved-in-Less c =
    let middle = c.loop-low.low + (c.loop-low.high - c.loop-low.low) / 2 in
    let is_set = subst (λ (set : PlainDotSet). IsSet insert_cmp IsInsert set.inserts) c.self.view_is c.attest.ensures in
    let here = c.in-Some.ensures ∙ ap (λ set. slice_get set.inserts middle) c.self.view_is in
    (omega (arith, c.loop-low-test.true), c.loop-low.invariant.1, none_to c.args.word.now c.args.self.now.inserts middle c.in-Some.insert.now is_set.ascending (sym here) (sym c.in-Less.ensures), c.loop-low.invariant.3)

pub returns-in-Equal : goal.returns-in-Equal
returns-in-Equal c =
    let middle = c.loop-low.low + (c.loop-low.high - c.loop-low.low) / 2 in
    let here = c.in-Some.ensures ∙ ap (λ set. slice_get set.inserts middle) c.self.view_is in
    let ties = tied_back spelled_total c.in-Some.insert.now.word c.args.word.now (sym c.in-Equal.ensures) in
    any_here (λ insert. eq_by_cmp word_cmp c.args.word.now insert.word) c.args.self.now.inserts middle c.in-Some.insert.now here (ap is_eq ties)

pub loop-low-preserved : goal.loop-low-preserved
loop-low-preserved c =
    let middle = c.loop-low.low + (c.loop-low.high - c.loop-low.low) / 2 in
    let is_set = subst (λ (set : PlainDotSet). IsSet insert_cmp IsInsert set.inserts) c.self.view_is c.attest.ensures in
    let here = c.in-Some.ensures ∙ ap (λ set. slice_get set.inserts middle) c.self.view_is in
    (omega arith, omega (arith, c.loop-low-test.true, c.loop-low.invariant.1), c.loop-low.invariant.2, none_from c.args.word.now c.args.self.now.inserts middle c.in-Some.insert.now is_set.ascending (sym here) (sym c.in-Greater.ensures))

pub returns : goal.returns
returns c = sym (none_at_all c.args.word.now c.args.self.now.inserts c.loop-low.low c.loop-low.high (omega (arith, c.loop-low-test.false)) c.loop-low.invariant.0 c.loop-low.invariant.2 c.loop-low.invariant.3)
