use Rattle.std.proofs.Common.{sym, ◌∙◌, arith}
use Rattle.version_antichain.specs.VersionLaws.{below_order}
use Rattle.version_antichain.proofs.Overtaken.{order_of_entries}
use Rattle.version_antichain.proofs.Removal.{passed_none, passed_removed, passed_kept, passed_all}
use Rattle.version_antichain.proofs.versions.drop_overtaken.Goals as goal

pub loop-at-init : goal.loop-at-init
loop-at-init c = passed_none (order_of_entries below_order) _

pub loop-at-preserved-then-is_overtaken : goal.loop-at-preserved-then-is_overtaken
loop-at-preserved-then-is_overtaken c =
    passed_removed (order_of_entries below_order) _ c.loop-at.all.items c.deref.result.now _ c.loop-at.at c.index.result.now c.loop-at.invariant (omega (arith, c.loop-at-test.true, c.len.ensures)) c.index.ensures c.deref.ensures.value
    (sym c.is_overtaken.ensures ∙ c.if-is_overtaken.true) c.remove.ensures.items

pub loop-at-preserved : goal.loop-at-preserved
loop-at-preserved c =
    passed_kept (order_of_entries below_order) _ c.loop-at.all.items c.deref.result.now c.loop-at.at c.index.result.now c.loop-at.invariant (omega (arith, c.loop-at-test.true, c.len.ensures)) c.index.ensures c.deref.ensures.value
    (sym c.is_overtaken.ensures ∙ c.if-is_overtaken.false)

pub returns : goal.returns
returns c = passed_all (order_of_entries below_order) _ c.loop-at.all.items c.loop-at.at c.loop-at.invariant (omega (arith, c.loop-at-test.false, c.len.ensures))
