use Rattle.std.proofs.Common.{refl, sym, ◌∙◌}
use Rattle.std.proofs.lemmas.Result.{on_err_weaker}
use Rattle.version_antichain.specs.Version.{IsVersion, version_cmp, is_below}
use Rattle.version_antichain.specs.VersionLaws.{below_order}
use Rattle.version_antichain.proofs.Overtaken.{sorted_slice, same_keys}
use Rattle.version_antichain.proofs.Pushing.{pushed_to_antichain, antichain_after_push, no_antichain}
use Rattle.version_antichain.proofs.versions.Versions.push.Goals as goal

pub returns-then-is_ordered_with-clause-pushed : goal.returns-then-is_ordered_with-clause-pushed
returns-then-is_ordered_with-clause-pushed c = (
  refl,
  no_antichain version_cmp IsVersion is_below c.as_slice.result.now _ _ _ c.as_slice.ensures.value c.self.view_is (sym c.is_ordered_with.ensures ∙ c.if-is_ordered_with.true),
)

pub push_entry-requires : goal.push_entry-requires
push_entry-requires c = sorted_slice version_cmp c.self.inside.versions.items c.self.inside.versions.items refl c.self.invariant.is_set.ascending

pub invariant_of-self : goal.invariant_of-self
invariant_of-self c =
    antichain_after_push version_cmp IsVersion is_below c.push_entry.result _ c.push_entry.new.entries.items _ below_order c.as_slice.result.now c.as_slice.ensures.value (sym c.is_ordered_with.ensures ∙ c.if-is_ordered_with.false)
    c.push_entry.ensures.pushed c.push_entry.ensures.err c.push_entry.ensures.ascending c.attest.ensures c.self.invariant

pub returns-clause-pushed : goal.returns-clause-pushed
returns-clause-pushed c = pushed_to_antichain version_cmp IsVersion is_below c.push_entry.result _ c.push_entry.new.entries.items _ c.args.self.now c.self.view_is c.push_entry.ensures.pushed

pub returns-clause-err : goal.returns-clause-err
returns-clause-err c = on_err_weaker c.push_entry.result (λ same. same_keys c.push_entry.new.entries.items _ same ∙ c.self.view_is) c.push_entry.ensures.err
