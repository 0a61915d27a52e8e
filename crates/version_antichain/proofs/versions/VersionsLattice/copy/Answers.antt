use Rattle.std.specs.Prelude.{map}
use Rattle.std.proofs.Common.{subst, sym, ap, ◌∙◌}
use Rattle.version_antichain.specs.Versions.{IsVersions}
use Rattle.version_antichain.proofs.Overtaken.{same_keys}
use Rattle.version_antichain.proofs.versions.VersionsLattice.copy.Goals as goal

pub invariant_of-result : goal.invariant_of-result
invariant_of-result c = subst IsVersions (sym (same_keys _ _ c.in_ok-copy_entries.ensures ∙ ap (map (λ entry. entry.0)) c.as_slice.ensures.value)) c.self.invariant

pub returns : goal.returns
returns c = same_keys _ _ c.in_ok-copy_entries.ensures ∙ ap (map (λ entry. entry.0)) c.as_slice.ensures.value ∙ c.self.view_is
