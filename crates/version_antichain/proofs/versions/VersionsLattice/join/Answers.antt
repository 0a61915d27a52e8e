use Rattle.std.specs.Prelude.{map}
use Rattle.std.proofs.Common.{subst, sym, ap, ◌∙◌}
use Rattle.version_antichain.specs.Version.{version_cmp, is_below}
use Rattle.version_antichain.specs.Versions.{IsVersions, joined_versions}
use Rattle.version_antichain.specs.VersionsLaws.{versions_laws}
use Rattle.version_antichain.proofs.Overtaken.{sorted_slice, joined_keys}
use Rattle.version_antichain.proofs.versions.VersionsLattice.join.Goals as goal

pub join_entries-requires-clause-mine : goal.join_entries-requires-clause-mine
join_entries-requires-clause-mine c = sorted_slice version_cmp c.as_slice.result.now _ c.as_slice.ensures.value c.self.invariant.is_set.ascending

pub join_entries-requires-clause-theirs : goal.join_entries-requires-clause-theirs
join_entries-requires-clause-theirs c = sorted_slice version_cmp c.as_slice-2.result.now _ c.as_slice-2.ensures.value c.other.invariant.is_set.ascending

pub invariant_of-self : goal.invariant_of-self
invariant_of-self c =
    subst IsVersions (sym (joined_keys version_cmp is_below c.in_ok-all.all.items c.as_slice.result.now c.as_slice-2.result.now _ _ _ c.in_ok-all.ensures.joined c.as_slice.ensures.value c.as_slice-2.ensures.value c.drop_overtaken.ensures))
    (versions_laws.closed _ _ c.self.invariant c.other.invariant tt).0

pub returns-clause-ok : goal.returns-clause-ok
returns-clause-ok c =
    joined_keys version_cmp is_below c.in_ok-all.all.items c.as_slice.result.now c.as_slice-2.result.now _ _ _ c.in_ok-all.ensures.joined c.as_slice.ensures.value c.as_slice-2.ensures.value c.drop_overtaken.ensures
    ∙ ap (λ mine. joined_versions mine (map (λ entry. entry.0) c.other.inside.versions.items)) c.self.view_is
    ∙ ap (joined_versions c.args.self.now) c.other.view_is
