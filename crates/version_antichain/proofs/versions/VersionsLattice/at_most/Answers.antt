use Rattle.std.specs.Prelude.{◌≡◌, map}
use Rattle.std.specs.List.{list_all}
use Rattle.std.proofs.Common.{subst, sym, ap, ◌∙◌}
use Rattle.version_antichain.proofs.AntichainLemmas.{is_within, each_within}
use Rattle.version_antichain.specs.Version.{IsVersion, version_cmp, is_below}
use Rattle.version_antichain.specs.VersionLaws.{version_total, version_exact, below_order}
use Rattle.version_antichain.specs.Versions.{IsVersions}
use Rattle.version_antichain.proofs.Overtaken.{all_within_keys}
use Rattle.version_antichain.proofs.versions.VersionsLattice.at_most.Goals as goal

pub returns : goal.returns
returns c =
    let mine = c.args.self.now in
    let theirs = c.args.other.now in
    let test : c.all_within.result ≡ list_all (is_within version_cmp is_below theirs) mine =
    c.all_within.ensures
    ∙ all_within_keys version_cmp is_below c.as_slice.result.now c.as_slice-2.result.now
    ∙ ap (λ others. list_all (is_within version_cmp is_below others) (map (λ entry. entry.0) c.as_slice.result.now)) (ap (map (λ entry. entry.0)) c.as_slice-2.ensures.value ∙ c.other.view_is)
    ∙ ap (list_all (is_within version_cmp is_below theirs)) (ap (map (λ entry. entry.0)) c.as_slice.ensures.value ∙ c.self.view_is)
    in
    let each = each_within version_total version_exact IsVersion is_below below_order mine theirs (subst IsVersions c.self.view_is c.self.invariant) (subst IsVersions c.other.view_is c.other.invariant) in
    ((λ yes. each.0 (sym test ∙ yes)), (λ joined. test ∙ each.1 joined))
