-- Versions are a lattice, as every antichain is.
use Rattle.std.specs.Prelude.{⊤}
use Rattle.lattice_laws.specs.Lattice.{LatticeLaws, Associative}
use Rattle.version_antichain.specs.AntichainLaws.{antichain_laws, antichain_associative}
use Rattle.version_antichain.specs.Version.{IsVersion, is_below}
use Rattle.version_antichain.specs.VersionLaws.{version_total, version_exact, below_order}
use Rattle.version_antichain.specs.Versions.{IsVersions, joined_versions}

pub versions_laws : LatticeLaws IsVersions (λ _ _. ⊤) joined_versions
versions_laws = antichain_laws version_total version_exact IsVersion is_below below_order

pub versions_associative : Associative IsVersions (λ _ _. ⊤) joined_versions
versions_associative = antichain_associative version_total version_exact IsVersion is_below below_order
