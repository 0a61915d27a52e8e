use Rattle.version_antichain.specs.AntichainLaws as laws
use Rattle.version_antichain.specs.Version.{IsVersion, is_below}
use Rattle.version_antichain.specs.VersionLaws.{version_total, version_exact, below_order}
use Rattle.version_antichain.proofs.versions.maximal_of_maximal.Goals as goal

pub returns : goal.returns
returns c = laws.maximal_of_maximal version_total version_exact IsVersion is_below below_order
