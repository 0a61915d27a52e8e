-- Sets of versions of which none was overtaken, as lists in their order.
use Rattle.std.specs.Prelude.{List}
use Rattle.version_antichain.specs.Antichain.{IsAntichain, joined_antichains}
use Rattle.version_antichain.specs.Version.{IsVersion, version_cmp, is_below}
use Rattle.version_antichain.specs.declared.version.Version.{Version}

-- versions in order, each once, no clock strictly below another's
abbrev pub IsVersions : List Version → Type 0
IsVersions versions = IsAntichain version_cmp IsVersion is_below versions

-- what both hold, without what was overtaken
abbrev pub joined_versions : List Version → List Version → List Version
joined_versions a b = joined_antichains version_cmp is_below a b
