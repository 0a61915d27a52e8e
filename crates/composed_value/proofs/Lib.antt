pub mod CellOfLemmas
pub mod DotLawsLemmas
pub mod DotValueLemmas
pub mod GatheredLemmas
pub mod KeyedLemmas
pub mod PlainValueLemmas
pub mod SetsOfListsLemmas
pub mod SoundLemmas
pub mod ValidValueLemmas
mod Values
pub mod VersionValueLemmas
