mod ChangedLemmas
mod WornLemmas
pub mod ApartLemmas
pub mod HandedLemmas
pub mod KeysLemmas
pub mod LegalLemmas
pub mod PlacesLemmas
pub mod VersionsLemmas
