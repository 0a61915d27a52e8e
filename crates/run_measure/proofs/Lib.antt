pub mod DoneLemmas
pub mod MeasureLemmas
pub mod PaceLemmas
pub mod PlacedLemmas
pub mod PollingLemmas
pub mod ServedLemmas
pub mod TogetherLemmas
pub mod TurningLemmas
