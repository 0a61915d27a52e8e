pub mod GatheringLemmas
pub mod OutsideLemmas
