pub mod ClockLemmas
mod Clocks
pub mod CoverageLemmas
pub mod NeedsLemmas
pub mod SparseLemmas
