pub mod AgainstPuts
pub mod ByKey
pub mod ClocksSeen
pub mod ComputedCells
pub mod Counted
pub mod Judged
pub mod Unlawful
