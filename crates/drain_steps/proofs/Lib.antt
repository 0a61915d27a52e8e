pub mod ChainLemmas
pub mod ColumnLemmas
pub mod HearingLemmas
pub mod TurnedLemmas
