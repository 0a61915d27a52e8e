pub mod EpochLemmas
pub mod PiecesLemmas
pub mod TurnsLemmas
