pub mod AllEnds
pub mod Dealt
pub mod Fresh
pub mod Numbers
pub mod OverBoxes
pub mod Parties
