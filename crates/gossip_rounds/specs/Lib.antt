pub mod Batches
pub mod Changes
pub mod Telling
