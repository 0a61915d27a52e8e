pub mod BatchesLemmas
pub mod KeysLemmas
pub mod TellingLemmas
