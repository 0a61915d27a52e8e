pub mod LeftLemmas
pub mod PassesGoingOn
pub mod PassesHeldLemmas
pub mod PassesLemmas
pub mod PassesTurnLemmas
