pub mod EndsLemmas
pub mod Steps
