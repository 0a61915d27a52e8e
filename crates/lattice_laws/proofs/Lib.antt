pub mod AscendingLemmas
pub mod EntriesLemmas
pub mod GreatestOfListsLemmas
pub mod Joining
pub mod JoinsLemmas
pub mod ListLemmas
pub mod MembersLemmas
mod Merging
mod Pushing
mod Search
pub mod SetsLemmas
