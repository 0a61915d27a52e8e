pub mod AllEndsLemmas
pub mod DealLemmas
pub mod FreshLemmas
pub mod MadeLemmas
pub mod NumberedLemmas
pub mod OwnsLemmas
pub mod PartiesLemmas
pub mod SettledLemmas
