pub mod BegunLemmas
pub mod FinishedLemmas
pub mod NumberedLemmas
pub mod RoundLemmas
pub mod SweptLemmas
pub mod ToldLemmas
