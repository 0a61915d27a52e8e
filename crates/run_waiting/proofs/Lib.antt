pub mod AskedLemmas
pub mod AwaitedLemmas
pub mod HeldLemmas
pub mod PolledLemmas
pub mod ToldLemmas
pub mod VainLemmas
