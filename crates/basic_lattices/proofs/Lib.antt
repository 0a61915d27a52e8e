mod GreaterLemmas
mod PaperPairs
pub mod StampedLemmas
