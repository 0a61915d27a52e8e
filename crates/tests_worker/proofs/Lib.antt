pub mod MatesLemmas
