pub mod DotSetLemmas
mod DotSumsLemmas
