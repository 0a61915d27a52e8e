mod ListsLemmas
mod PutsLemmas
mod ShowsLemmas
