mod AntichainLemmas
mod Overtaken
mod Pushing
mod Removal
