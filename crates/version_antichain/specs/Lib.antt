pub mod Antichain
pub mod AntichainLaws
pub mod Version
pub mod VersionLaws
pub mod Versions
pub mod VersionsLaws
