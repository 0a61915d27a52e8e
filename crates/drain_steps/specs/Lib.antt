pub mod Hearing
pub mod OverSealed
pub mod Settling
