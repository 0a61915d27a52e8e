pub mod Changed
pub mod Worked
pub mod Worn
