pub mod Big
pub mod Parts
pub mod Small
