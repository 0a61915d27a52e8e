pub mod Batch
pub mod Meets
pub mod Reply
