pub mod Asked
pub mod Config
pub mod Hash
pub mod Name
pub mod Ring
