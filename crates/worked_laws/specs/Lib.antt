pub mod Keeps
pub mod Lists
pub mod Puts
pub mod Shows
