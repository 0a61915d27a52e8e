pub mod Adapters
pub mod Gathering
pub mod Memory
pub mod Outside
