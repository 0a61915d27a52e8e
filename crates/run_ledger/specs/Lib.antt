pub mod Came
pub mod Causality
pub mod Ledger
pub mod Parties
