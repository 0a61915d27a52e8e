pub mod Desks
pub mod Mates
