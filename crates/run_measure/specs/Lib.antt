pub mod Laws
pub mod Measure
pub mod Pace
pub mod Steps
