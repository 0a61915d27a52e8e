pub use Rattle.composed_value.specs.Cell
pub mod Back
pub mod Effects
pub mod Heard
pub mod Maps
pub mod World
