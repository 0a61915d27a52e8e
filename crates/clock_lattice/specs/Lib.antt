pub mod Clock
pub mod ClockLaws
pub mod ClockOrder
pub mod Coverage
pub mod Needs
pub mod NeedsLaws
pub mod SparseLaws
