pub use Rattle.drain_turns.specs.Ready
pub use Rattle.run_ledger.specs.Ledger
pub use Rattle.run_ledger.specs.Parties
pub mod Drained
pub mod Finals
pub mod Handed
pub mod OverBoxes
