pub use Rattle.drain_ledger.specs.Drained
pub use Rattle.drain_ledger.specs.Ledger
pub use Rattle.drain_ledger.specs.declared.draining.DrainedOver
pub use Rattle.party_ends.specs.Numbers
pub mod Ready
