pub mod OverWorkers
pub mod Ready
