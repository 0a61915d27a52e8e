pub mod KeysLemmas
pub mod ReportLemmas
pub mod WritesLemmas
