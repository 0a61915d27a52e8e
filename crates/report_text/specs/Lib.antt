pub use Rattle.report_lines.specs.Text
pub use Rattle.report_reader.specs.Reads
pub mod Writes
