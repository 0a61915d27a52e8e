-- The adapters over readers and writers of std.
use Rattle.std.specs.Prelude.{ℕ}

-- the reader or writer below, and how many of the calls failed
pub record Adapter (T : Type 0) : Type 0 where
  pub over : T
  pub faults : ℕ
