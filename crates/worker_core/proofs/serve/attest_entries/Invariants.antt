use Rattle.std.proofs.Common.{take}
use Rattle.worker_core.specs.Kept.{AreEntries}
use Rattle.worker_core.proofs.serve.attest_entries.Given as goal

abbrev pub invariant-loop-entry : goal.invariant-loop-entry
invariant-loop-entry l = AreEntries (take l.entry-index l.entries)
