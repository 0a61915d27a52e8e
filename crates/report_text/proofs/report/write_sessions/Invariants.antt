use Rattle.std.proofs.Common.{length, take}
use Rattle.std.specs.List.{flat_map, zip}
use Rattle.report_text.specs.Writes.{session_text}
use Rattle.outside.specs.Gathering.{Adds}
use Rattle.report_text.proofs.report.write_sessions.Given as goal

-- the sessions that are written
abbrev pub invariant-loop-plan : goal.invariant-loop-plan
invariant-loop-plan g l = Adds g.K.Sink.written g.K.Sink.faults l.fn.out l.out (flat_map (λ pair. session_text l.script pair.0 pair.1) (take (length l.yielded) (zip l.script.sessions l.answers)))
