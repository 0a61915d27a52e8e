use Rattle.std.proofs.Common.{sym, ap, ◌∙◌}
use Rattle.script_reader.proofs.CommandLemmas.{level_last}
use Rattle.script_reader.specs.Faults.{last_level}
use Rattle.script_reader.specs.Reader.{plans_of}
use Rattle.script_reader.proofs.reader.Reader.level.Goals as goal

pub returns-in-Some : goal.returns-in-Some
returns-in-Some c = sym (ap (λ sessions. last_level (plans_of sessions)) c.in-Some.is ∙ level_last c.in-Some.sessions.done.items c.in-Some.sessions.last)
