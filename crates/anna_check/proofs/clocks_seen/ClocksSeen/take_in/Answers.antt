use Rattle.std.proofs.Common.{length}
use Rattle.anna_check.proofs.ClocksSeenLemmas.{joined_same}
use Rattle.anna_check.proofs.clocks_seen.ClocksSeen.take_in.Goals as goal

pub note-requires : goal.note-requires
note-requires c = c.in-Some.ensures.worker (length c.args.self.now) c.requires

pub returns-in-None : goal.returns-in-None
returns-in-None c workers earlier before = joined_same workers earlier c.args.line.now c.args.answer.now c.args.self.now c.in-None.ensures.had before
