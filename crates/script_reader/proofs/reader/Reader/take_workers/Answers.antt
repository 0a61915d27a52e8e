use Rattle.std.proofs.Common.{sym, ◌∙◌}
use Rattle.script_reader.specs.Reader.{so_far}
use Rattle.script_reader.proofs.DeclaredLemmas.{workers_number, workers_limit, workers_read}
use Rattle.script_reader.proofs.reader.Reader.take_workers.Goals as goal

pub returns-in_default : goal.returns-in_default
returns-in_default c = workers_number (so_far c.args.self.now) c.args.word.now c.requires.stands (sym c.number.ensures ∙ c.in_default.is)

pub returns-then-not-is_within : goal.returns-then-not-is_within
returns-then-not-is_within c = workers_limit (so_far c.args.self.now) c.args.word.now c.in-Some.workers c.requires.stands (sym c.number.ensures ∙ c.in-Some.is) (sym c.is_within.ensures ∙ c.if-not-is_within.true)

pub returns : goal.returns
returns c = workers_read c.args.self.now c.args.word.now c.in-Some.workers c.requires.kept c.requires.stands (sym c.number.ensures ∙ c.in-Some.is) (sym c.is_within.ensures ∙ c.if-not-is_within.false)
