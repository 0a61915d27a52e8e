use Rattle.std.proofs.Common.{sym, ◌∙◌}
use Rattle.script_reader.specs.Reader.{so_far}
use Rattle.script_reader.proofs.DeclaredLemmas.{round_number, round_twice, round_limit, round_read}
use Rattle.script_reader.proofs.reader.Reader.take_round.Goals as goal

pub returns-in_default : goal.returns-in_default
returns-in_default c = round_number (so_far c.args.self.now) c.args.word.now c.requires.stands (sym c.number.ensures ∙ c.in_default.is)

pub returns-then-self : goal.returns-then-self
returns-then-self c = round_twice (so_far c.args.self.now) c.args.word.now c.in-Some.round c.requires.stands (sym c.number.ensures ∙ c.in-Some.is) c.if-self.true

pub returns-then-not-is_within : goal.returns-then-not-is_within
returns-then-not-is_within c = round_limit (so_far c.args.self.now) c.args.word.now c.in-Some.round c.requires.stands (sym c.number.ensures ∙ c.in-Some.is) c.if-self.false (sym c.is_within.ensures ∙ c.if-not-is_within.true)

pub returns : goal.returns
returns c = round_read c.args.self.now c.args.word.now c.in-Some.round c.requires.kept c.requires.stands (sym c.number.ensures ∙ c.in-Some.is) c.if-self.false (sym c.is_within.ensures ∙ c.if-not-is_within.false)
