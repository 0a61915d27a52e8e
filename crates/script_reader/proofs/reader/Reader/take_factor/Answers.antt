use Rattle.std.proofs.Common.{sym, ap, ◌∙◌}
use Rattle.script_reader.specs.Faults.{is_within}
use Rattle.script_reader.specs.Reader.{so_far}
use Rattle.script_reader.proofs.DeclaredLemmas.{factor_number, factor_twice, factor_limit, factor_read}
use Rattle.script_reader.proofs.reader.Reader.take_factor.Goals as goal

pub returns-in_default : goal.returns-in_default
returns-in_default c = factor_number (so_far c.args.self.now) c.args.word.now c.requires.stands (sym c.number.ensures ∙ c.in_default.is)

pub returns-then-self : goal.returns-then-self
returns-then-self c = factor_twice (so_far c.args.self.now) c.args.word.now c.in-Some.factor c.requires.stands (sym c.number.ensures ∙ c.in-Some.is) c.if-self.true

pub returns-then-not-is_within : goal.returns-then-not-is_within
returns-then-not-is_within c =
    factor_limit (so_far c.args.self.now) c.args.word.now c.in-Some.factor c.requires.stands (sym c.number.ensures ∙ c.in-Some.is) c.if-self.false
    (ap (λ most. is_within 1 most c.in-Some.factor) (sym c.from.ensures) ∙ sym c.is_within.ensures ∙ c.if-not-is_within.true)

pub returns : goal.returns
returns c =
    factor_read c.args.self.now c.args.word.now c.in-Some.factor c.requires.kept c.requires.stands (sym c.number.ensures ∙ c.in-Some.is) c.if-self.false
    (ap (λ most. is_within 1 most c.in-Some.factor) (sym c.from.ensures) ∙ sym c.is_within.ensures ∙ c.if-not-is_within.false)
