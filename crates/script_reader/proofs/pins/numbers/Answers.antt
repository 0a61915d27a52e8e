use Rattle.std.proofs.Common.{sym, ◌∙◌}
use Rattle.script_reader.proofs.PinLemmas.{number_lacks}
use Rattle.script_reader.proofs.pins.numbers.Goals as goal

pub returns-in_default : goal.returns-in_default
returns-in_default c = number_lacks c.args.words.now c.loop-word.word-index _ c.loop-word-test.true (sym c.number.ensures ∙ c.in_default.is)
