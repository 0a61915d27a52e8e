use Rattle.std.proofs.Common.{map, take}
use Rattle.script_reader.specs.Words.{AreNumbers}
use Rattle.script_reader.proofs.pins.numbers.Given as goal

abbrev pub invariant-loop-word : goal.invariant-loop-word
invariant-loop-word l = AreNumbers (map (λ word. word.now) (take l.word-index l.words)) l.numbers.items
