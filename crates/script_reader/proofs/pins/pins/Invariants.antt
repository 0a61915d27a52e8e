use Rattle.std.proofs.Common.{◌≡◌, take}
use Rattle.script_reader.proofs.pins.pins.Given as goal

abbrev pub invariant-loop-n : goal.invariant-loop-n
invariant-loop-n l = l.pins.items ≡ take l.n-index l.numbers
