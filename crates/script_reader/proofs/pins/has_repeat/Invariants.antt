use Rattle.std.proofs.Common.{◌≡◌, false, take}
use Rattle.script_reader.specs.Faults.{has_repeat}
use Rattle.script_reader.proofs.pins.has_repeat.Given as goal

abbrev pub invariant-loop-n : goal.invariant-loop-n
invariant-loop-n l = record { met : l.met.keys ≡ take l.n-index l.numbers; once : has_repeat (take l.n-index l.numbers) ≡ false }
