use Rattle.std.proofs.Common.{◌≡◌}
use Rattle.std.specs.List.{flat_map, range_with_len}
use Rattle.report_reader.proofs.ReadPartLemmas.{places_of_key}
use Rattle.report_reader.proofs.lines.places_of.Given as goal

abbrev pub invariant-loop-i : goal.invariant-loop-i
invariant-loop-i l = l.places.items ≡ flat_map (places_of_key l.script l.placement) (range_with_len 1 l.i)
