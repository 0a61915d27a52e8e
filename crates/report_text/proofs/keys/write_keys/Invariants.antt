use Rattle.std.proofs.Common.{◌≡◌, ◌+◌, ◌-◌, map, length}
use Rattle.std.specs.List.{range_with_len}
use Rattle.placement.specs.Config.{placed}
use Rattle.session_known.specs.Form.{replicas_ascending}
use Rattle.session_known.proofs.PlacesLemmas.{place, places_from}
use Rattle.report_lines.specs.Text.{placed_words}
use Rattle.report_text.specs.Writes.{AddsLines}
use Rattle.report_text.proofs.keys.write_keys.Given as goal

-- the keys whose lines are written, and the final cells of the others
abbrev pub invariant-loop-i : goal.invariant-loop-i
invariant-loop-i g l =
    (map place l.rest ≡ places_from (replicas_ascending l.script (placed l.script.config)) (l.i + 1) (length l.script.config.keys - l.i))
    × AddsLines g.K.Sink l.fn.out l.out (map (placed_words l.script) (range_with_len 1 l.i))
