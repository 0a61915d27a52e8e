use Rattle.std.proofs.Common.{◌≡◌, ◌+◌, ◌-◌, ◌==◌, suc, map, length, take, drop, ap, ◌∙◌, arith, rules}
use Rattle.std.proofs.lemmas.List.Sorted.{IsPartitionPoint-from_clause}
use Rattle.outside.proofs.GatheringLemmas.{Adds-as, Adds-none, Adds-then}
use Rattle.placement.specs.Config.{placed}
use Rattle.session_known.specs.Form.{replicas_ascending}
use Rattle.session_known.proofs.PlacesLemmas.{place, places_from}
use Rattle.report_lines.specs.Text.{key_words, line_text, placed_words}
use Rattle.report_text.proofs.KeysLemmas.{first_stand, later_stand, lines_more, parted, point_is, workers_are}
use Rattle.report_text.proofs.keys.write_keys.Goals as goal

pub loop-i-init : goal.loop-i-init
loop-i-init g c =
    let script = c.args.script.now in
    (c.requires.places ∙ ap (places_from (replicas_ascending script (placed script.config)) 1) (omega arith), Adds-none)

pub loop-i-preserved : goal.loop-i-preserved
loop-i-preserved g c =
    let script = c.args.script.now in
    let workers = replicas_ascending script (placed script.config) in
    let key = c.loop-i.i + 1 in
    let n = length script.config.keys - key in
    let rest = c.loop-i.rest.now in
    let left : length script.config.keys - c.loop-i.i ≡ suc n = omega (arith, c.loop-i-test.true, ap length c.as_slice.ensures) in
    let stand : map place rest ≡ places_from workers key (suc n) = c.loop-i.invariant.0 ∙ ap (places_from workers key) left in
    let point = IsPartitionPoint-from_clause (λ cell. cell.key == key) _ _ c.partition_point.ensures.partitioned (parted workers key n rest stand) (λ a r q k. search rules) in
    let many = point_is workers key n rest stand c.partition_point.result c.partition_point.ensures.bound point in
    let later = ap (map place) (c.split_at.ensures.back ∙ ap (λ i. drop i rest) many) ∙ later_stand workers key n rest stand in
    let first = ap (map place) (c.split_at.ensures.front ∙ ap (λ i. take i rest) many) ∙ first_stand workers key n rest stand in
    let line = Adds-as (ap (λ workers. line_text (key_words script key workers)) (workers_are workers key c.split_at.result.0.now first)) c.write_key_line.ensures in
    (later, Adds-as (lines_more (placed_words script) c.loop-i.i) (Adds-then c.loop-i.invariant.1 line))
