use Rattle.std.proofs.Common.{rules, sym, ap, ◌∙◌, w64}
use mir.Val.{SFits}
use Rattle.std.specs.Fmt.{signed_decimal}
use Rattle.std.proofs.lemmas.Int.{to_z-of_z}
use Rattle.outside.proofs.GatheringLemmas.{Adds-as, Adds-then}
use Rattle.report_text.proofs.WritesLemmas.{counter_some, has_items}
use Rattle.report_text.proofs.values.write_counter.Goals as goal

pub returns-else-is_empty : goal.returns-else-is_empty
returns-else-is_empty g c =
    let some = has_items c.args.sums.now c.is_empty.result c.is_empty.ensures c.if-is_empty.false in
    let fits : SFits w64 c.total.result = search rules in
    let total = Adds-as (ap signed_decimal (to_z-of_z w64 c.total.result fits ∙ c.total.ensures)) c.write_number.ensures in
    Adds-as (sym (counter_some c.args.script.now c.args.sums.now some)) (Adds-then total (Adds-then c.write-else-is_empty.ensures (Adds-then c.write_sums.ensures c.write-else-is_empty-2.ensures)))
