use Rattle.std.proofs.Common.{◌<◌, ◌⊎◌, length, inl, inr, sym, arith}
use Rattle.outside.proofs.GatheringLemmas.{Adds-as, Adds-then}
use Rattle.report_lines.proofs.ValuesLemmas.{or_set_braced}
use Rattle.report_text.proofs.values.write_or_set.Goals.{else-inserts-eq0-via-then-inserts-eq0+else-removals-eq0, else-inserts-eq0-via-else-inserts-eq0}
use Rattle.report_text.proofs.values.write_or_set.Goals as goal

pub returns-else-inserts-eq0 : goal.returns-else-inserts-eq0
returns-else-inserts-eq0 g c =
    let set = c.args.set.now in
    let some : (0 < length set.inserts) ⊎ (0 < length set.removals) = elim c.else-inserts-eq0.branch [
      | else-inserts-eq0-via-then-inserts-eq0+else-removals-eq0 w ↦ inr (omega (arith, w.removals.ensures, w.if-removals-eq0.false))
      | else-inserts-eq0-via-else-inserts-eq0 w ↦ inl (omega (arith, c.inserts.ensures, w.if-inserts-eq0.false))
    ] in
    let removals = Adds-then c.write_removals.ensures c.write-else-inserts-eq0-3.ensures in
    let inserts = Adds-then c.write_inserts.ensures (Adds-then c.write-else-inserts-eq0-2.ensures removals) in
    Adds-as (sym (or_set_braced c.args.script.now set.inserts set.removals some)) (Adds-then c.write-else-inserts-eq0.ensures inserts)
