use Rattle.outside.proofs.GatheringLemmas.{Adds-as, Adds-then}
use Rattle.report_text.proofs.KeysLemmas.{head_one, head_two}
use Rattle.report_text.proofs.WritesLemmas.{Adds-line, Adds-word}
use Rattle.report_text.proofs.keys.write_head.Goals as goal

pub returns-then-script-ge2 : goal.returns-then-script-ge2
returns-then-script-ge2 g c =
    let first = Adds-line _ _ c.write.ensures (Adds-word _ _ c.write_spaced.ensures c.write_spaced_number.ensures) c.write-2.ensures in
    Adds-as (head_two c.args.script.now c.if-script-ge2.true) (Adds-then first c.write_keys.ensures)

pub returns-else-script-ge2 : goal.returns-else-script-ge2
returns-else-script-ge2 g c =
    let first = Adds-line _ _ c.write.ensures (Adds-word _ _ c.write_spaced.ensures c.write_spaced_number.ensures) c.write-2.ensures in
    Adds-as (head_one c.args.script.now c.if-script-ge2.false) first
