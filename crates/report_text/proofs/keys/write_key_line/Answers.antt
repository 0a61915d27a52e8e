use Rattle.std.proofs.Common.{ap, ◌∙◌, ◌∷◌, []}
use Rattle.outside.proofs.GatheringLemmas.{Adds-as}
use Rattle.report_lines.specs.Text.{kind_word, spaced}
use Rattle.report_text.proofs.WritesLemmas.{Adds-line, Adds-word}
use Rattle.report_text.proofs.keys.write_key_line.Goals as goal

pub returns : goal.returns
returns g c =
    let kind = Adds-as (ap (λ word. spaced (word ∷ [])) (c.kind_text.ensures ∙ ap kind_word c.kind_of.ensures)) c.write_spaced.ensures in
    Adds-line _ _ c.write.ensures (Adds-word _ _ c.write_spaced_key.ensures (Adds-word _ _ kind (Adds-word _ _ c.write_spaced-2.ensures c.write_workers.ensures))) c.write-2.ensures
