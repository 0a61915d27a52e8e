use Rattle.std.proofs.Common.{ap, sym, ◌∙◌}
use Rattle.outside.proofs.GatheringLemmas.{Adds-as, Adds-none}
use Rattle.report_lines.proofs.RenderingLemmas.{spaced-nil}
use Rattle.report_lines.specs.Text.{needs_words, spaced}
use Rattle.report_text.proofs.answers.write_shown_needs.Goals as goal

pub returns-in_default : goal.returns-in_default
returns-in_default g c = Adds-as (spaced-nil ∙ ap (λ needs. spaced (needs_words c.args.script.now needs)) (sym c.in_default.is)) Adds-none
