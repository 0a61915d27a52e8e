use Rattle.std.proofs.Common.{refl, sym, ap, ◌∙◌, ◌≡◌, nat_eq}
use Rattle.std.proofs.lemmas.Bool.{not-true}
use Rattle.std.specs.Cmp.Lexicographic.{other_text, pointwise}
use Rattle.report_lines.proofs.RenderingLemmas.{cut_once}
use Rattle.report_reader.specs.declared.ReportFault.TheVariants.{Form}
use Rattle.report_reader.proofs.ReadLineLemmas.{is_not}
use Rattle.report_reader.proofs.ReadRows.{lacks_passes}
use Rattle.report_reader.proofs.lines.read_exactly.Goals as goal

pub returns-then-ne-clause-fault : goal.returns-then-ne-clause-fault
returns-then-ne-clause-fault c = (
  ap (λ (lines : _ × _). Form lines.1) c.lines.view_is,
  λ rest same.
      let wanted : c.in_ok-take.field-0.now ≡ c.args.wanted.now = (cut_once (is_not 10) 10 refl c.in_ok-take.field-0.now c.args.wanted.now c.take.new.self.0 rest (lacks_passes 10 c.in_ok-take.field-0.now c.in_ok-take.ensures.within) (lacks_passes 10 c.args.wanted.now c.requires.line) (sym c.in_ok-take.ensures.line ∙ same)).0 in
      other_text c.in_ok-take.field-0.now c.args.wanted.now (sym (not-true (pointwise nat_eq c.in_ok-take.field-0.now c.args.wanted.now) (sym c.if-ne.ensures))) wanted,
)
