use Rattle.std.proofs.Common.{◌∷◌, codes, refl, ap, ◌∙◌}
use Rattle.session_known.specs.declared.script.Line.TheVariants as lines
use Rattle.report_reader.proofs.ReadAnswerLemmas.{answer_same}
use Rattle.script_reader.specs.Words.{texts}
use Rattle.report_reader.proofs.answers.read_put.Goals as goal

pub returns : goal.returns
returns c = λ payload.
    let words = c.in_ok-name.ensures ∙ ap (λ name. codes "put" ∷ name ∷ texts c.in_ok-name.said.now) (c.is_key.ensures.0 c.if-not-is_key.false) in
    answer_same c.args.script.now c.args.level (lines.Put c.args.key payload) (lines.Put c.args.key payload) _ _ c.read_put_end.result refl words (c.read_put_end.ensures c.args.script.now c.args.key payload)
