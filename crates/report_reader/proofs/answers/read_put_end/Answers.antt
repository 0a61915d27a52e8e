use Rattle.std.proofs.Common.{◌∷◌, codes, refl, sym, ap, ◌∙◌}
use Rattle.session_known.specs.declared.script.Line.TheVariants as lines
use Rattle.session_known.specs.Script.{key_name}
use Rattle.report_reader.proofs.ReadAnswerLemmas.{answer_same}
use Rattle.report_reader.proofs.ReadCellWords.{one_text, texts_one, texts_three}
use Rattle.report_reader.proofs.answers.read_put_end.Goals as goal

pub returns-in-len1 : goal.returns-in-len1
returns-in-len1 c = λ script key payload.
    let words = texts_one c.args.words.now _ c.in-len1.len_at_least c.in-len1.len_below in
    answer_same script c.args.level (lines.Put key payload) (lines.Put key payload) _ _ c.read_unaccepted.result refl (ap (λ rest. codes "put" ∷ key_name script key ∷ rest) words) (c.read_unaccepted.ensures script key payload)

pub returns-in-len3 : goal.returns-in-len3
returns-in-len3 c = λ script key payload.
    let words = texts_three c.args.words.now _ (codes "at") c.in-len3.len_at_least c.in-len3.len_below (one_text _ _ (sym c.eq.ensures ∙ c.if-eq.true) ∙ c.as_slice.ensures) in
    answer_same script c.args.level (lines.Put key payload) (lines.Put key payload) _ _ c.read_accepted.result refl (ap (λ rest. codes "put" ∷ key_name script key ∷ rest) words) (c.read_accepted.ensures c.args.level script key payload)
