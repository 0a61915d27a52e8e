use Rattle.std.proofs.Common.{◌∷◌, [], sym, ap, ◌∙◌}
use Rattle.report_reader.proofs.ReadCellWords.{one_text, texts_one}
use Rattle.report_reader.proofs.answers.read_begin.Goals as goal

pub returns-in-len1 : goal.returns-in-len1
returns-in-len1 c = λ script level. (tt, texts_one c.args.words.now _ c.in-len1.len_at_least c.in-len1.len_below ∙ ap (λ text. text ∷ []) (one_text _ _ (sym c.eq.ensures ∙ c.if-eq.true) ∙ c.as_slice.ensures))
