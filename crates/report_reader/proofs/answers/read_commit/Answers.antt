use Rattle.std.proofs.Common.{◌∷◌, codes, refl, sym, ap, ◌∙◌}
use Rattle.session_known.specs.declared.script.Line.TheVariants as lines
use Rattle.report_reader.proofs.ReadAnswerLemmas.{answer_same}
use Rattle.report_reader.proofs.ReadCellWords.{one_text, texts_none, texts_pair}
use Rattle.report_reader.proofs.answers.read_commit.Goals as goal

pub returns-in-empty : goal.returns-in-empty
returns-in-empty c = λ script level.
    let words = c.in_ok-word.ensures ∙ ap (λ rest. codes "commit" ∷ c.in_ok-word.word.now ∷ rest) (texts_none c.in_ok-word.words.now c.in-empty.len_below) in
    answer_same script level lines.Commit lines.Commit _ _ c.read_unnumbered.result refl words (c.read_unnumbered.ensures script level)

pub returns-in-len2 : goal.returns-in-len2
returns-in-len2 c = λ script level.
    let later = texts_pair c.in_ok-word.words.now _ (codes "at") c.in-len2.len_at_least c.in-len2.len_below (one_text _ _ (sym c.eq.ensures ∙ c.if-eq.true) ∙ c.as_slice.ensures) in
    let words = c.in_ok-word.ensures ∙ ap (λ rest. codes "commit" ∷ c.in_ok-word.word.now ∷ rest) later in
    answer_same script level lines.Commit lines.Commit _ _ c.read_committed.result refl words (c.read_committed.ensures script level)
