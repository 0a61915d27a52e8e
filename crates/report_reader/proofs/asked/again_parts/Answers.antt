use Rattle.std.proofs.Common.{◌∷◌, codes, sym, ap, ◌∙◌}
use Rattle.report_reader.proofs.ReadCellWords.{one_text, texts_three}
use Rattle.report_reader.proofs.asked.again_parts.Goals as goal

pub returns-in-len3 : goal.returns-in-len3
returns-in-len3 c =
    let later = texts_three c.in_ok-asks.words.now _ (codes "clock") c.in-len3.len_at_least c.in-len3.len_below (one_text _ _ (sym c.eq.ensures ∙ c.if-eq.true) ∙ c.as_slice.ensures) in
    c.in_ok-asks.ensures ∙ ap (λ rest. codes "after" ∷ c.in_ok-asks.asks.now ∷ rest) later
