use Rattle.std.proofs.Common.{◌≡◌, List, ℕ, sym, subst, ◌∙◌, true, rules}
use Rattle.std.specs.Str.Parse.{ParsesUnsigned}
use Rattle.script_reader.proofs.WordLemmas.{no_text, number_parsed, numeral_is_text}
use Rattle.script_reader.specs.Words.{is_numeral}
use Rattle.script_reader.proofs.words.number.Goals as goal

pub returns-in_err-text : goal.returns-in_err-text
returns-in_err-text c =
    let digits : is_numeral c.args.word.now ≡ true = sym c.is_numeral.ensures ∙ c.if-not-is_numeral.false in
    absurd (no_text _ _ _ c.from_utf8.result (sym c.ok.ensures.value ∙ c.in_err-text.was) c.from_utf8.ensures.cases (numeral_is_text c.args.word.now digits))

pub returns : goal.returns
returns c =
    let digits : is_numeral c.args.word.now ≡ true = sym c.is_numeral.ensures ∙ c.if-not-is_numeral.false in
    let same : c.in_ok-text.text.now ≡ c.args.word.now = search rules in
    let reads = c.parse.ensures.value.0 in
    c.ok-2.ensures.value ∙ number_parsed c.args.word.now c.parse.result digits (subst (λ (word : List ℕ). ParsesUnsigned 64 10 word c.parse.result) same reads)
