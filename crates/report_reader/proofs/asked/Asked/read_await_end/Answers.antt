use Rattle.std.proofs.Common.{◌∷◌, codes, refl, sym, ap, ◌∙◌}
use Rattle.std.proofs.lemmas.Result.{IfOk-weaker}
use Rattle.session_known.specs.declared.script.Line.TheVariants as lines
use Rattle.report_reader.proofs.ReadAnswerLemmas.{answer_same, await_words, shown_read, ended_read}
use Rattle.script_reader.specs.Words.{texts}
use Rattle.report_reader.proofs.ReadCellWords.{same_text}
use Rattle.report_reader.proofs.asked.Asked.read_await_end.Goals as goal

pub returns-in_default : goal.returns-in_default
returns-in_default c =
    IfOk-weaker c.read_shown.result _ _ (λ read reads session count. shown_read c.args.self.now.script.now c.args.self.now.level c.args.self.now.key session count (texts c.args.words.now) read c.in_default.ensures reads) c.read_shown.ensures

pub returns : goal.returns
returns c =
    let words = c.in-Some.ensures ∙ ap (λ up. codes "gave" ∷ up ∷ texts c.in-Some.ended.now) (same_text _ _ (sym c.ne.ensures ∙ c.if-ne.false) ∙ c.as_slice.ensures) in
    IfOk-weaker c.read_again.result _ _
    (λ read reads session count. answer_same c.args.self.now.script.now c.args.self.now.level (lines.Await c.args.self.now.key session count) (lines.Await c.args.self.now.key session count) _ _ read refl
    (ap (await_words c.args.self.now.script.now c.args.self.now.level c.args.self.now.key session count) words) (ended_read c.args.self.now.script.now c.args.self.now.level c.args.self.now.key session count (texts c.in-Some.ended.now) read reads))
    c.read_again.ensures
