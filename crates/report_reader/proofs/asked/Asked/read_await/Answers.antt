use Rattle.std.proofs.Common.{◌∷◌, codes, refl, ap, ◌∙◌}
use Rattle.std.specs.Fmt.{decimal}
use Rattle.std.proofs.lemmas.Result.{IfOk-weaker}
use Rattle.session_known.specs.declared.script.Line.TheVariants as lines
use Rattle.session_known.specs.Script.{key_name, session_name}
use Rattle.report_reader.proofs.ReadAnswerLemmas.{answer_same}
use Rattle.script_reader.specs.Words.{texts}
use Rattle.report_reader.proofs.ReadCellWords.{texts_known}
use Rattle.report_reader.proofs.asked.Asked.read_await.Goals as goal

pub returns : goal.returns
returns c =
    let later = texts_known c.in-Some.words.now _ (session_name c.args.self.now.script.now c.args.session) (decimal c.args.count) c.in-len2-up.len_at_least (c.is_session.ensures.0 c.if-not-is_session.false) (c.is_number.ensures.0 c.if-not-is_number.false) in
    let words = c.in-Some.ensures ∙ ap (λ name. codes "await" ∷ name ∷ texts c.in-Some.words.now) (c.is_key.ensures.0 c.if-not-is_key.false) ∙ ap (λ rest. codes "await" ∷ key_name c.args.self.now.script.now c.args.self.now.key ∷ rest) later in
    IfOk-weaker c.read_await_end.result _ _
    (λ read reads. answer_same c.args.self.now.script.now c.args.self.now.level (lines.Await c.args.self.now.key c.args.session c.args.count) (lines.Await c.args.self.now.key c.args.session c.args.count) _ _ read refl words (reads c.args.session c.args.count))
    c.read_await_end.ensures
