use Rattle.std.proofs.Common.{refl}
use Rattle.std.proofs.lemmas.Result.{IfOk-weaker}
use Rattle.session_known.specs.declared.script.Line.TheVariants as lines
use Rattle.session_known.specs.Script.{key_name}
use Rattle.report_reader.proofs.ReadAnswerLemmas.{answer_same}
use Rattle.report_reader.proofs.ReadCellWords.{texts_second}
use Rattle.report_reader.proofs.asked.Asked.read_get.Goals as goal

pub returns : goal.returns
returns c =
    let words = texts_second c.args.words.now _ (key_name c.args.self.now.script.now c.args.self.now.key) c.in-len2-up.len_at_least (c.is_key.ensures.0 c.if-not-is_key.false) in
    IfOk-weaker c.read_get_end.result _ _ (λ read reads named. answer_same c.args.self.now.script.now c.args.self.now.level (lines.Get c.args.self.now.key named) (lines.Get c.args.self.now.key named) _ _ read refl words (reads named)) c.read_get_end.ensures
