use Rattle.std.proofs.Common.{◌∷◌, codes, refl, ap, arith, rules}
use Rattle.std.proofs.lemmas.Result.{IfOk-weaker}
use Rattle.std.proofs.lemmas.Slice.Eq.{text_from_reads}
use Rattle.session_known.specs.declared.script.Line.TheVariants as lines
use Rattle.session_known.specs.Script.{key_name}
use Rattle.report_reader.proofs.ReadAnswerLemmas.{answer_same, got_read, again_read}
use Rattle.script_reader.specs.Words.{texts}
use Rattle.report_reader.proofs.asked.Asked.read_get_end.Goals as goal

pub returns-in-get : goal.returns-in-get
returns-in-get c =
    let words = ap (λ first. first ∷ key_name c.args.self.now.script.now c.args.self.now.key ∷ texts c.args.words.now) (text_from_reads c.args.first.now (codes "get") (omega arith) (search rules)) in
    IfOk-weaker c.read_shown.result _ _
    (λ read reads named. answer_same c.args.self.now.script.now c.args.self.now.level (lines.Get c.args.self.now.key named) (lines.Get c.args.self.now.key named) _ _ read refl words (got_read c.args.self.now.script.now c.args.self.now.level c.args.self.now.key named (texts c.args.words.now) read reads))
    c.read_shown.ensures

pub returns-in-again : goal.returns-in-again
returns-in-again c =
    let words = ap (λ first. first ∷ key_name c.args.self.now.script.now c.args.self.now.key ∷ texts c.args.words.now) (text_from_reads c.args.first.now (codes "again") (omega arith) (search rules)) in
    IfOk-weaker c.read_again.result _ _
    (λ read reads named. answer_same c.args.self.now.script.now c.args.self.now.level (lines.Get c.args.self.now.key named) (lines.Get c.args.self.now.key named) _ _ read refl words (again_read c.args.self.now.script.now c.args.self.now.level c.args.self.now.key named (texts c.args.words.now) read reads))
    c.read_again.ensures
