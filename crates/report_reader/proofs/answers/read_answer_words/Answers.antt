use Rattle.std.proofs.Common.{refl}
use Rattle.std.proofs.lemmas.Result.{IfOk-weaker}
use Rattle.session_known.specs.declared.script.Line.TheVariants as lines
use Rattle.report_reader.proofs.ReadAnswerLemmas.{answer_same}
use Rattle.report_reader.proofs.answers.read_answer_words.Goals as goal

pub returns-in-Put : goal.returns-in-Put
returns-in-Put c = answer_same c.args.script.now c.args.level c.args.line.now (lines.Put c.in-Put.key c.in-Put.payload) _ _ c.read_put.result c.in-Put.is refl (c.read_put.ensures c.in-Put.payload)

pub returns-in-Get : goal.returns-in-Get
returns-in-Get c =
    IfOk-weaker c.read_get.result _ _ (λ read reads. answer_same c.args.script.now c.args.level c.args.line.now (lines.Get c.in-Get.key c.in-Get.worker) _ _ read c.in-Get.is refl (reads c.in-Get.worker)) c.read_get.ensures

pub returns-in-Begin : goal.returns-in-Begin
returns-in-Begin c = answer_same c.args.script.now c.args.level c.args.line.now lines.Begin _ _ c.read_begin.result c.in-Begin.is refl (c.read_begin.ensures c.args.script.now c.args.level)

pub returns-in-Commit : goal.returns-in-Commit
returns-in-Commit c = answer_same c.args.script.now c.args.level c.args.line.now lines.Commit _ _ c.read_commit.result c.in-Commit.is refl (c.read_commit.ensures c.args.script.now c.args.level)

pub returns-in-Abort : goal.returns-in-Abort
returns-in-Abort c = answer_same c.args.script.now c.args.level c.args.line.now lines.Abort _ _ c.read_abort.result c.in-Abort.is refl (c.read_abort.ensures c.args.script.now c.args.level)
