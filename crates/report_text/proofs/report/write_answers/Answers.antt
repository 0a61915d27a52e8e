use Rattle.std.proofs.Common.{length, take, sym, ap, ◌∙◌, rules}
use Rattle.std.proofs.lemmas.Slice.Zip.{zip_turn, zip_end}
use Rattle.std.proofs.lemmas.List.{length_push}
use Rattle.std.specs.List.{flat_map, zip}
use Rattle.report_lines.specs.Text.{answer_words, line_text}
use Rattle.report_text.specs.Writes.{MayAnswer}
use Rattle.report_text.proofs.ReportLemmas.{zip_at, zip_all, All-zip, answers_text}
use Rattle.outside.proofs.GatheringLemmas.{Adds-none, Adds-as}
use Rattle.report_text.proofs.WritesLemmas.{Adds-next, All-at}
use Rattle.report_text.proofs.report.write_answers.Goals as goal

pub loop-line-init : goal.loop-line-init
loop-line-init g c = Adds-none

pub write_answer-requires : goal.write_answer-requires
write_answer-requires g c =
    let turn = zip_turn c.args.lines.now c.args.answers.now c.loop-line.yielded c.into_iter-line-iterator.result c.loop-line.line-iterator c.next.new.self c.next.result (search rules) (search rules) c.loop-line.yielded_by (c.in-Some.line, c.in-Some.answer) c.in-Some.is c.next.ensures.steps in
    let got = zip_at c.args.lines.now c.args.answers.now (length c.loop-line.yielded) c.in-Some.line.now c.in-Some.answer.now turn.0 turn.1 (turn.2 c.in-Some.line.now) (turn.3 c.in-Some.answer.now) in
    All-at (λ pair. MayAnswer c.args.script.now pair.0 pair.1) (zip c.args.lines.now c.args.answers.now) (length c.loop-line.yielded) (c.in-Some.line.now, c.in-Some.answer.now) got (All-zip (MayAnswer c.args.script.now) c.args.lines.now c.args.answers.now c.requires)

pub loop-line-preserved : goal.loop-line-preserved
loop-line-preserved g c =
    let turn = zip_turn c.args.lines.now c.args.answers.now c.loop-line.yielded c.into_iter-line-iterator.result c.loop-line.line-iterator c.next.new.self c.next.result (search rules) (search rules) c.loop-line.yielded_by (c.in-Some.line, c.in-Some.answer) c.in-Some.is c.next.ensures.steps in
    let got = zip_at c.args.lines.now c.args.answers.now (length c.loop-line.yielded) c.in-Some.line.now c.in-Some.answer.now turn.0 turn.1 (turn.2 c.in-Some.line.now) (turn.3 c.in-Some.answer.now) in
    Adds-as (ap (λ n. flat_map (λ pair. line_text (answer_words c.args.script.now pair.0 pair.1)) (take n (zip c.args.lines.now c.args.answers.now))) (sym (length_push c.loop-line.yielded (c.in-Some.line, c.in-Some.answer))))
    (Adds-next (λ pair. line_text (answer_words c.args.script.now pair.0 pair.1)) (zip c.args.lines.now c.args.answers.now) (length c.loop-line.yielded) (c.in-Some.line.now, c.in-Some.answer.now) got c.loop-line.invariant c.write_answer.ensures)

pub returns : goal.returns
returns g c =
    let end = zip_end c.args.lines.now c.args.answers.now c.loop-line.yielded c.into_iter-line-iterator.result c.loop-line.line-iterator c.next.new.self c.next.result (search rules) (search rules) c.loop-line.yielded_by c.in-None.is c.next.ensures.steps in
    Adds-as (sym (answers_text c.args.script.now c.args.lines.now c.args.answers.now ∙ ap (flat_map (λ pair. line_text (answer_words c.args.script.now pair.0 pair.1))) (zip_all c.args.lines.now c.args.answers.now (length c.loop-line.yielded) end))) c.loop-line.invariant
