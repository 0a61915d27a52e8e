use Rattle.std.proofs.Common.{◌≡◌, Some, true, map, sym, ap, subst, ◌∙◌, rules}
use Rattle.std.proofs.lemmas.Iterator.{YieldsList-from_slice}
use Rattle.std.proofs.lemmas.Iterator.Search.{all_from_yields_List}
use Rattle.std.specs.List.{list_all}
use borrow.Author.Tests.{tests}
use Rattle.script_reader.specs.Faults.{code_said, is_text_byte}
use Rattle.script_reader.specs.Keywords.{is_end}
use Rattle.script_reader.specs.LineReads.{HasReadLine}
use Rattle.script_reader.specs.Lines.{statement_in, statement_of}
use Rattle.script_reader.specs.Reader.{so_far, IsFaultOf}
use Rattle.script_reader.proofs.GrammarLemmas.{line_read, line_fault}
use Rattle.script_reader.proofs.grammar.read_line.Goals as goal

pub returns-in-Ok : goal.returns-in-Ok
returns-in-Ok c =
    let said : statement_of c.args.line.now ≡ Some (record { keyword = c.in-Some.keyword; words = map (λ word. word.now) c.in-Some.rest.now }) = ap statement_in (sym c.in_ok-words.ensures ∙ ap (map (λ word. word.now)) (sym c.deref.ensures.value)) ∙ c.in-Some.ensures in
    let text : list_all is_text_byte c.args.line.now ≡ true = sym (all_from_yields_List is_text_byte _ _ c.all.result c.all.ensures.ran (YieldsList-from_slice c.args.line.now cc) (λ x b q k. search (rules, tests))) ∙ c.if-not-all.false in
    let now : c.eq.result ≡ is_end c.in-Some.keyword = search rules in
    subst (λ ended. HasReadLine c.args.reader.now c.take.new.self ended c.eq.result c.args.line.now (statement_of c.args.line.now)) (sym c.if-ended.false)
    (line_read c.args.reader.now c.take.new.self c.args.line.now (statement_of c.args.line.now) c.in-Some.keyword (map (λ word. word.now) c.in-Some.rest.now) c.eq.result said text c.in-Ok.ensures now)

pub returns : goal.returns
returns c =
    let said : statement_of c.args.line.now ≡ Some (record { keyword = c.in-Some.keyword; words = map (λ word. word.now) c.in-Some.rest.now }) = ap statement_in (sym c.in_ok-words.ensures ∙ ap (map (λ word. word.now)) (sym c.deref.ensures.value)) ∙ c.in-Some.ensures in
    let text : list_all is_text_byte c.args.line.now ≡ true = sym (all_from_yields_List is_text_byte _ _ c.all.result c.all.ensures.ran (YieldsList-from_slice c.args.line.now cc) (λ x b q k. search (rules, tests))) ∙ c.if-not-all.false in
    subst (λ ended. IsFaultOf (code_said (so_far c.args.reader.now) ended c.args.line.now (statement_of c.args.line.now)) c.in-Err.fault) (sym c.if-ended.false)
    (line_fault c.args.reader.now c.args.line.now (statement_of c.args.line.now) c.in-Some.keyword (map (λ word. word.now) c.in-Some.rest.now) c.in-Err.fault said text c.in-Err.ensures)
