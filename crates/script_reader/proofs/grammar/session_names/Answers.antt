use Rattle.std.proofs.Common.{List, ℕ, Bor, map, arith}
use Rattle.std.proofs.lemmas.List.{length-map}
use Rattle.script_reader.proofs.GrammarLemmas.{line_of_references, named_more, named_at_end, named_all}
use Rattle.script_reader.proofs.grammar.session_names.Goals as goal

pub returns-then-branch : goal.returns-then-branch
returns-then-branch c =
    named_at_end (map (λ line. line.now) c.args.lines.now) c.loop-line.line-index _ _ _ c.in_ok-add_session.field-0 (omega (arith, length-map c.args.lines.now (λ (line : Bor (List ℕ)). line.now))) (line_of_references c.args.lines.now c.loop-line.line-index _ c.loop-line-test.true) c.loop-line.invariant.named c.loop-line.invariant.no_end c.in_ok-add_session.ensures.0 c.if-branch.true c.in_ok-add_session.ensures.1

pub loop-line-preserved : goal.loop-line-preserved
loop-line-preserved c =
    let more = named_more (map (λ line. line.now) c.args.lines.now) c.loop-line.line-index _ _ _ c.in_ok-add_session.field-0 (omega (arith, length-map c.args.lines.now (λ (line : Bor (List ℕ)). line.now))) (line_of_references c.args.lines.now c.loop-line.line-index _ c.loop-line-test.true) c.loop-line.invariant.named c.loop-line.invariant.no_end c.in_ok-add_session.ensures.0 c.if-branch.false c.in_ok-add_session.ensures.1 in
    record { named = more.0; no_end = more.1 }

pub returns : goal.returns
returns c = named_all (map (λ line. line.now) c.args.lines.now) c.loop-line.line-index c.loop-line.names (omega (arith, length-map c.args.lines.now (λ (line : Bor (List ℕ)). line.now), c.loop-line-test.false)) c.loop-line.invariant.named c.loop-line.invariant.no_end
