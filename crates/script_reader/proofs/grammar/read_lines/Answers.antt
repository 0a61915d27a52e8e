use Rattle.std.proofs.Common.{[], ◌+◌, List, ℕ, Bor, map, length, sym, subst, ap, ◌∙◌, inr, arith}
use Rattle.std.proofs.lemmas.List.{length-map}
use Rattle.script_reader.specs.Faults.{context_of}
use Rattle.script_reader.specs.Grammar.{IsScriptOf, sessions_named}
use Rattle.script_reader.specs.LineReads.{IsWhyNoLines}
use Rattle.script_reader.proofs.GrammarLemmas.{line_of_references, read_none, read_more, read_fault, read_missing, read_script}
use Rattle.script_reader.proofs.grammar.read_lines.Goals as goal

pub loop-i-init : goal.loop-i-init
loop-i-init c =
    let lines : List (List ℕ) = map (λ line. line.now) c.args.lines.now in
    read_none (sessions_named lines) lines c.new-reader.result c.new-reader.ensures.kept (c.new-reader.ensures.nothing ∙ ap (λ named. context_of named []) c.in_ok-names.ensures)

pub returns-in-Err-clause-refused : goal.returns-in-Err-clause-refused
returns-in-Err-clause-refused c =
    let lines : List (List ℕ) = map (λ line. line.now) c.args.lines.now in
    let fault = read_fault (sessions_named lines) lines c.loop-i.i c.loop-i.reader c.loop-i.ended _ c.in-Err.fault c.loop-i.invariant (omega (arith, length-map c.args.lines.now (λ (line : Bor (List ℕ)). line.now))) (line_of_references c.args.lines.now c.loop-i.i _ c.loop-i-test.true) c.in-Err.ensures in
    subst (IsWhyNoLines (sessions_named lines) lines) (sym c.fault_at.ensures) fault

pub loop-i-preserved : goal.loop-i-preserved
loop-i-preserved c =
    let lines : List (List ℕ) = map (λ line. line.now) c.args.lines.now in
    read_more (sessions_named lines) lines c.loop-i.i c.loop-i.reader c.read_line.new.reader c.loop-i.ended c.in-Ok.now _ c.loop-i.invariant (omega (arith, length-map c.args.lines.now (λ (line : Bor (List ℕ)). line.now))) (line_of_references c.args.lines.now c.loop-i.i _ c.loop-i-test.true) c.in-Ok.ensures

pub returns-then-not-ended-clause-refused : goal.returns-then-not-ended-clause-refused
returns-then-not-ended-clause-refused c =
    let lines : List (List ℕ) = map (λ line. line.now) c.args.lines.now in
    let all = length-map c.args.lines.now (λ (line : Bor (List ℕ)). line.now) in
    let missing = read_missing (sessions_named lines) lines c.loop-i.i c.loop-i.reader c.loop-i.ended c.loop-i.invariant (omega (arith, all)) c.if-not-ended.true (length c.args.lines.now + 1) (omega (arith, all)) in
    subst (IsWhyNoLines (sessions_named lines) lines) (sym c.refused.ensures) (inr missing)

pub returns-clause-script : goal.returns-clause-script
returns-clause-script c =
    let lines : List (List ℕ) = map (λ line. line.now) c.args.lines.now in
    let all = length-map c.args.lines.now (λ (line : Bor (List ℕ)). line.now) in
    subst (IsScriptOf (sessions_named lines) lines) (sym c.in_ok-into_script.ensures) (read_script (sessions_named lines) lines c.loop-i.i c.loop-i.reader c.loop-i.ended c.loop-i.invariant (omega (arith, all)) c.if-not-ended.false)
