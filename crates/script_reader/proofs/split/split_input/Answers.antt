use Rattle.std.proofs.Common.{◌∙◌, sym, true, false, arith}
use Rattle.script_reader.proofs.SplitLemmas.{place_after}
use Rattle.script_reader.proofs.split.split_input.Goals as goal

pub returns-then-is_end_alone-clause-place : goal.returns-then-is_end_alone-clause-place
returns-then-is_end_alone-clause-place c =
    let place = place_after c.loop-line.rest.now c.in-Some.line.now c.in-Some.after.now true c.in-Some.ensures.0 (sym c.if-is_end_alone.true ∙ c.is_end_alone.ensures) in
    omega (arith, c.in-Some.ensures.1)

pub loop-line-preserved : goal.loop-line-preserved
loop-line-preserved c =
    let place = place_after c.loop-line.rest.now c.in-Some.line.now c.in-Some.after.now false c.in-Some.ensures.0 (sym c.if-is_end_alone.false ∙ c.is_end_alone.ensures) in
    record { within = omega (arith, c.in-Some.ensures.1); place = omega (arith, c.in-Some.ensures.1) }
