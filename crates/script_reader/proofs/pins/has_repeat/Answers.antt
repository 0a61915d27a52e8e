use Rattle.std.proofs.Common.{◌≡◌, Bool, true, false, not, cond, eqb, get_or, sym, ap, ◌∙◌, ◌++◌, ◌∷◌, []}
use Rattle.std.specs.List.{list_any}
use Rattle.std.proofs.lemmas.List.{take_more}
use Rattle.script_reader.proofs.PinLemmas.{repeats_more, repeats_found}
use Rattle.script_reader.proofs.pins.has_repeat.Goals as goal

was_not : (a : Bool) → not a ≡ true → a ≡ false
was_not true is = absurd cc
was_not false is = cc

was : (a : Bool) → not a ≡ false → a ≡ true
was true is = cc
was false is = absurd cc

pub returns-then-not-branch : goal.returns-then-not-branch
returns-then-not-branch c =
    sym (repeats_found c.args.numbers.now c.loop-n.n-index c.loop-n.met.keys c.loop-n-test.true c.loop-n.invariant.met (was _ (sym c.in_ok-insert.ensures.added ∙ c.if-not-branch.true)))

pub loop-n-preserved : goal.loop-n-preserved
loop-n-preserved c =
    let n = get_or c.args.numbers.now c.loop-n.n-index 0 in
    let keys = c.loop-n.met.keys in
    let new : list_any (eqb n) keys ≡ false = was_not _ (sym c.in_ok-insert.ensures.added ∙ c.if-not-branch.false) in
    record {
      met = c.in_ok-insert.ensures.keys ∙ ap (λ t. cond t keys (keys ++ n ∷ [])) new ∙ ap (λ front. front ++ n ∷ []) c.loop-n.invariant.met ∙ sym (take_more c.args.numbers.now c.loop-n.n-index 0 c.loop-n-test.true);
      once = repeats_more c.args.numbers.now c.loop-n.n-index keys c.loop-n-test.true c.loop-n.invariant.met c.loop-n.invariant.once new;
    }
