use Rattle.std.proofs.Common.{◌≡◌, ℕ, ◌-◌, List, Bor, Some, map, length, slice_get, take, sym, ap, ◌∙◌, arith}
use Rattle.std.proofs.lemmas.Bool.Decides.{nat_tests}
use Rattle.std.specs.Vec.{vec_len}
use Rattle.script_reader.proofs.LineLemmas.{dropped_of_references, kept_of_references}
use Rattle.script_reader.proofs.lines.drop_empty_last.Goals as goal

pub returns-then-is_empty-clause-lines : goal.returns-then-is_empty-clause-lines
returns-then-is_empty-clause-lines c =
    let at : slice_get c.args.lines.now.items (length c.args.lines.now.items - 1) ≡ Some c.in-Some.last.now = sym (c.in-Some.ensures.value ∙ ap (λ (lines : List (Bor (List ℕ))). slice_get lines (length lines - 1)) c.deref.ensures.value) in
    let len : length c.args.lines.now.items ≡ vec_len c.args.lines.now = ap length (sym c.deref.ensures.value) ∙ c.deref.ensures.len in
    ap (map (λ line. line.now)) c.pop.ensures.rest ∙ ap (λ n. map (λ line. line.now) (take (n - 1) c.args.lines.now.items)) (sym len) ∙ dropped_of_references c.args.lines.now.items c.in-Some.last.now at (grind (arith, nat_tests))

pub returns-else-is_empty-clause-lines : goal.returns-else-is_empty-clause-lines
returns-else-is_empty-clause-lines c =
    let at : slice_get c.args.lines.now.items (length c.args.lines.now.items - 1) ≡ Some c.in-Some.last.now = sym (c.in-Some.ensures.value ∙ ap (λ (lines : List (Bor (List ℕ))). slice_get lines (length lines - 1)) c.deref.ensures.value) in
    kept_of_references c.args.lines.now.items c.in-Some.last.now at (λ empty. grind (arith, nat_tests))
