use Rattle.std.proofs.Common.{◌≡◌, ◌-◌, [], ◌∷◌, ◌++◌, map, ap, ◌∙◌, arith}
use Rattle.std.specs.List.{range_with_len}
use Rattle.big_work.specs.Big.{key_kind}
use Rattle.big_work.proofs.DrawnLemmas.{range_pushed}
use Rattle.big_work.proofs.script.kinds.Goals as goal

pub loop-key-preserved : goal.loop-key-preserved
loop-key-preserved c =
    let before = c.loop-key.kinds.items in
    c.in_ok-push.ensures.items ∙ ap (λ kind. before ++ kind ∷ []) c.kind_of.ensures ∙ range_pushed key_kind c.loop-key.key before (omega arith) c.loop-key.invariant

pub returns : goal.returns
returns c =
    let last : c.loop-key.key ≡ 33 = omega arith in
    c.new.ensures ∙ c.loop-key.invariant ∙ ap (λ key. map key_kind (range_with_len 1 (key - 1))) last
