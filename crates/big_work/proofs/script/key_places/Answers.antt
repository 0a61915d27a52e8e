use Rattle.std.proofs.Common.{◌≡◌, ◌-◌, [], ◌∷◌, ◌++◌, map, None, ap, ◌∙◌, arith}
use Rattle.std.specs.List.{range_with_len}
use Rattle.placement.specs.declared.config.KeyPlace.{KeyPlace}
use Rattle.big_work.specs.Big.{key_place}
use Rattle.big_work.proofs.DrawnLemmas.{range_pushed}
use Rattle.big_work.proofs.script.key_places.Goals as goal

pub loop-key-preserved : goal.loop-key-preserved
loop-key-preserved c =
    let before = c.loop-key.keys.items in
    let place : record { name = c.in_ok-name.field-0; pins = c.new-in-loop-key.result; factor = None } ≡ key_place c.loop-key.key =
    λ j. record { name = c.in_ok-name.ensures j; pins = (c.new-in-loop-key.ensures ∙ c.new.ensures.items) j; factor = None } in
    c.in_ok-push.ensures.items ∙ ap (λ (place : KeyPlace). before ++ place ∷ []) place ∙ range_pushed key_place c.loop-key.key before (omega arith) c.loop-key.invariant

pub returns : goal.returns
returns c =
    let last : c.loop-key.key ≡ 33 = omega arith in
    c.new-2.ensures ∙ c.loop-key.invariant ∙ ap (λ key. map key_place (range_with_len 1 (key - 1))) last
